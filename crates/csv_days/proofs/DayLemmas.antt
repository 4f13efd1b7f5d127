-- Messages one after another.
use Rattle.std.proofs.Common.{◌≡◌, ◌<◌, ◌+◌, ◌∷◌, ◌++◌, ◌∙◌, [], ℕ, suc, List, Result, None, take, get_or, length, map, fold, ap, arith, refl, sym, append-nil, append_assoc, length-append}
use Rattle.std.proofs.lemmas.List.{map_more, take_more}
use Rattle.std.proofs.lemmas.List.Sums.{fold_push}
use Rattle.indexmap.specs.IndexSet.{insert_all, insert_key}
use Rattle.std.specs.Prelude.{Bool}
use Rattle.reports.specs.declared.message.Message.{Message}
use Rattle.tape_core.specs.Tape.{TapeState}
use Rattle.tape_core.specs.declared.refusal.Refusal.{Refusal}
use Rattle.tape_core.specs.Answers.{answer, answers, tape_after}
use Rattle.csv_days.specs.Days.{AnswersMore, HasAnswered}
use Rattle.csv_days.specs.Refusals.{AreRefusals}
use Rattle.csv_days.specs.StaleRows.{first_stale, number_before, stale_after, stale_row}
use Rattle.csv_messages.specs.Tables.{FIRST_ROW}
use Rattle.csv_days.specs.declared.day.TableDay.{TableDay}
use Rattle.csv_days.proofs.StaleLemmas.{first_stale-more}

-- ## One message more

-- the answer to one message more
pub answers-push : (t : TapeState) (before : List Message) (m : Message)
    → answers t (before ++ m ∷ []) ≡ answers t before ++ answer (fold tape_after t before) m ∷ []
unfolding answers
answers-push t [] m = refl
answers-push t (b ∷ before) m = ap (λ (l : List (Result ℕ Refusal)). answer t b ∷ l) (answers-push (tape_after t b) before m)

-- each message has an answer
pub length-answers : (t : TapeState) (messages : List Message) → length (answers t messages) ≡ length messages
unfolding answers
length-answers t [] = refl
length-answers t (m ∷ messages) = ap suc (length-answers (tape_after t m) messages)

-- a day that answered one message more
pub AnswersMore-answer : (old new : TableDay) (m : Message) (answered : Result ℕ Refusal) (greatest : ℕ) → answered ≡ answer old.tape m
    → new.tape ≡ tape_after old.tape m → new.row ≡ old.row + 1 → greatest ≡ number_before old.tape m
    → new.refusals.stale ≡ stale_after old.refusals.stale answered (stale_row m greatest)
    → ((answers : List (Result ℕ Refusal)) → old.row ≡ length answers + FIRST_ROW → AreRefusals answers old.refusals → AreRefusals (answers ++ answered ∷ []) new.refusals)
    → AnswersMore old new (m ∷ [])
AnswersMore-answer old new m answered greatest is tape row last noted counted t before had = record {
  tape = tape ∙ ap (λ (s : TapeState). tape_after s m) had.tape ∙ sym (fold_push tape_after t before m);
  refusals = rw (answers-push t before m, sym had.tape, sym is) (counted (answers t before) (had.row ∙ ap (λ (n : ℕ). n + FIRST_ROW) (sym (length-answers t before))) had.refusals);
  stale = first_stale-more t old.tape before m answered greatest old.refusals.stale new.refusals.stale had.tape is last had.stale noted;
  row = omega (arith, row, had.row, length-append before (m ∷ []));
}

-- a day that stays as it is has answered no message more
pub AnswersMore-none : (day : TableDay) → AnswersMore day day []
AnswersMore-none day = λ t before had. rw (append-nil before) had

-- a day that answered messages, and then others
pub AnswersMore-both : (old mid new : TableDay) (first second : List Message) → AnswersMore old mid first → AnswersMore mid new second
    → AnswersMore old new (first ++ second)
AnswersMore-both old mid new first second one two = λ t before had. rw (← append_assoc before first second) (two t (before ++ first) (one t before had))

-- a day that answered one message more of some
pub AnswersMore-one : (old mid new : TableDay) (messages : List Message) (i : ℕ) (m : Message) → i < length messages → get_or messages i m ≡ m
    → AnswersMore old mid (take i messages) → AnswersMore mid new (m ∷ []) → AnswersMore old new (take (i + 1) messages)
AnswersMore-one old mid new messages i m within is so_far more =
    rw (take_more messages i m within, is) (AnswersMore-both old mid new (take i messages) (m ∷ []) so_far more)

-- the tape of one message more
pub tapes-more : (t : TapeState) (messages : List Message) (i : ℕ) (m : Message) → i < length messages → get_or messages i m ≡ m
    → fold tape_after t (take (i + 1) messages) ≡ tape_after (fold tape_after t (take i messages)) m
tapes-more t messages i m within is =
    ap (fold tape_after t) (take_more messages i m within ∙ ap (λ (n : Message). take i messages ++ n ∷ []) is)
    ∙ fold_push tape_after t (take i messages) m

-- a day with a tape that answered nothing
pub HasAnswered-none : (t : TapeState) (day : TableDay) → day.tape ≡ t → AreRefusals [] day.refusals → day.refusals.stale ≡ None → day.row ≡ FIRST_ROW
    → HasAnswered t [] day
unfolding answers first_stale
HasAnswered-none t day tape refusals stale row = record { tape = tape; refusals = refusals; stale = stale; row = row }
