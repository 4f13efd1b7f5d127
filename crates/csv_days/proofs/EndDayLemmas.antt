-- Messages one after another, of a day of which only the end is asked.
use Rattle.std.proofs.Common.{◌≡◌, ◌<◌, ◌+◌, ◌∷◌, ◌++◌, ◌∙◌, [], ℕ, List, Result, None, nat_eq, take, get_or, length, map, fold, ap, subst, arith, refl, sym, append-nil, append_assoc, length-append}
use Rattle.std.proofs.lemmas.List.{map-append, take_more}
use Rattle.std.proofs.lemmas.List.Sums.{fold_push}
use Rattle.indexmap.specs.IndexSet.{insert_all, insert_key}
use Rattle.std.specs.Prelude.{Bool}
use Rattle.tape_types.specs.Names.{Names, symbol_eq}
use Rattle.sale_matrix.specs.declared.matrix.Matrix.{Matrix}
use Rattle.reports.specs.declared.message.Message.{Message}
use Rattle.tape_core.specs.Ending.{IsKept, IsKeptFor, KeepsEnd, ListsNames}
use Rattle.tape_core.specs.Tape.{TapeState}
use Rattle.tape_core.specs.declared.refusal.Refusal.{Refusal}
use Rattle.csv_messages.specs.Tables.{FIRST_ROW}
use Rattle.tape_core.specs.Answers.{answer, answers, tape_after}
use Rattle.csv_days.specs.Days.{first_tape, names_of, symbol_of, tape_of}
use Rattle.csv_days.specs.EndDays.{AreNames, EndsMore, HasEnded, IsEnding, tape_by_names}
use Rattle.csv_days.specs.Refusals.{AreRefusals}
use Rattle.csv_days.specs.StaleRows.{first_stale, number_before, stale_after, stale_row}
use Rattle.csv_days.specs.declared.day_names.DayNames.{DayNames}
use Rattle.csv_days.specs.declared.end_day.EndDay.{EndDay}
use Rattle.csv_days.proofs.DayLemmas.{answers-push, length-answers}
use Rattle.csv_days.proofs.StaleLemmas.{first_stale-more}
use Rattle.csv_days.proofs.ListingLemmas.{ListsAll-names, ListsAll-one, ListsAll-parts, listing-kept}

-- the tape after messages, of a listing
abbrev after : Matrix → Names → List Message → TapeState
after matrix listing messages = fold tape_after (tape_by_names matrix listing) messages

-- that tape lists a message's names if the listing has them
still-listed : (matrix : Matrix) (listing : Names) (messages : List Message) (m : Message) → ListsNames listing m
    → ListsNames (after matrix listing messages).listing m
still-listed matrix listing messages m lists = subst (λ l. ListsNames l m) (sym (listing-kept (tape_by_names matrix listing) messages)) lists

-- what is kept of the day's tape is that of a tape that lists the next message's names
pub IsKeptFor-next : (day : EndDay) (m : Message) → IsEnding day → IsKeptFor day.tape m
IsKeptFor-next day m (matrix, messages, had) =
    let listing = names_of (messages ++ m ∷ []) in
    let parts = ListsAll-parts listing messages (m ∷ []) (ListsAll-names (messages ++ m ∷ [])) in
    (after matrix listing messages, had.tape listing parts.0, still-listed matrix listing messages m (ListsAll-one listing m parts.1))

-- and so it is that of some tape
pub IsKept-ending : (day : EndDay) → IsEnding day → IsKept day.tape
IsKept-ending day (matrix, messages, had) = (after matrix (names_of messages) messages, had.tape (names_of messages) (ListsAll-names messages))

-- a day that answered more goes on
pub IsEnding-more : (old new : EndDay) (messages : List Message) → EndsMore old new messages → IsEnding old → IsEnding new
IsEnding-more old new messages more (matrix, before, had) = (matrix, before ++ messages, more matrix before had)

-- a day that answered one message more
pub EndsMore-answer : (old new : EndDay) (m : Message) (answered : Result ℕ Refusal) (greatest : ℕ)
    → ((messages : List Message) → AreNames messages old.names → AreNames (messages ++ m ∷ []) new.names)
    → ((t : TapeState) → KeepsEnd t old.tape → ListsNames t.listing m → answered ≡ answer t m)
    → ((t : TapeState) → KeepsEnd t old.tape → ListsNames t.listing m → KeepsEnd (tape_after t m) new.tape)
    → ((t : TapeState) → KeepsEnd t old.tape → greatest ≡ number_before t m)
    → new.refusals.stale ≡ stale_after old.refusals.stale answered (stale_row m greatest)
    → new.row ≡ old.row + 1
    → ((answers : List (Result ℕ Refusal)) → old.row ≡ length answers + FIRST_ROW → AreRefusals answers old.refusals → AreRefusals (answers ++ answered ∷ []) new.refusals)
    → EndsMore old new (m ∷ [])
EndsMore-answer old new m answered greatest named is tape last stale row counted matrix before had = record {
  names = named before had.names;
  tape = λ listing all.
      let parts = ListsAll-parts listing before (m ∷ []) all in
      let lists = still-listed matrix listing before m (ListsAll-one listing m parts.1) in
      subst (λ s. KeepsEnd s new.tape) (sym (fold_push tape_after (tape_by_names matrix listing) before m))
      (tape (after matrix listing before) (had.tape listing parts.0) lists);
  stale = λ listing all.
      let parts = ListsAll-parts listing before (m ∷ []) all in
      let lists = still-listed matrix listing before m (ListsAll-one listing m parts.1) in
      let s = after matrix listing before in
      first_stale-more (tape_by_names matrix listing) s before m answered greatest old.refusals.stale new.refusals.stale refl
      (is s (had.tape listing parts.0) lists) (last s (had.tape listing parts.0)) (had.stale listing parts.0) stale;
  refusals = λ listing all.
      let parts = ListsAll-parts listing before (m ∷ []) all in
      let lists = still-listed matrix listing before m (ListsAll-one listing m parts.1) in
      let t = tape_by_names matrix listing in
      rw (answers-push t before m, sym (is (after matrix listing before) (had.tape listing parts.0) lists))
      (counted (answers t before) (had.row ∙ ap (λ (n : ℕ). n + FIRST_ROW) (sym (length-answers t before))) (had.refusals listing parts.0));
  row = omega (arith, row, had.row, length-append before (m ∷ []));
}

-- a day that stays as it is has answered no message more
pub EndsMore-none : (day : EndDay) → EndsMore day day []
EndsMore-none day = λ matrix before had. subst (λ ms. HasEnded matrix ms day) (sym (append-nil before)) had

-- a day that answered messages, and then others
pub EndsMore-both : (old mid new : EndDay) (first second : List Message) → EndsMore old mid first → EndsMore mid new second
    → EndsMore old new (first ++ second)
EndsMore-both old mid new first second one two = λ matrix before had.
    subst (λ ms. HasEnded matrix ms new) (append_assoc before first second) (two matrix (before ++ first) (one matrix before had))

-- a day that answered one message more of some
pub EndsMore-one : (old mid new : EndDay) (messages : List Message) (i : ℕ) (m : Message) → i < length messages → get_or messages i m ≡ m
    → EndsMore old mid (take i messages) → EndsMore mid new (m ∷ []) → EndsMore old new (take (i + 1) messages)
EndsMore-one old mid new messages i m within is so_far more =
    subst (EndsMore old new) (sym (take_more messages i m within ∙ ap (λ n. take i messages ++ n ∷ []) is))
    (EndsMore-both old mid new (take i messages) (m ∷ []) so_far more)

-- a day that has answered nothing
pub HasEnded-none : (matrix : Matrix) (day : EndDay) → AreNames [] day.names → ((listing : Names) → KeepsEnd (tape_by_names matrix listing) day.tape)
    → AreRefusals [] day.refusals → day.refusals.stale ≡ None → day.row ≡ FIRST_ROW
    → HasEnded matrix [] day
unfolding answers first_stale
HasEnded-none matrix day names tape refusals stale row = record {
  names = names;
  tape = λ listing all. tape listing;
  refusals = λ listing all. refusals;
  stale = λ listing all. stale;
  row = row;
}

-- ## The whole day

module _ (matrix : Matrix) (messages : List Message) (day : EndDay) (had : HasEnded matrix messages day) where
  -- what is kept is that of the tape of the messages
  pub HasEnded-tape : KeepsEnd (tape_of matrix messages) day.tape
  HasEnded-tape = had.tape (names_of messages) (ListsAll-names messages)

  -- whose refusals these are
  pub HasEnded-refusals : AreRefusals (answers (first_tape matrix messages) messages) day.refusals
  HasEnded-refusals = had.refusals (names_of messages) (ListsAll-names messages)

  -- and this is the first row that it refused as stale
  pub HasEnded-stale : day.refusals.stale ≡ first_stale (first_tape matrix messages) messages
  HasEnded-stale = had.stale (names_of messages) (ListsAll-names messages)

  -- and whose listing has their names
  pub HasEnded-listing : (listing : Names) → listing ≡ names_of messages → (tape_of matrix messages).listing ≡ listing
  HasEnded-listing listing is = listing-kept (first_tape matrix messages) messages ∙ sym is
