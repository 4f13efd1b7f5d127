-- Shows what a day that answers lines one after another has answered.
use Rattle.std.proofs.Common.{◌≡◌, ◌≢◌, ◌↔◌, ◌∷◌, ◌++◌, ◌∙◌, [], ℕ, ◌+◌, List, Option, Some, None, IfSome, length, Bool, true, false, Result, Ok, Err, IsOk, IsTrue, OnOk}
use Rattle.std.proofs.Common.{refl, sym, ap, append_assoc, append-nil}
use Rattle.std.specs.Io.KnownBytes.{Consumes, Keeps}
use Rattle.tape_core.specs.Tape.{TapeState}
use Rattle.tape_core.specs.declared.refusal.Refusal.TheVariants.{OutOfMemory}
use Rattle.batch.specs.Batch.{RunsOut, line_answer, line_answers, tape_after_lines, tape_after_line}
use Rattle.batch.specs.Day.{AnswersLines, AnswersMore, AnswersTaken, HasAnswered}
use Rattle.batch.specs.Input.{TakesLines}
use Rattle.batch.specs.Lines.{ends_a_line, lines_of}
use Rattle.batch.specs.declared.day.BatchDay.{BatchDay}
use Rattle.batch.specs.declared.batch_refusal.BatchRefusal.{BatchRefusal}
use Rattle.batch.specs.declared.batch_refusal.BatchRefusal.TheVariants.{Refused}
use Rattle.batch.proofs.AnswerLemmas.{line_answers-push, tape_after_lines-push}
use Rattle.batch.proofs.InputLemmas.{TakesLines-both, TakesLines-kept, TakesLines-whole}

-- lines after the one at which memory ran out change nothing
pub RunsOut-more : (t : TapeState) (lines more : List (List ℕ)) (answers : List (Result ℕ BatchRefusal)) → RunsOut t lines answers
    → RunsOut t (lines ++ more) answers
RunsOut-more t lines more answers out = record {
  answered = out.answered;
  refused = out.refused;
  left = out.left ++ more;
  split = ap (λ (l : List (List ℕ)). l ++ more) out.split ∙ append_assoc out.answered (out.refused ∷ out.left) more;
  acceptable = out.acceptable;
  answers_are = out.answers_are;
}

-- one more line is answered, or memory runs out at it
pub AnswersLines-line : (t : TapeState) (lines : List (List ℕ)) (line : List ℕ) (now next : TapeState) (answers pushed : List (Result ℕ BatchRefusal))
    (answer : Result ℕ BatchRefusal) (stops : Bool)
    → pushed ≡ answers ++ answer ∷ [] → IsTrue stops ↔ (answer ≡ Err (Refused OutOfMemory))
    → ((answer ≢ Err (Refused OutOfMemory)) → answer ≡ line_answer now line) → ((answer ≢ Err (Refused OutOfMemory)) → next ≡ tape_after_line now line)
    → (answer ≡ Err (Refused OutOfMemory) → IsOk (line_answer now line))
    → AnswersLines t lines false now answers → AnswersLines t (lines ++ line ∷ []) stops next pushed
AnswersLines-line t lines line now next answers pushed answer false is stops answered tape memory so_far =
    let other : answer ≢ Err (Refused OutOfMemory) = λ e. cc (stops.1 e) in (
      tape other ∙ ap (λ (s : TapeState). tape_after_line s line) so_far.0 ∙ sym (tape_after_lines-push t lines line),
      is ∙ ap (λ (r : Result ℕ BatchRefusal). answers ++ r ∷ []) (answered other ∙ ap (λ (s : TapeState). line_answer s line) so_far.0)
          ∙ ap (λ (l : List (Result ℕ BatchRefusal)). l ++ line_answer (tape_after_lines t lines) line ∷ []) so_far.1 ∙ sym (line_answers-push t lines line),
    )
AnswersLines-line t lines line now next answers pushed answer true is stops answered tape memory so_far = record {
  answered = lines;
  refused = line;
  left = [];
  split = refl;
  acceptable = rw (← so_far.0) (memory (stops.0 refl));
  answers_are = is ∙ ap (λ (r : Result ℕ BatchRefusal). answers ++ r ∷ []) (stops.0 refl)
      ∙ ap (λ (l : List (Result ℕ BatchRefusal)). l ++ Err (Refused OutOfMemory) ∷ []) so_far.1;
}

-- a day that stays as it is has answered no further line
pub AnswersMore-none : (day : BatchDay) → AnswersMore day day []
AnswersMore-none day = λ t before so_far. rw (append-nil before) so_far

-- lines, and then others
pub AnswersMore-both : (a b c : BatchDay) (lines more : List (List ℕ)) → AnswersMore a b lines → AnswersMore b c more → AnswersMore a c (lines ++ more)
AnswersMore-both a b c lines more first second = λ t before so_far. rw (← append_assoc before lines more) (second t (before ++ lines) (first t before so_far))

-- some of these lines were answered, and these are left
pub record AnsweredSome (old now : BatchDay) (lines left : List (List ℕ)) : Type 0 where
  pub done : List (List ℕ)
  pub split : lines ≡ done ++ left
  pub more : AnswersMore old now done

-- the first of the lines that were left is answered too
pub AnsweredSome-line : (old now next : BatchDay) (lines left rest : List (List ℕ)) (line : List ℕ) → left ≡ line ∷ rest → AnswersMore now next (line ∷ [])
    → AnsweredSome old now lines left → AnsweredSome old next lines rest
AnsweredSome-line old now next lines left rest line is more so_far = record {
  done = so_far.done ++ line ∷ [];
  split = so_far.split ∙ ap (λ (l : List (List ℕ)). so_far.done ++ l) is ∙ sym (append_assoc so_far.done (line ∷ []) rest);
  more = AnswersMore-both old now next so_far.done (line ∷ []) so_far.more more;
}

-- the whole lines at the front of an input were answered and taken
pub AnswersTaken-front : (old now : BatchDay) (bytes left : Option (List ℕ)) (front : List ℕ) (taken taken_now : ℕ)
    → AnswersMore old now (lines_of front) → ends_a_line front ≡ true → Consumes bytes left front → taken_now ≡ taken + length front
    → AnswersTaken old now bytes left taken taken_now
AnswersTaken-front old now bytes left front taken taken_now more whole lost counted = record {
  lines = lines_of front;
  answered = more;
  took = TakesLines-whole bytes left front taken taken_now whole lost counted;
}

-- a fact that holds at any result
pub OnOk-always : {A E P : Type 0} (r : Result A E) → P → OnOk r P
OnOk-always (Ok x) p = p
OnOk-always (Err e) p = tt

-- nothing was answered, and nothing taken
pub AnswersTaken-none : (day : BatchDay) (bytes left : Option (List ℕ)) (taken : ℕ) → Keeps bytes left → AnswersTaken day day bytes left taken taken
AnswersTaken-none day bytes left taken kept = record {
  lines = [];
  answered = AnswersMore-none day;
  took = TakesLines-kept bytes left taken kept;
}

-- lines were answered and taken, and then others
pub AnswersTaken-both : (old mid now : BatchDay) (a b c : Option (List ℕ)) (t t1 t2 : ℕ) → AnswersTaken old mid a b t t1 → AnswersTaken mid now b c t1 t2
    → AnswersTaken old now a c t t2
AnswersTaken-both old mid now a b c t t1 t2 first second = record {
  lines = first.lines ++ second.lines;
  answered = AnswersMore-both old mid now first.lines second.lines first.answered second.answered;
  took = TakesLines-both a b c t t1 t2 first.lines second.lines first.took second.took;
}

-- a line was taken and answered
pub AnswersTaken-line : (old now : BatchDay) (a b : Option (List ℕ)) (t t1 : ℕ) (line : List ℕ) → AnswersMore old now (line ∷ []) → TakesLines a b t t1 (line ∷ [])
    → AnswersTaken old now a b t t1
AnswersTaken-line old now a b t t1 line more took = record {
  lines = line ∷ [];
  answered = more;
  took = took;
}

-- a new day that answered all lines of an input
pub HasAnswered-all : (t : TapeState) (new now : BatchDay) (bytes : Option (List ℕ)) → new.tape ≡ t → new.answers.items ≡ [] → new.is_stopped ≡ false
    → IfSome bytes (λ b. AnswersMore new now (lines_of b)) → IfSome bytes (λ b. HasAnswered t (lines_of b) now)
unfolding line_answers
HasAnswered-all t new now None tape answers goes_on more = tt
HasAnswered-all t new now (Some b) tape answers goes_on more = more t [] (rw (goes_on) (tape, answers))
