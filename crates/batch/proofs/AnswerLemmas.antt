-- Shows the answers to lines and the tape after them, one line at a time.
use Rattle.std.proofs.Common.{◌≡◌, ◌∷◌, ◌++◌, [], ℕ, List, Result, refl, ap}
use Rattle.tape_core.specs.Tape.{TapeState}
use Rattle.batch.specs.Batch.{line_answer, line_answers, tape_after_lines, tape_after_line}
use Rattle.batch.specs.declared.batch_refusal.BatchRefusal.{BatchRefusal}

-- the answers to one more line
pub line_answers-push : (t : TapeState) (lines : List (List ℕ)) (line : List ℕ)
    → line_answers t (lines ++ line ∷ []) ≡ line_answers t lines ++ line_answer (tape_after_lines t lines) line ∷ []
unfolding line_answers
line_answers-push t [] line = refl
line_answers-push t (first ∷ lines) line = ap (λ (l : List (Result ℕ BatchRefusal)). line_answer t first ∷ l)
    (line_answers-push (tape_after_line t first) lines line)

-- the tape after one more line
pub tape_after_lines-push : (t : TapeState) (lines : List (List ℕ)) (line : List ℕ)
    → tape_after_lines t (lines ++ line ∷ []) ≡ tape_after_line (tape_after_lines t lines) line
tape_after_lines-push t [] line = refl
tape_after_lines-push t (first ∷ lines) line = tape_after_lines-push (tape_after_line t first) lines line
