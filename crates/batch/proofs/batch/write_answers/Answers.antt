use Rattle.std.proofs.Common.{◌≡◌, ◌∷◌, ◌++◌, ◌+◌, ◌<◌, ◌∙◌, [], ℕ, List, Option, Result, Err, Ok, OnErr, ap, append-nil, drop, get_or, length}
use Rattle.std.proofs.Common.{subst, sym, take}
use Rattle.std.specs.List.{flat_map}
use Rattle.std.proofs.lemmas.Grind.{flat_map-append}
use Rattle.std.proofs.lemmas.List.{take-append-drop, take_more}
use Rattle.batch.specs.Batch.{answer_line}
use Rattle.whole_io.specs.Writing.{WritesPrefix, WritesUpTo}
use Rattle.batch.specs.declared.batch_refusal.BatchRefusal.{BatchRefusal}
use Rattle.whole_io.specs.Lemmas.WriteLemmas.{WritesPrefix-after, WritesPrefix-gathered, WritesPrefix-longer, WritesUpTo-gathered}
use Rattle.batch.proofs.batch.write_answers.Goals as goal

-- what holds anyway holds at an error
OnErr-any : {T E : Type 0} (r : Result T E) (P : Type 0) → P → OnErr r P
OnErr-any (Ok value) P p = tt
OnErr-any (Err error) P p = p

-- what follows from what holds at an error
OnErr-map : {T E : Type 0} (r : Result T E) (P Q : Type 0) → (P → Q) → OnErr r P → OnErr r Q
OnErr-map (Ok value) P Q f p = tt
OnErr-map (Err error) P Q f p = f p

-- the text of one answer more
one_more : (answers : List (Result ℕ BatchRefusal)) (i : ℕ) (answer : Result ℕ BatchRefusal) → i < length answers → answer ≡ get_or answers i answer
    → flat_map answer_line (take i answers) ++ answer_line answer ≡ flat_map answer_line (take (i + 1) answers)
one_more answers i answer lt is = sym
    (ap (flat_map answer_line) (take_more answers i answer lt ∙ ap (λ (r : Result ℕ BatchRefusal). take i answers ++ r ∷ []) (sym is))
    ∙ flat_map-append answer_line (take i answers) (answer ∷ [])
    ∙ ap (λ (l : List ℕ). flat_map answer_line (take i answers) ++ l) (append-nil (answer_line answer)))

-- a prefix of the text of the first answers is one of the text of all
first_answers : (answers : List (Result ℕ BatchRefusal)) (n : ℕ) (old new : Option (List ℕ)) → WritesPrefix (flat_map answer_line (take n answers)) old new
    → WritesPrefix (flat_map answer_line answers) old new
first_answers answers n old new front = subst (λ (l : List ℕ). WritesPrefix l old new)
    (sym (flat_map-append answer_line (take n answers) (drop n answers)) ∙ ap (flat_map answer_line) (take-append-drop n answers))
    (WritesPrefix-longer (flat_map answer_line (take n answers)) (flat_map answer_line (drop n answers)) old new front)

pub loop-answer-preserved : goal.loop-answer-preserved
loop-answer-preserved g c = record {
  room = c.in_ok-write_piece.ensures.room;
  so_far = subst (λ (l : List ℕ). WritesUpTo l c.write_piece.new.self (g.W.Write.contents c.args.writer.now) (g.W.Write.contents c.write_piece.new.writer))
      (one_more c.args.answers.now c.loop-answer.answer-index c.answer-item.result c.loop-answer-test.true c.answer-item.is)
      (WritesUpTo-gathered _ c.loop-answer.buffer c.push_answer.new.self c.write_piece.new.self (answer_line c.answer-item.result) _
      (g.W.Write.contents c.loop-answer.writer) (g.W.Write.contents c.write_piece.new.writer)
      c.push_answer.ensures c.loop-answer.invariant.so_far c.in_ok-write_piece.ensures.written);
}

pub returns-in_err-write_piece-clause-prefix : goal.returns-in_err-write_piece-clause-prefix
returns-in_err-write_piece-clause-prefix g c =
    let old = g.W.Write.contents c.args.writer.now in
    let now = g.W.Write.contents c.loop-answer.writer in
    let new = g.W.Write.contents c.write_piece.new.writer in
    let answers = c.args.answers.now in
    let i = c.loop-answer.answer-index in
    let front = WritesPrefix-gathered (flat_map answer_line (take i answers)) c.loop-answer.buffer c.push_answer.new.self
    (answer_line c.answer-item.result) old now new
    c.push_answer.ensures c.loop-answer.invariant.so_far c.in_err-write_piece.ensures.prefix in
    OnErr-any c.from_residual.result _ (first_answers answers (i + 1) old new
    (subst (λ (l : List ℕ). WritesPrefix l old new) (one_more answers i c.answer-item.result c.loop-answer-test.true c.answer-item.is) front))

pub returns-clause-prefix : goal.returns-clause-prefix
returns-clause-prefix g c =
    let old = g.W.Write.contents c.args.writer.now in
    let now = g.W.Write.contents c.loop-answer.writer in
    let new = g.W.Write.contents c.write_to.new.writer in
    let answers = c.args.answers.now in
    let i = c.loop-answer.answer-index in
    OnErr-map c.write_to.result _ _
    (λ front. first_answers answers i old new
    (WritesPrefix-after (flat_map answer_line (take i answers)) c.loop-answer.buffer old now new c.loop-answer.invariant.so_far front))
    c.write_to.ensures.prefix
