use Rattle.std.proofs.Common.{◌∙◌, Bor, List, ℕ, ap}
use Rattle.std.proofs.lemmas.List.{take_rest}
use Rattle.whole_io.specs.Lemmas.WriteLemmas.{WritesUpTo-both, WritesUpTo-count, WritesUpTo-kept}
use Rattle.whole_io.proofs.writing.write_text.Goals.{in-Err, in-Ok}
use Rattle.whole_io.proofs.writing.write_text.Goals as goal

pub loop-preserved : goal.loop-preserved
loop-preserved g c = elim c.match-write.branch [
  | in-Ok w ↦ WritesUpTo-both _ _ _ _ _ _ c.loop.invariant
      (WritesUpTo-count _ _ _ _ w.in-Ok.count w.in-Ok.ensures.bytes (ap (λ (b : Bor (List ℕ)). b.now) w.rest-is ∙ take_rest c.loop.rest.now w.in-Ok.count))
  | in-Err w ↦ rw w.rest-is (WritesUpTo-both _ _ _ _ _ _ c.loop.invariant (WritesUpTo-kept _ _ _ w.in-Err.ensures.bytes))
]
