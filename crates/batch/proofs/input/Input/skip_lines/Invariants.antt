use Rattle.std.proofs.Common.{◌-◌, ℕ, List}
use Rattle.batch.specs.Batch.{INPUT_MOST}
use Rattle.batch.specs.Input.{TakesLines}
use Rattle.batch.proofs.input.Input.skip_lines.Given as goal

abbrev pub invariant-loop : goal.invariant-loop
invariant-loop g l = (lines : List (List ℕ))
    × TakesLines (g.B.Read.remaining l.fn.self.left) (g.B.Read.remaining l.self.left) l.fn.self.taken l.self.taken lines

abbrev pub decreases-loop : goal.decreases-loop
decreases-loop g l = INPUT_MOST - l.self.taken
