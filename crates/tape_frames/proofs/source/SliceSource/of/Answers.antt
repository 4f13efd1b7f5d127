use Rattle.std.proofs.Common.{subst, sym}
use Rattle.tape_frames.specs.Sources.{IsPublished}
use Rattle.tape_frames.specs.Lemmas.Legal.{legal-IsPublished}
use Rattle.tape_frames.proofs.source.SliceSource.of.Goals as goal

pub invariant_of-result : goal.invariant_of-result
invariant_of-result g c = subst IsPublished (sym c.entries.ensures.entries) (legal-IsPublished c.args.tape.now c.entries.ensures.legal)
