use Rattle.std.proofs.Common.{subst, sym}
use Rattle.tape_frames.specs.Lemmas.Legal.{legal-IsPublished}
use Rattle.tape_frames.specs.Lemmas.Sources.{IsPublished-take}
use Rattle.tape_frames.specs.Sources.{IsPublished}
use Rattle.tapebox_c.proofs.readings.packet_in.Goals as goal

pub new-source-requires : goal.new-source-requires
new-source-requires c =
    IsPublished-take c.min-many.result c.entries-entries.result.now
    (subst IsPublished (sym c.entries-entries.ensures.entries) (legal-IsPublished c.args.tape.now c.entries-entries.ensures.legal))
