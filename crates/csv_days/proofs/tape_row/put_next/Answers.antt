use Rattle.std.proofs.Common.{◌∙◌, ap}
use Rattle.tape_types.specs.Names.{Names}
use Rattle.tape_core.specs.Tape.{TapeState, lists_symbol}
use Rattle.csv_days.specs.Days.{symbol_of}
use Rattle.csv_days.proofs.ListingLemmas.{listing-after}
use Rattle.csv_days.proofs.tape_row.put_next.Goals as goal

pub figures_of-figures-requires : goal.figures_of-figures-requires
figures_of-figures-requires c =
    ap (λ (names : Names). lists_symbol names (symbol_of c.args.message))
    (ap (λ (t : TapeState). t.listing) c.in_ok-answered.ensures.tape ∙ listing-after c.args.day.now.tape c.args.message)
    ∙ c.requires.listed
