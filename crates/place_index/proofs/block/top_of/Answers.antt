use Rattle.std.proofs.Common.{◌∙◌, sym, ap}
use Rattle.std.specs.Option.{option_copied}
use Rattle.place_index.proofs.BlockOrder.{top-some}
use Rattle.place_index.proofs.block.top_of.Goals as goal

pub returns-in-Some : goal.returns-in-Some
returns-in-Some g c =
    c.value.ensures.value
    ∙ top-some c.before.before.before.before.args.entries.now c.in-Some.field-0.now (sym c.last.ensures.value ∙ ap option_copied c.in-Some.is)
