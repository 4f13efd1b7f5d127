use Rattle.std.proofs.Common.{ap, sym, ◌∙◌}
use Rattle.std.specs.FinMap as map
use Rattle.place_index.specs.Blocks.{top}
use Rattle.tape_types.specs.Lemmas.RisingEntries.{keyed-itself}
use Rattle.place_index.proofs.BlockMaps.{absent-same, length-out, seen, taken-out, values-removed}
use Rattle.place_index.proofs.block.Block.remove.Goals as goal

-- if the place had no value, the last place stays right
pub invariant_of-self : goal.invariant_of-self
invariant_of-self g c =
    c.self.invariant
    ∙ ap top (c.self.view_is
    ∙ sym (absent-same c.self.inside.entries.values c.args.self.now c.self.view_is c.args.place c.remove.new.self.values c.remove.ensures.removed
    (sym c.in_err-value.ensures.value)))

pub returns-in_err-value-clause-rising : goal.returns-in_err-value-clause-rising
returns-in_err-value-clause-rising g c = map.entries_sorted c.remove.new.self.values

pub returns-in_err-value-clause-taken : goal.returns-in_err-value-clause-taken
returns-in_err-value-clause-taken g c =
    λ i at. taken-out c.self.inside.entries.values c.args.self.now c.self.view_is c.args.place c.remove.new.self.values i c.remove.ensures.removed at

pub returns-in_err-value-clause-absent : goal.returns-in_err-value-clause-absent
returns-in_err-value-clause-absent g c =
    λ _. absent-same c.self.inside.entries.values c.args.self.now c.self.view_is c.args.place c.remove.new.self.values c.remove.ensures.removed
    (sym c.in_err-value.ensures.value)

pub returns-in_err-value-clause-value : goal.returns-in_err-value-clause-value
returns-in_err-value-clause-value g c =
    c.from_residual.ensures ∙ c.in_err-value.ensures.value
    ∙ ap (λ m. map.get m c.args.place) (seen c.self.inside.entries.values c.args.self.now c.self.view_is)

pub returns-in_err-value-clause-removed : goal.returns-in_err-value-clause-removed
returns-in_err-value-clause-removed g c =
    values-removed c.self.inside.entries.values c.args.self.now c.self.view_is c.args.place c.remove.new.self.values c.remove.ensures.removed

-- if the place had a value, the last place is found anew
pub invariant_of-self-2 : goal.invariant_of-self-2
invariant_of-self-2 g c = c.top_of-self-inside.ensures ∙ ap top (sym (keyed-itself c.entries.result.now) ∙ c.entries.ensures.entries)

pub returns-clause-rising : goal.returns-clause-rising
returns-clause-rising g c = map.entries_sorted c.remove.new.self.values

pub returns-clause-taken : goal.returns-clause-taken
returns-clause-taken g c =
    λ i at. taken-out c.self.inside.entries.values c.args.self.now c.self.view_is c.args.place c.remove.new.self.values i c.remove.ensures.removed at

pub returns-clause-value : goal.returns-clause-value
returns-clause-value g c =
    c.in_ok-value.ensures.value ∙ ap (λ m. map.get m c.args.place) (seen c.self.inside.entries.values c.args.self.now c.self.view_is)

pub returns-clause-removed : goal.returns-clause-removed
returns-clause-removed g c =
    values-removed c.self.inside.entries.values c.args.self.now c.self.view_is c.args.place c.remove.new.self.values c.remove.ensures.removed

pub returns-in_err-value-clause-shrunk : goal.returns-in_err-value-clause-shrunk
returns-in_err-value-clause-shrunk g c =
    length-out c.self.inside.entries.values c.args.self.now c.self.view_is c.args.place c.remove.new.self.values c.remove.ensures.removed

pub returns-clause-shrunk : goal.returns-clause-shrunk
returns-clause-shrunk g c =
    length-out c.self.inside.entries.values c.args.self.now c.self.view_is c.args.place c.remove.new.self.values c.remove.ensures.removed
