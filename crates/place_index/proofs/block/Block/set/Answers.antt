use Rattle.std.proofs.Common.{ap, sym, ◌∙◌}
use Rattle.std.specs.FinMap as map
use Rattle.place_index.specs.Blocks.{top}
use Rattle.tape_types.specs.Lemmas.RisingEntries.{keyed-itself}
use Rattle.place_index.proofs.BlockMaps.{length-written, seen, some-seen, values-put, written-over}
use Rattle.place_index.proofs.block.Block.set.Goals as goal

pub set-former-requires : goal.set-former-requires
set-former-requires g c = record { present = some-seen c.self.inside.entries.values c.args.self.now c.self.view_is c.args.place c.requires.present }

pub invariant_of-self : goal.invariant_of-self
invariant_of-self g c = c.top_of-self-inside.ensures ∙ ap top (sym (keyed-itself c.entries.result.now) ∙ c.entries.ensures.entries)

pub returns-clause-rising : goal.returns-clause-rising
returns-clause-rising g c = map.entries_sorted c.set-former.new.self.values

pub returns-clause-written : goal.returns-clause-written
returns-clause-written g c =
    λ i at. written-over c.self.inside.entries.values c.args.self.now c.self.view_is c.args.place c.set-former.new.self.values c.args.value i
    c.set-former.ensures.changed at

pub returns-clause-former : goal.returns-clause-former
returns-clause-former g c = c.set-former.ensures.former ∙ ap (λ m. map.get m c.args.place) (seen c.self.inside.entries.values c.args.self.now c.self.view_is)

pub returns-clause-changed : goal.returns-clause-changed
returns-clause-changed g c =
    values-put c.self.inside.entries.values c.args.self.now c.self.view_is c.args.place c.set-former.new.self.values c.args.value c.set-former.ensures.changed

pub returns-clause-same_length : goal.returns-clause-same_length
returns-clause-same_length g c =
    length-written c.self.inside.entries.values c.args.self.now c.self.view_is c.args.place c.set-former.new.self.values c.args.value
    c.set-former.ensures.changed c.requires.present
