use Rattle.std.proofs.Common.{ap, sym, ◌∙◌}
use Rattle.std.specs.FinMap as map
use Rattle.place_index.specs.Blocks.{top}
use Rattle.tape_types.specs.Lemmas.RisingEntries.{keyed-itself}
use Rattle.place_index.proofs.BlockMaps.{length-put, put-in, vacant-seen, values-put}
use Rattle.place_index.proofs.block.Block.insert.Goals as goal

pub insert-requires : goal.insert-requires
insert-requires g c = record { vacant = vacant-seen c.self.inside.entries.values c.args.self.now c.self.view_is c.args.place c.requires.vacant }

pub returns-in_err-insert-clause-rising : goal.returns-in_err-insert-clause-rising
returns-in_err-insert-clause-rising g c = map.entries_sorted c.insert.new.self.values

pub invariant_of-self-2 : goal.invariant_of-self-2
invariant_of-self-2 g c = c.top_of-self-inside.ensures ∙ ap top (sym (keyed-itself c.entries.result.now) ∙ c.entries.ensures.entries)

pub returns-clause-rising : goal.returns-clause-rising
returns-clause-rising g c = map.entries_sorted c.insert.new.self.values

pub returns-clause-placed : goal.returns-clause-placed
returns-clause-placed g c =
    λ i p. put-in c.self.inside.entries.values c.args.self.now c.self.view_is c.args.place c.insert.new.self.values c.args.value i c.in_ok-insert.ensures.ok
    c.requires.vacant p

pub returns-clause-ok : goal.returns-clause-ok
returns-clause-ok g c =
    values-put c.self.inside.entries.values c.args.self.now c.self.view_is c.args.place c.insert.new.self.values c.args.value c.in_ok-insert.ensures.ok

pub returns-clause-grown : goal.returns-clause-grown
returns-clause-grown g c =
    length-put c.self.inside.entries.values c.args.self.now c.self.view_is c.args.place c.insert.new.self.values c.args.value c.in_ok-insert.ensures.ok
