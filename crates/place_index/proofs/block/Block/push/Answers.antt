use Rattle.std.proofs.Common.{[], ◌∷◌, ap, arith, subst, sym, ◌∙◌}
use Rattle.std.specs.FinMap as map
use Rattle.place_index.specs.Blocks.{top}
use Rattle.place_index.proofs.BlockMaps.{length-put, put-behind, seen, values-put}
use Rattle.place_index.proofs.BlockOrder.{top-right}
use Rattle.place_index.proofs.block.Block.push.Goals as goal
use Rattle.tape_types.specs.RisingEntries.{AllBelow}

pub push-requires : goal.push-requires
push-requires g c = record {
  above = subst (λ m. AllBelow m c.args.place) (sym (seen c.self.inside.entries.values c.args.self.now c.self.view_is)) c.requires.above;
}

pub returns-in_err-push-clause-rising : goal.returns-in_err-push-clause-rising
returns-in_err-push-clause-rising g c = map.entries_sorted c.push.new.self.values

pub invariant_of-self-2 : goal.invariant_of-self-2
invariant_of-self-2 g c =
    c.value-self-inside.ensures.value
    ∙ sym (ap top (put-behind c.self.inside.entries.values c.args.self.now c.self.view_is c.args.place c.push.new.self.values c.args.value
    c.in_ok-push.ensures.ok c.requires.above)
    ∙ top-right c.args.self.now ((c.args.place, c.args.value) ∷ []) (omega arith))

pub returns-clause-rising : goal.returns-clause-rising
returns-clause-rising g c = map.entries_sorted c.push.new.self.values

pub returns-clause-pushed : goal.returns-clause-pushed
returns-clause-pushed g c =
    put-behind c.self.inside.entries.values c.args.self.now c.self.view_is c.args.place c.push.new.self.values c.args.value c.in_ok-push.ensures.ok
    c.requires.above

pub returns-clause-ok : goal.returns-clause-ok
returns-clause-ok g c =
    values-put c.self.inside.entries.values c.args.self.now c.self.view_is c.args.place c.push.new.self.values c.args.value c.in_ok-push.ensures.ok

pub returns-clause-grown : goal.returns-clause-grown
returns-clause-grown g c =
    length-put c.self.inside.entries.values c.args.self.now c.self.view_is c.args.place c.push.new.self.values c.args.value c.in_ok-push.ensures.ok
