use Rattle.std.proofs.Common.{◌≡◌, ℕ, ◌+◌, ◌-◌, length}
use Rattle.symbol_book.specs.Stores.{participant_effects, AllSettled}
use Rattle.symbol_book.proofs.participant_stores.make_room.Given as goal

abbrev pub invariant-loop-alloc : goal.invariant-loop-alloc
invariant-loop-alloc g l = record {
  same : (who : ℕ) → participant_effects g.S.Store.effects l.own.items who ≡ participant_effects g.S.Store.effects l.initial.own.items who;
  settled : AllSettled g.S.Store.staged_change l.own.items;
}

abbrev pub decreases-loop-alloc : goal.decreases-loop-alloc
decreases-loop-alloc g l = l.index + 1 - length l.own.items
