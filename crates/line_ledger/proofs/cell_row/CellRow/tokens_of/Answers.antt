use Rattle.std.proofs.Common.{rules, ◌≡◌, ◌+◌, ◌∷◌, ℕ, List, subst, sym}
use Rattle.std.specs.Vec.Iter.{into_iter_items}
use Rattle.tape_core.specs.declared.entry.Entry.{Entry}
use Rattle.seen_cells.specs.declared.Seen.{Seen}
use Rattle.line_ledger.specs.Cells.{TokenAt, NextSeen}
use Rattle.line_ledger.proofs.Pushes.{next_none, next_push, next_seen_first}
use Rattle.line_ledger.proofs.cell_row.CellRow.tokens_of.Goals as goal

-- none is taken yet
pub loop-one-init : goal.loop-one-init
loop-one-init c = (
  search rules,
  search rules,
  search rules,
  search rules,
  subst (λ (xs : List (Seen Entry)). NextSeen c.args.self.now c.args.entries.now c.args.set xs) (sym c.into_iter-left.ensures.rest) c.requires.seen,
  next_none c.args.self.now c.args.entries.now c.args.set c.args.room.items c.requires.empty,
)

-- the next that is left is the next that was seen
pub token_of-requires-clause-seen : goal.token_of-requires-clause-seen
token_of-requires-clause-seen c =
    let rest = into_iter_items c.next.new.self in
    let here : into_iter_items c.loop-one.left ≡ c.in-Some.one ∷ rest = search rules in
    (next_seen_first c.args.self.now c.args.entries.now c.loop-one.at c.in-Some.one rest
    (subst (λ (xs : List (Seen Entry)). NextSeen c.args.self.now c.args.entries.now c.loop-one.at xs) here c.loop-one.invariant.4)).0

-- one more token
pub loop-one-preserved : goal.loop-one-preserved
loop-one-preserved c =
    let names = c.args.self.now in
    let entries = c.args.entries.now in
    let rest = into_iter_items c.next.new.self in
    let here : into_iter_items c.loop-one.left ≡ c.in-Some.one ∷ rest = search rules in
    let token = c.token_of.result in (
      search rules,
      search rules,
      search rules,
      search rules,
      (next_seen_first names entries c.loop-one.at c.in-Some.one rest
          (subst (λ (xs : List (Seen Entry)). NextSeen names entries c.loop-one.at xs) here c.loop-one.invariant.4)).1,
      next_push names entries c.args.set c.loop-one.tokens.items c.push_reserved.new.self.items token c.loop-one.invariant.5
          (subst (λ (n : ℕ). TokenAt names entries (n + 1) token) c.loop-one.invariant.0 c.token_of.ensures.token) c.push_reserved.ensures.items,
    )
