use Rattle.std.proofs.Common.{rules, ◌≡◌, ◌+◌, ℕ, length, subst, ap, ◌∙◌, arith}
use Rattle.tape_core.specs.Tape.{TapeState}
use Rattle.line_ledger.specs.Cells.{SeenAt}
use Rattle.line_ledger.specs.Days.{LockedState}
use Rattle.line_ledger.proofs.Pushes.{next_seen_push}
use Rattle.line_ledger.proofs.locked.Locked.set_next.Goals as goal

-- one more cell was set and is counted
pub loop-done-preserved : goal.loop-done-preserved
loop-done-preserved g c =
    let first = c.args.self.now in
    let names = c.args.row.now in
    let seen = c.loop-done.seen.items in
    let one = c.in_ok-set_one.field-0 in
    let before = c.loop-done.self in
    let was : before ≡ record first { set = first.set + c.loop-done.done } = c.loop-done.invariant.0 in
    let tape : before.tape ≡ first.tape = ap (λ (l : LockedState). l.tape) was in
    let set : before.set ≡ first.set + c.loop-done.done = ap (λ (l : LockedState). l.set) was in
    let number : before.set ≡ first.set + length seen = omega (arith, set, c.loop-done.invariant.1) in
    let at : SeenAt names first.tape.entries (first.set + length seen) one =
    subst (λ (n : ℕ). SeenAt names first.tape.entries n one) number
    (subst (λ (t : TapeState). SeenAt names t.entries before.set one) tape c.in_ok-set_one.ensures.seen) in
    let one_more : (first.set + c.loop-done.done) + 1 ≡ first.set + (c.loop-done.done + 1) = omega arith in (
      c.in_ok-set_one.ensures.counted ∙ ap (λ (l : LockedState). record l { set = l.set + 1 }) was ∙ ap (λ (n : ℕ). record first { set = n }) one_more,
      search rules,
      search rules,
      next_seen_push names first.tape.entries first.set seen c.push_reserved.new.self.items one c.loop-done.invariant.3 at c.push_reserved.ensures.items,
    )
