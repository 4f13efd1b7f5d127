use Rattle.std.proofs.Common.{◌≡◌, ap, arith, length, subst, sym}
use Rattle.std.proofs.Common.{◌+◌, List, ℕ, take}
use Rattle.tape_core.specs.Tape.{messages_of}
use Rattle.csv_days.specs.Accounts.{AreChanges}
use Rattle.csv_days.proofs.AccountLemmas.{AreChanges-along, whole-written}
use Rattle.csv_days.proofs.account.changes_of.Goals as goal

pub loop-entry-preserved : goal.loop-entry-preserved
loop-entry-preserved c =
    let items = c.loop-entry.changes.items in
    let lent = c.deref_mut.result.now in
    let sized : length items ≡ c.loop-entry.changes.len = omega (arith, c.loop-entry.changes.ok.0, c.loop-entry.changes.ok.1) in
    let same : lent ≡ items = c.deref_mut.ensures.value in
    let kept : length c.note_change.new.changes ≡ length items = omega (arith, c.note_change.auto.changes, ap length same) in
    let tape = c.args.tape.now in
    subst (λ (l : List ℕ). AreChanges (messages_of tape.entries) (messages_of (take (c.loop-entry.entry-index + 1) c.entries-entries.result.now)) l)
    (sym (whole-written c.loop-entry.changes.len items c.note_change.new.changes sized kept))
    (AreChanges-along tape.entries c.entries-entries.result.now lent c.loop-entry.entry-index c.entry-item.result items c.note_change.new.changes
    c.entries-entries.ensures.entries c.loop-entry-test.true (sym c.entry-item.is) kept same c.note_change.ensures c.loop-entry.invariant)
