use Rattle.std.proofs.Common.{◌+◌, arith, sym, ap, ◌∙◌, Option}
use Rattle.std.specs.Borrow.{Bor}
use Rattle.std.specs.Option.{option_map}
use Rattle.tape_core.specs.declared.entry.Entry.{Entry}
use Rattle.arbitration.specs.Windows.{flat}
use Rattle.arbitration.specs.Deliveries.{known_entry}
use Rattle.arbitration.proofs.Conflicts.{agrees_known, known_held, known_waiting, slot_got}
use Rattle.arbitration.proofs.refusal.agrees.Goals as goal

pub returns-then-number-base : goal.returns-then-number-base
returns-then-number-base c =
    let held = c.args.held.now in
    let slots = c.args.slots.now.items in
    let other = c.index-held-number.result in
    let known = ap (known_entry held (c.args.base + 1) slots) (sym c.value-number.ensures.value)
    ∙ known_held held c.args.base slots c.value-number.result other c.requires.base (omega arith) (omega arith) c.index-held-number.is in
    let decides = agrees_known held (c.args.base + 1) slots c.args.entry.now other known in
    (λ same. decides.0 (sym c.eq.ensures ∙ same), λ agrees. c.eq.ensures ∙ decides.1 agrees)

pub returns-in-Some-Some : goal.returns-in-Some-Some
returns-in-Some-Some c =
    let held = c.args.held.now in
    let slots = c.args.slots.now.items in
    let other = c.in-Some-Some.waiting in
    let known = ap (known_entry held (c.args.base + 1) slots) (sym c.value-number.ensures.value)
    ∙ known_waiting held c.args.base slots c.value-number.result (omega arith)
    ∙ slot_got slots _ c.get.result c.get.ensures.item
    ∙ ap (λ (r : Option (Bor (Option Entry))). flat (option_map (λ (x : Bor (Option Entry)). x.now) r)) c.in-Some-Some.is
    ∙ c.in-Some-Some.field-0-is in
    let decides = agrees_known held (c.args.base + 1) slots c.args.entry.now other known in
    (λ same. decides.0 (sym c.eq-in-Some-Some.ensures ∙ same), λ agrees. c.eq-in-Some-Some.ensures ∙ decides.1 agrees)
