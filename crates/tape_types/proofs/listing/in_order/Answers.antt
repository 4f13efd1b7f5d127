use Rattle.std.proofs.Common.{◌≡◌, true, Bool, ap, sym, ◌∙◌, if◌then◌else◌}
use Rattle.std.specs.List.{list_any}
use Rattle.tape_types.specs.declared.listing_fault.ListingFault.TheVariants.{OutOfMemory, Repeated}
use Rattle.tape_types.proofs.Repeats.{has_repeat-found, insert_key-next, of_not}
use Rattle.tape_types.proofs.listing.in_order.Goals as goal

pub returns-in-Ok-false-clause-fault : goal.returns-in-Ok-false-clause-fault
returns-in-Ok-false-clause-fault g c =
    let eq = g.T.PartialEq.eq in
    let here : list_any (eq c.name-item.result) c.loop-name.set.keys ≡ true = of_not _ _ c.in-Ok-false.ensures.added c.in-Ok-false.field-0-test in
    sym (ap (λ (b : Bool). if b then Repeated else OutOfMemory)
    (has_repeat-found eq c.args.names.now c.loop-name.name-index c.name-item.result c.loop-name-test.true c.name-item.is
    (ap (list_any (eq c.name-item.result)) (sym c.loop-name.invariant.keys) ∙ here)))

pub loop-name-preserved : goal.loop-name-preserved
loop-name-preserved g c =
    let eq = g.T.PartialEq.eq in
    let next = insert_key-next eq c.args.names.now c.loop-name.set.keys c.loop-name.name-index c.name-item.result c.loop-name-test.true c.name-item.is
    c.loop-name.invariant.keys c.loop-name.invariant.distinct (of_not _ _ c.in-Ok-true.ensures.added c.in-Ok-true.field-0-test) in
    record { keys = c.in-Ok-true.ensures.keys ∙ next.0; distinct = next.1 }
