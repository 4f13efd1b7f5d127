use Rattle.std.proofs.Common.{arith, ◌≡◌, ◌≤◌, Option, Some, None, IfSome, refl, subst, sym, ◌∙◌}
use Rattle.line_ledger.specs.Cells.{FirstTokens, HaveAll}
use Rattle.feed_ends.specs.Faults.{fault_status}
use Rattle.live_feed.specs.Faults.{NoneBefore}
use Rattle.feed_ends.specs.declared.fault.Fault.{Fault}
use Rattle.live_feed.proofs.Sendings.{shown_all}
use Rattle.live_feed.proofs.live.finish_day.Goals as goal

-- the tokens of the shared tape's cells are those of the day's
pub is_as_sent-requires : goal.is_as_sent-requires
is_as_sent-requires g c = subst (λ names. FirstTokens names c.args.joined.sent.tokens.items) (sym c.in_ok-day.ensures.cells) c.requires.tokens

-- nothing of two is before their least
least_of_one : (fault : Fault) (least met : Option Fault) → least ≡ Some fault
    → IfSome least (λ f. IfSome met (λ other. fault_status f ≤ fault_status other)) → NoneBefore fault met
least_of_one fault least met same lesser =
    subst (λ (l : Option Fault). IfSome l (λ f. IfSome met (λ other. fault_status f ≤ fault_status other))) same lesser

-- what nothing of two is before, neither is one of them before
least_of_all : (fault : Fault) (met least : Option Fault) → NoneBefore fault least → (least ≡ None → met ≡ None)
    → IfSome least (λ f. IfSome met (λ other. fault_status f ≤ fault_status other)) → NoneBefore fault met
least_of_all fault None least near none lesser = tt
least_of_all fault (Some met) None near none lesser = let h : Some met ≡ None = none refl in cc
least_of_all fault (Some met) (Some least) near none lesser = omega arith

pub returns-in-Some-clause-least : goal.returns-in-Some-clause-least
returns-in-Some-clause-least g c =
    let sides : NoneBefore c.in-Some.fault c.least-at_the_sides.result = least_of_one _ _ _ c.in-Some.is c.least.ensures.one in
    let lines : NoneBefore c.in-Some.fault c.args.joined.ran.fault = least_of_one _ _ _ c.in-Some.is c.least.ensures.other in (
      subst (NoneBefore c.in-Some.fault) c.into_fault.ensures
          (least_of_all _ _ _ sides (λ none. (c.least-at_the_sides.ensures.none.0 none).0) c.least-at_the_sides.ensures.one),
      least_of_all _ _ _ sides (λ none. (c.least-at_the_sides.ensures.none.0 none).1) c.least-at_the_sides.ensures.other,
      lines,
    )

-- the tokens of what was sent show the day's entries
pub invariant_of-result : goal.invariant_of-result
invariant_of-result g c =
    let entries = c.in_ok-day.day.tape.entries in
    let tokens = c.args.joined.sent.tokens.items in
    let many = c.is_as_sent.ensures.number c.if-not-is_as_sent.false in
    let has : HaveAll entries tokens = c.is_as_sent.ensures.tokens c.if-not-is_as_sent.false in
    record { sent = shown_all _ tokens entries c.requires.tokens has (many.0 ∙ sym many.1) }
