use Rattle.std.proofs.Common.{rules, ◌≡◌, subst}
use Rattle.line_ledger.specs.Ends.{IsOneEach, IsDispute}
use Rattle.line_ledger.specs.declared.end_fault.Disagreement.{Disagreement}
use Rattle.line_ledger.proofs.Endings.{ended, disputed}
use Rattle.line_ledger.proofs.shared.SharedTape.end.Goals as goal

pub returns-in-Ok-clause-ok : goal.returns-in-Ok-clause-ok
returns-in-Ok-clause-ok g c =
    let each : IsOneEach g.D.DayName.terms.listing.participants c.args.seats.items = search rules in
    ended g.D.DayName.terms c.into_inner-locked.result.tape c.args.seats.items c.in-Ok.ensures.day each c.in-Ok.ensures.sum c.in-Ok.day.tape
    c.in-Ok.ensures.ok c.in-Ok.ensures.told

pub returns-in-Err-clause-disagrees : goal.returns-in-Err-clause-disagrees
returns-in-Err-clause-disagrees g c = λ d is.
    let same : c.in-Err.disagreement ≡ d = cc in
    let each : IsOneEach g.D.DayName.terms.listing.participants c.args.seats.items = search rules in
    subst (λ (x : Disagreement). IsDispute g.D.DayName.terms c.args.seats.items x.participant x.at x.tape) same
    (disputed g.D.DayName.terms c.into_inner-locked.result.tape c.args.seats.items c.in-Err.ensures.day each c.in-Err.ensures.sum
    c.in-Err.disagreement.tape c.in-Err.disagreement.participant c.in-Err.disagreement.at c.in-Err.ensures.err c.in-Err.ensures.disagrees)
