use Rattle.std.proofs.Common.{◌≡◌, [], ◌∷◌, Option, Some, inl, inr, sym, ap, subst}
use Rattle.live_feed.specs.Faults.{IsLeast}
use Rattle.feed_ends.specs.declared.fault.Fault.{Fault}
use Rattle.live_feed.specs.declared.sender.SenderEnd.{SenderEnd}
use Rattle.live_feed.proofs.Least.{least_of_two}
use Rattle.live_feed.proofs.reporting.end_and_report.Goals as goal
use Rattle.live_feed.proofs.reporting.end_and_report.Goals.{in-None, in-Some}

-- the least of both faults is kept if there is one
pub returns-in-Err-clause-met : goal.returns-in-Err-clause-met
returns-in-Err-clause-met g c =
    let least : IsLeast (c.args.sent.fault ∷ c.args.ran.now.fault ∷ []) c.least-met.result =
    least_of_two c.args.sent.fault c.args.ran.now.fault c.least-met.result c.least-met.ensures.none c.least-met.ensures.either c.least-met.ensures.one
    c.least-met.ensures.other in
    let last : c.with_fault-in-Err.result.fault ≡ Some c.in-Err.fault = ap (λ (s : SenderEnd). s.fault) c.with_fault-in-Err.ensures in
    elim c.match-met.branch [
      | in-None w ↦ inl (c.least-met.ensures.none.0 cc)
      | in-Some w ↦
          let same : c.with_fault-in-Err.result.fault ≡ c.least-met.result = cc in
          inr (subst (λ (fault : Option Fault). IsLeast (c.args.sent.fault ∷ c.args.ran.now.fault ∷ []) fault) (sym same) least)
    ]
