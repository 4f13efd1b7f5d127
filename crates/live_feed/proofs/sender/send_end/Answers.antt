use Rattle.std.proofs.Common.{◌≡◌, [], ◌∷◌, Option, inl, inr, sym, ap, subst}
use Rattle.live_feed.specs.Faults.{IsLeast}
use Rattle.feed_ends.specs.declared.fault.Fault.{Fault}
use Rattle.live_feed.specs.declared.sender.SenderEnd.{SenderEnd}
use Rattle.live_feed.proofs.Least.{least_of_two}
use Rattle.live_feed.proofs.sender.send_end.Goals as goal
use Rattle.live_feed.proofs.sender.send_end.Goals.{in-None, in_default}

-- the least of both faults is kept if there is one
pub returns-clause-met : goal.returns-clause-met
returns-clause-met g c =
    let least : IsLeast (c.args.sent.fault ∷ c.args.lines ∷ []) c.least-met.result =
    least_of_two c.args.sent.fault c.args.lines c.least-met.result c.least-met.ensures.none c.least-met.ensures.either c.least-met.ensures.one
    c.least-met.ensures.other in
    let last : c.with_fault.result.fault ≡ c.match-met.fault = ap (λ (s : SenderEnd). s.fault) c.with_fault.ensures in
    elim c.match-met.branch [
      | in-None w ↦ inl (c.least-met.ensures.none.0 cc)
      | in_default w ↦
          let same : c.with_fault.result.fault ≡ c.least-met.result = cc in
          inr (subst (λ (fault : Option Fault). IsLeast (c.args.sent.fault ∷ c.args.lines ∷ []) fault) (sym same) least)
    ]
