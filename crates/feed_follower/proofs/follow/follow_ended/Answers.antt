use Rattle.std.proofs.Common.{◌≡◌, Result, Ok, IfOk, subst}
use Rattle.subscriber.specs.Subscribers.{SubscriberState}
use Rattle.feed_ends.specs.declared.fault.Fault.{Fault}
use Rattle.feed_follower.specs.Sinks.{IsTapeOf}
use Rattle.feed_follower.proofs.Reports.{its_report, one_report}
use Rattle.feed_follower.proofs.follow.follow_ended.Goals as goal

-- what is so of what is held
of_held : (held : Result SubscriberState Fault) (s : SubscriberState) (P : SubscriberState → Type 0) → held ≡ Ok s → IfOk held P → P s
of_held held s P is all = subst (λ (o : Result SubscriberState Fault). IfOk o P) is all

pub returns-clause-report : goal.returns-clause-report
returns-clause-report g c =
    let report = c.report-written.ensures in one_report _ c.in-Ok.subscriber.tape _ _ report.names report.legal report.written

pub returns-clause-listed : goal.returns-clause-listed
returns-clause-listed g c =
    let report = c.report-written.ensures in
    let held = of_held _ c.in-Ok.subscriber (λ (s : SubscriberState). IsTapeOf c.args.terms.day.listing c.args.terms.day.matrix c.args.terms.day.limit s.tape) c.in-Ok.is
    c.follow_plainly-held.ensures.tape in
    its_report _ _ _ _ c.in-Ok.subscriber.tape _ _ report.names held report.written
