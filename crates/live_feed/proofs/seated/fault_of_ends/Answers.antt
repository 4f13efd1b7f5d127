use Rattle.std.proofs.Common.{Option}
use Rattle.participant_lines.specs.declared.line_end.TalliedEnd.{TalliedEnd}
use Rattle.live_feed.specs.Faults.{line_fault}
use Rattle.feed_ends.specs.declared.fault.Fault.{Fault}
use Rattle.live_feed.proofs.Least.{least_next, least_of_none, least_whole}
use Rattle.live_feed.proofs.seated.fault_of_ends.Goals as goal

pub loop-end-init : goal.loop-end-init
loop-end-init g c = least_of_none

pub loop-end-preserved : goal.loop-end-preserved
loop-end-preserved g c =
    let fault_of : TalliedEnd g.row.D.Denot → Option Fault = λ end. line_fault end.ended in
    least_next fault_of c.args.ends.now c.loop-end.end-index c.end-item.result c.loop-end.fault c.fault_of_end.result c.least-fault.result
    c.loop-end-test.true c.end-item.is c.fault_of_end.ensures c.loop-end.invariant c.least-fault.ensures.none c.least-fault.ensures.either
    c.least-fault.ensures.one c.least-fault.ensures.other

pub returns : goal.returns
returns g c =
    let fault_of : TalliedEnd g.row.D.Denot → Option Fault = λ end. line_fault end.ended in
    least_whole fault_of c.args.ends.now c.loop-end.end-index c.loop-end.fault c.loop-end-test.false c.loop-end.invariant
