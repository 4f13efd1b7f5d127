use Rattle.std.proofs.Common.{refl, ◌+◌}
use Rattle.day_control.proofs.ServeLemmas.{Serves-both, Serves-none, ServesTo-after}
use Rattle.day_control.proofs.serving.serve_commands.Goals as goal

pub loop-served-init : goal.loop-served-init
loop-served-init g c =
    Serves-none (g.O.Operator.calls c.args.operator.now) (g.R.Read.remaining c.args.reader.now) (g.W.Write.contents c.args.writer.now)

pub returns-in-Err-clause-serves : goal.returns-in-Err-clause-serves
returns-in-Err-clause-serves g c =
    let calls = g.O.Operator.calls in
    let remaining = g.R.Read.remaining in
    let contents = g.W.Write.contents in
    ServesTo-after c.in-Err.ended (calls c.args.operator.now) (calls c.loop-served.operator) (calls c.serve_next.new.operator)
    (remaining c.args.reader.now) (remaining c.loop-served.reader) (remaining c.serve_next.new.reader)
    (contents c.args.writer.now) (contents c.loop-served.writer) (contents c.serve_next.new.writer) c.loop-served.served c.loop-served.invariant
    c.in-Err.ensures.err

pub loop-served-preserved : goal.loop-served-preserved
loop-served-preserved g c =
    let calls = g.O.Operator.calls in
    let remaining = g.R.Read.remaining in
    let contents = g.W.Write.contents in
    Serves-both (calls c.args.operator.now) (calls c.loop-served.operator) (calls c.serve_next.new.operator)
    (remaining c.args.reader.now) (remaining c.loop-served.reader) (remaining c.serve_next.new.reader)
    (contents c.args.writer.now) (contents c.loop-served.writer) (contents c.serve_next.new.writer) c.loop-served.served 1 (c.loop-served.served + 1)
    c.loop-served.invariant c.in_default.ensures.ok refl
