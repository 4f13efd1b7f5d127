use Rattle.day_control.specs.Serving.{Serves}
use Rattle.day_control.proofs.serving.serve_commands.Given as goal

-- the lines so far were served
abbrev pub invariant-loop-served : goal.invariant-loop-served
invariant-loop-served g l =
    Serves (g.O.Operator.calls l.fn.operator) (g.O.Operator.calls l.operator) (g.R.Read.remaining l.fn.reader) (g.R.Read.remaining l.reader)
    (g.W.Write.contents l.fn.writer) (g.W.Write.contents l.writer) l.served
