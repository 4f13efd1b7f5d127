use Rattle.std.proofs.Common.{◌≡◌, ◌+◌, ◌-◌, [], arith, suc}
use Rattle.command_line.proofs.arguments.argument_at.Goals as goal

-- past the last argument there is no argument
pub returns-in-None : goal.returns-in-None
returns-in-None c =
    let at = c.loop.invariant (c.args.place - c.loop.counter) in
    let same : c.loop.counter + (c.args.place - c.loop.counter) ≡ c.args.place = omega arith in
    rw (c.in-None.ensures, same) at at

pub loop-preserved : goal.loop-preserved
loop-preserved c = λ k.
    let at = c.loop.invariant (suc k) in
    let same : c.loop.counter + suc k ≡ c.loop.counter + 1 + k = omega arith in
    rw (c.in-Some.ensures.0, same) at at

pub returns-in-Some-first_argument : goal.returns-in-Some-first_argument
returns-in-Some-first_argument c =
    let at = c.loop.invariant 0 in
    let same : c.loop.counter + 0 ≡ c.args.place = omega arith in
    rw (c.in-Some-first_argument.ensures.0, same) at at

pub returns-in-None-first_argument : goal.returns-in-None-first_argument
returns-in-None-first_argument c =
    let at = c.loop.invariant 0 in
    let same : c.loop.counter + 0 ≡ c.args.place = omega arith in
    rw (c.in-None-first_argument.ensures, same) at at
