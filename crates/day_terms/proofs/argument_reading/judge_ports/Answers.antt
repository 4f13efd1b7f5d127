use Rattle.std.proofs.Common.{rules, ◌+◌, ◌∷◌, [], arith, length-drop, refl}
use Rattle.day_terms.proofs.PortLemmas.{ports-more, ports-last, ports-one, ports-split}
use Rattle.day_terms.proofs.WordLemmas.{position_within, rest-slice}
use Rattle.day_terms.proofs.argument_reading.judge_ports.Goals as goal

pub overflow_add-rest : goal.overflow_add-rest
overflow_add-rest c =
    let rest = c.loop-end.rest.now in
    let within = position_within _ rest c.in-Some.end c.in-Some.ensures in
    omega arith

-- the first of what is left is no port, so the text lists no ports
pub returns-in_err-port_of-clause-ports : goal.returns-in_err-port_of-clause-ports
returns-in_err-port_of-clause-ports c = (
  search rules,
  λ all.
      let first = (ports-split c.loop-end.rest.now c.in-Some.end c.in-Some.ensures (c.loop-end.invariant.judged all)).0 in
      absurd (cc (c.in_err-port_of.ensures.each first.0 first.1)),
)

-- the port that was checked stands before those of what is left
pub loop-end-preserved : goal.loop-end-preserved
loop-end-preserved c =
    let rest = c.loop-end.rest.now in
    let end = c.in-Some.end in
    record {
      short = rw (rest-slice rest end) (omega (arith, length-drop (end + 1) rest));
      judged = λ all. rw (rest-slice rest end) (ports-split rest end c.in-Some.ensures (c.loop-end.invariant.judged all)).1;
      listed = λ more. rw (rest-slice rest end) (λ listed.
          c.loop-end.invariant.listed (c.in_ok-port_of.field-0 ∷ more)
          (ports-more rest end c.in_ok-port_of.field-0 more c.in-Some.ensures c.in_ok-port_of.ensures.port listed));
    }

-- what is left is no port
pub returns-in_err-port_of-2-clause-ports : goal.returns-in_err-port_of-2-clause-ports
returns-in_err-port_of-2-clause-ports c = (
  search rules,
  λ all.
      let last = ports-one c.loop-end.rest.now c.in_default.ensures (c.loop-end.invariant.judged all) in
      absurd (cc (c.in_err-port_of-2.ensures.each last.0 last.1)),
)

-- the last port
pub returns-clause-ports : goal.returns-clause-ports
returns-clause-ports c = (
  λ _. c.loop-end.invariant.listed (c.in_ok-port_of-2.field-0 ∷ [])
      (ports-last c.loop-end.rest.now c.in_ok-port_of-2.field-0 c.in_default.ensures c.in_ok-port_of-2.ensures.port),
  λ _. refl,
)
