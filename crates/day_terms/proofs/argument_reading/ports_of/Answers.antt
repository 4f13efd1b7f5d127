use Rattle.std.proofs.Common.{◌+◌, ◌∷◌, [], arith, append_assoc, length-drop}
use Rattle.day_terms.proofs.PortLemmas.{ports-more, ports-last}
use Rattle.day_terms.proofs.WordLemmas.{position_within, rest-slice}
use Rattle.day_terms.proofs.argument_reading.ports_of.Goals as goal

pub overflow_add-rest : goal.overflow_add-rest
overflow_add-rest c =
    let rest = c.loop-end.rest.now in
    let within = position_within _ rest c.in-Some.end c.in-Some.ensures in
    omega arith

-- the ports behind the one that was added follow it
pub loop-end-preserved : goal.loop-end-preserved
loop-end-preserved c =
    let rest = c.loop-end.rest.now in
    let pushed = c.in_ok-push_port.ensures.port in
    record {
      short = rw (rest-slice rest c.in-Some.end) (omega (arith, length-drop (c.in-Some.end + 1) rest));
      listed = λ more. rw (rest-slice rest c.in-Some.end, pushed.2, append_assoc) (λ listed.
          c.loop-end.invariant.listed (pushed.0 ∷ more) (ports-more rest c.in-Some.end pushed.0 more c.in-Some.ensures pushed.1 listed));
    }

-- the last port
pub returns : goal.returns
returns c =
    let pushed = c.in_ok-push_port-2.ensures.port in
    rw pushed.2 (c.loop-end.invariant.listed (pushed.0 ∷ []) (ports-last c.loop-end.rest.now pushed.0 c.in_default.ensures pushed.1))
