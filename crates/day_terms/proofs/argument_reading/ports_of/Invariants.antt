use Rattle.std.proofs.Common.{◌++◌, ◌≤◌, ℕ, List, length}
use Rattle.day_terms.specs.Values.{ListPorts}
use Rattle.day_terms.proofs.argument_reading.ports_of.Given as goal

-- the ports so far and those of what is left are those of the text
abbrev pub invariant-loop-end : goal.invariant-loop-end
invariant-loop-end l = record {
  short : length l.rest ≤ length l.fn.text;
  listed : (more : List ℕ) → ListPorts l.rest more → ListPorts l.fn.text (l.ports.items ++ more);
}

abbrev pub decreases-loop-end : goal.decreases-loop-end
decreases-loop-end l = length l.rest
