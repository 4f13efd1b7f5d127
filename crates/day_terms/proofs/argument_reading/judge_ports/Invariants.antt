use Rattle.std.proofs.Common.{◌≤◌, ℕ, List, length}
use Rattle.day_terms.specs.Values.{ListPorts, ListSomePorts}
use Rattle.day_terms.proofs.argument_reading.judge_ports.Given as goal

-- what is left lists ports exactly if the text does
abbrev pub invariant-loop-end : goal.invariant-loop-end
invariant-loop-end l = record {
  short : length l.rest ≤ length l.fn.text;
  judged : ListSomePorts l.fn.text → ListSomePorts l.rest;
  listed : (more : List ℕ) → ListPorts l.rest more → ListSomePorts l.fn.text;
}

abbrev pub decreases-loop-end : goal.decreases-loop-end
decreases-loop-end l = length l.rest
