use Rattle.std.proofs.Common.{◌≡◌, find, length}
use Rattle.command_line.specs.Similar.{is_flag_near}
use Rattle.command_line.proofs.similar.first_flag.Given as goal

-- the option is the first of those that are left
abbrev pub invariant-loop-rest : goal.invariant-loop-rest
invariant-loop-rest l = find (is_flag_near l.name) l.fn.flags ≡ find (is_flag_near l.name) l.rest

abbrev pub decreases-loop-rest : goal.decreases-loop-rest
decreases-loop-rest l = length l.rest
