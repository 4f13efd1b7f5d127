use Rattle.std.proofs.Common.{◌≡◌, ◌≤◌, ◌*◌, ◌^◌, take}
use Rattle.desk_words.specs.Verdicts.{refused_for_any}
use Rattle.desk_words.proofs.verdict_line.refused_for_any.Given as goal

-- the rows refused for the reasons so far, of which each has less than all rows
abbrev pub invariant-loop-reason : goal.invariant-loop-reason
invariant-loop-reason l = record {
  refused : l.refused ≡ refused_for_any l.refusals (take l.reason-index l.reasons);
  few : l.refused ≤ l.reason-index * 2 ^ 64;
}
