use Rattle.std.proofs.Common.{◌≡◌, ◌<◌, ◌^◌, take}
use Rattle.std.specs.List.{sum_by}
use Rattle.live_feed.proofs.status.restored_in_all.Given as goal

-- the sum of the lines so far, as far as it fits
abbrev pub invariant-loop-line : goal.invariant-loop-line
invariant-loop-line l =
    sum_by (λ line. line.before) (take l.line-index l.lines) < 2 ^ 64 → l.sum ≡ sum_by (λ line. line.before) (take l.line-index l.lines)
