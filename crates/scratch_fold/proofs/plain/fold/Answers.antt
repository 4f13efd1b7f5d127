use Rattle.std.proofs.Common.{◌≤◌, arith}
use Rattle.scratch_fold.proofs.Rising.{PlacesRise-index}
use Rattle.scratch_fold.proofs.Volumes.{counted-within}
use Rattle.scratch_fold.proofs.plain.fold.Goals as goal

pub add-requires-clause-volume : goal.add-requires-clause-volume
add-requires-clause-volume c =
    let low : c.loop-place.place-index ≤ c.loop-place-item.result.0 =
    PlacesRise-index c.args.reports.now c.requires.rising c.loop-place.place-index c.loop-place-item.result c.loop-place-test.true c.loop-place-item.is in
    omega (arith, counted-within c.loop-place-item.result.1.volume c.loop-place-item.result.1.size)

pub add-requires-clause-trades : goal.add-requires-clause-trades
add-requires-clause-trades c =
    let low : c.loop-place.place-index ≤ c.loop-place-item.result.0 =
    PlacesRise-index c.args.reports.now c.requires.rising c.loop-place.place-index c.loop-place-item.result c.loop-place-test.true c.loop-place-item.is in
    omega arith
