use Rattle.std.proofs.Common.{◌*◌, ◌-◌}
use Rattle.day_report.proofs.pieces.+workers.Given as goal

abbrev pub decreases-pieces_by : goal.decreases-pieces_by
decreases-pieces_by g l = 2 * l.count

abbrev pub decreases-others : goal.decreases-others
decreases-others g l = 2 * l.count - 1
