use Rattle.line_ledger.specs.Lemmas.OneEach.{each_kept}
use Rattle.live_feed.proofs.opening.restore_seats.Goals as goal

-- the seats are of the same participants
pub end_day-requires : goal.end_day-requires
end_day-requires g c = each_kept g.D.DayName.terms.listing.participants c.args.seats.items c.restore.new.seats.items c.requires.each c.restore.ensures.whos
