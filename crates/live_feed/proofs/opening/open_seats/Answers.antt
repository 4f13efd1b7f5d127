use Rattle.line_ledger.specs.Lemmas.OneEach.{each_kept}
use Rattle.live_feed.proofs.Growing.{if_ok}
use Rattle.live_feed.proofs.opening.open_seats.Goals as goal

-- the seats are of the same participants
pub returns-in-Ok-clause-each : goal.returns-in-Ok-clause-each
returns-in-Ok-clause-each g c =
    if_ok c.restore_seats.result (λ opened same. each_kept g.D.DayName.terms.listing.participants c.in-Ok.seats.items opened.1.items c.in-Ok.ensures.each same)
    c.restore_seats.ensures.whos
