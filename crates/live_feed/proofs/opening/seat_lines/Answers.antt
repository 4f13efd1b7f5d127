use Rattle.line_ledger.specs.Lemmas.OneEach.{after_lines}
use Rattle.live_feed.proofs.opening.seat_lines.Goals as goal

-- the lines' seats are those that were given
pub returns : goal.returns
returns g c = λ ended same. after_lines g.D.DayName.terms.listing.participants _ c.args.seats.items ended c.requires.one_each
    c.seated_lines.ensures.whos same
