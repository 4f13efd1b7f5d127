use Rattle.live_feed.proofs.opening.open_lines.Goals as goal

-- the lines' seats are those that were opened
pub returns : goal.returns
returns g c = c.seat_lines.ensures
