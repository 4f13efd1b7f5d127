use Rattle.std.proofs.Common.{rules}
use Rattle.day_terms.proofs.DayLemmas.{day_named, found}
use Rattle.day_terms.proofs.live_day.LiveDay.read.Goals as goal

-- memory ran out for the names
pub returns-in_err-listing-clause-memory : goal.returns-in_err-listing-clause-memory
returns-in_err-listing-clause-memory c = λ out. day_named _ _ _ _ _ _ _ _ _ _ _ _ _ _ _ _ _ _ _ c.in_ok-symbols.ensures.names
    c.in_ok-first_port.ensures.port c.in_ok-a.ensures.ports c.in_ok-b.ensures.ports c.in_ok-retransmission.ensures.port
    c.in_ok-serves.ensures.number c.in_ok-session.ensures.number c.in_ok-matrix.ensures.matrix c.in_ok-limit.ensures.read
    (found _ (c.in_err-listing.ensures.memory (search rules)))

-- memory ran out for the ports of line A
pub returns-in_err-a-2-clause-memory : goal.returns-in_err-a-2-clause-memory
returns-in_err-a-2-clause-memory c = λ _. day_named _ _ _ _ _ _ _ _ _ _ _ _ _ _ _ _ _ _ _ c.in_ok-symbols.ensures.names
    c.in_ok-first_port.ensures.port c.in_ok-a.ensures.ports c.in_ok-b.ensures.ports c.in_ok-retransmission.ensures.port
    c.in_ok-serves.ensures.number c.in_ok-session.ensures.number c.in_ok-matrix.ensures.matrix c.in_ok-limit.ensures.read
    (_, c.in_ok-listing.ensures.listing)

-- memory ran out for the ports of line B
pub returns-in_err-b-2-clause-memory : goal.returns-in_err-b-2-clause-memory
returns-in_err-b-2-clause-memory c = λ _. day_named _ _ _ _ _ _ _ _ _ _ _ _ _ _ _ _ _ _ _ c.in_ok-symbols.ensures.names
    c.in_ok-first_port.ensures.port c.in_ok-a.ensures.ports c.in_ok-b.ensures.ports c.in_ok-retransmission.ensures.port
    c.in_ok-serves.ensures.number c.in_ok-session.ensures.number c.in_ok-matrix.ensures.matrix c.in_ok-limit.ensures.read
    (_, c.in_ok-listing.ensures.listing)
