use Rattle.day_terms.proofs.day_file.DayFile.into_live.Goals as goal

-- the participants of the listing are those that have ports
pub returns-clause-ports : goal.returns-clause-ports
returns-clause-ports c = rw (c.in_ok-listing.ensures.participants, c.deref.ensures.value) c.args.self.ports
