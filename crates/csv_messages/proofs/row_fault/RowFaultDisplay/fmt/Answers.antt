use Rattle.csv_messages.proofs.row_fault.RowFaultDisplay.fmt.Goals as goal

pub returns-in-Fields-clause-writes : goal.returns-in-Fields-clause-writes
returns-in-Fields-clause-writes g c = rw c.in-Fields.is c.write.ensures.writes

pub returns-in-Bad-clause-writes : goal.returns-in-Bad-clause-writes
returns-in-Bad-clause-writes g c = rw (c.in-Bad.is, ← c.rule-rule.ensures.rule, ← c.has_line_end.ensures) c.write-in-Bad.ensures.writes

pub returns-in-Unused-clause-writes : goal.returns-in-Unused-clause-writes
returns-in-Unused-clause-writes g c = rw (c.in-Unused.is, ← c.has_line_end-in-Unused.ensures) c.write-in-Unused.ensures.writes
