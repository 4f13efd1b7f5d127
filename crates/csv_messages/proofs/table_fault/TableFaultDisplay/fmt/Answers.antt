use Rattle.csv_messages.proofs.table_fault.TableFaultDisplay.fmt.Goals as goal

pub returns-in-Row-clause-writes : goal.returns-in-Row-clause-writes
returns-in-Row-clause-writes g c = rw c.in-Row.is c.write-in-Row.ensures.writes
