use Rattle.csv_messages.proofs.TableLemmas.{has_read-none}
use Rattle.csv_messages.proofs.records.records_in.Goals as goal

pub returns-clause-start : goal.returns-clause-start
returns-clause-start g c =
    has_read-none g.R.Read.remaining c.from_reader.result (g.R.Read.remaining c.args.reader) c.from_reader.ensures.source c.from_reader.ensures.state
