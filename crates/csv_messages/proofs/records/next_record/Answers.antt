use Rattle.std.proofs.lemmas.Result.{IfOk-weaker}
use Rattle.csv.specs.Records.{fields_of}
use Rattle.csv_messages.proofs.MappedResults.{IfOk-mapped}
use Rattle.csv_messages.proofs.TableLemmas.{has_read-more}
use Rattle.csv_messages.proofs.records.next_record.Goals as goal

pub returns-clause-more : goal.returns-clause-more
returns-clause-more g c =
    let read = c.read_byte_record-read in
    IfOk-mapped read.result c.map_err.result _ _ c.map_err.ensures.variant c.map_err.ensures.cases
    (IfOk-weaker read.result _ _
    (λ _ reads found. has_read-more g.R.Read.remaining c.args.reader.now read.new.self (fields_of read.new.row) c.requires.plain.config
    (rw found at (reads c.requires.plain.trim c.requires.plain.ready)))
    read.ensures.reads)
