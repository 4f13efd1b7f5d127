use Rattle.std.proofs.Common.{sym, rules}
use Rattle.std.proofs.lemmas.Result.{err_from_is_err_and}
use Rattle.csv.specs.Records.{fields_of}
use Rattle.csv_messages.proofs.TableLemmas.{has_columns, is_open_fault, is_open_fault-none}
use Rattle.csv_messages.proofs.row_reader.read_columns.Goals as goal

pub returns-then-not-branch-clause-fault : goal.returns-then-not-branch-clause-fault
returns-then-not-branch-clause-fault g c =
    is_open_fault-none g.R.Read.remaining c.args.reader.now (c.in_ok-next_record.ensures.end (search rules))

pub returns-clause-columns : goal.returns-clause-columns
returns-clause-columns g c =
    has_columns g.R.Read.remaining c.args.reader.now c.next_record.new.reader (fields_of c.next_record.new.fields) c.in_ok-columns.columns (sym c.in_ok-columns.ensures.columns)
    (c.in_ok-next_record.ensures.more (search rules))

pub returns-in_err-columns-clause-fault : goal.returns-in_err-columns-clause-fault
returns-in_err-columns-clause-fault g c =
    let p = err_from_is_err_and c.from_residual-in_err-columns.result c.from_residual-in_err-columns.ensures.1 in
    rw (p.1, p.2) (is_open_fault g.R.Read.remaining c.args.reader.now c.next_record.new.reader (fields_of c.next_record.new.fields)
    c.in_err-columns.field-0.0 (sym c.in_err-columns.ensures.columns) (c.in_ok-next_record.ensures.more (search rules)))
