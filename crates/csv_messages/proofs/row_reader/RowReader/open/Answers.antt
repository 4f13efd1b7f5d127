use Rattle.std.proofs.lemmas.Option.{IfSome_then}
use Rattle.std.proofs.lemmas.Result.{err_from_is_err_and}
use Rattle.std.proofs.Common.{refl}
use Rattle.csv_messages.proofs.RowLemmas.{HasRows-none}
use Rattle.csv_messages.proofs.TableLemmas.{table-fault}
use Rattle.csv_messages.proofs.row_reader.RowReader.open.Goals as goal

pub returns-in_err-columns-clause-only : goal.returns-in_err-columns-clause-only
returns-in_err-columns-clause-only g c =
    let p = err_from_is_err_and c.from_residual.result c.from_residual.ensures.1 in
    rw (p.1, p.2) (IfSome_then (g.R.Read.remaining c.args.reader) c.records_in-reader.ensures.start c.in_err-columns.ensures.fault)

pub returns-in_err-columns-clause-fault : goal.returns-in_err-columns-clause-fault
returns-in_err-columns-clause-fault g c =
    let p = err_from_is_err_and c.from_residual.result c.from_residual.ensures.1 in
    rw (p.1, p.2) (IfSome_then (g.R.Read.remaining c.args.reader) c.records_in-reader.ensures.start
    (λ input begun. table-fault input c.in_err-columns.field-0.0 (c.in_err-columns.ensures.fault input begun)))

pub returns-clause-rows : goal.returns-clause-rows
returns-clause-rows g c =
    HasRows-none g.R.Read.remaining _ c.records_in-reader.result (g.R.Read.remaining c.args.reader) refl c.records_in-reader.ensures.start c.in_ok-columns.ensures.columns
