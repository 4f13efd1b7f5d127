use Rattle.std.proofs.Common.{rules}
use Rattle.std.proofs.lemmas.Result.{err_from_is_err_and}
use Rattle.csv_messages.proofs.RowLemmas.{is_table, is_table_fault}
use Rattle.csv_messages.proofs.row_reader.read_table.Goals as goal

pub returns-in_err-piece-clause-fault : goal.returns-in_err-piece-clause-fault
returns-in_err-piece-clause-fault g c =
    let p = err_from_is_err_and c.from_residual-in_err-piece.result c.from_residual-in_err-piece.ensures.1 in
    rw (p.1, p.2) (is_table_fault g.R.Read.remaining c.in_ok-rows.rows (g.R.Read.remaining c.args.reader) c.in_err-piece.field-0.0 c.in_ok-rows.ensures.rows
    c.in_err-piece.ensures.fault)

pub returns-clause-messages : goal.returns-clause-messages
returns-clause-messages g c =
    is_table g.R.Read.remaining c.in_ok-rows.rows (g.R.Read.remaining c.args.reader) _ c.in_ok-rows.ensures.rows (c.in_ok-piece.ensures.rest (search rules))
