use Rattle.std.proofs.Common.{◌<◌, ◌∙◌, ap, arith, length}
use Rattle.std.proofs.lemmas.List.{get_or_read, length-map}
use Rattle.sale_matrix.specs.Matrix.{cells_of}
use Rattle.sale_matrix.specs.declared.matrix.Matrix.{Matrix}
use Rattle.tape_core.specs.Tape.{numbered_message}
use Rattle.tape_core.specs.declared.row_figures.RowFigures.{RowFigures}
use Rattle.csv_days.proofs.AccountLemmas.{legal-lists}
use Rattle.csv_days.proofs.ExplainLemmas.{entry-there, explained_at-some}
use Rattle.csv_days.proofs.account.Account.explained_at.Goals as goal

pub figures_of-requires : goal.figures_of-requires
figures_of-requires c =
    (legal-lists c.args.self.now.day.tape c.args.index _ c.entries.ensures.legal
    (entry-there c.args.self.now.day.tape c.entries.result.now c.args.index c.index-entries-index.result c.entries.ensures.entries c.requires.index)).0

pub own_figures_of-requires-clause-symbol : goal.own_figures_of-requires-clause-symbol
own_figures_of-requires-clause-symbol c =
    (legal-lists c.args.self.now.day.tape c.args.index _ c.entries.ensures.legal
    (entry-there c.args.self.now.day.tape c.entries.result.now c.args.index c.index-entries-index.result c.entries.ensures.entries c.requires.index)).0

pub own_figures_of-requires-clause-participant : goal.own_figures_of-requires-clause-participant
own_figures_of-requires-clause-participant c =
    (legal-lists c.args.self.now.day.tape c.args.index _ c.entries.ensures.legal
    (entry-there c.args.self.now.day.tape c.entries.result.now c.args.index c.index-entries-index.result c.entries.ensures.entries c.requires.index)).1

pub returns : goal.returns
returns c =
    let t = c.args.self.now.day.tape in
    let index = c.args.index in
    let rows = c.args.self.now.rows.items in
    let changes = c.args.self.now.changes.items in
    let in_rows : index < length rows = omega (arith, c.requires.account.rows, c.requires.index) in
    let in_tape : index < length t.entries = c.requires.index in
    let in_messages = length-map t.entries numbered_message in
    let in_changes : index < length changes = omega (arith, c.requires.account.changes.count, in_messages, in_tape) in
    explained_at-some t rows index _ _ c.entries.ensures.legal
    (entry-there t c.entries.result.now index c.index-entries-index.result c.entries.ensures.entries in_tape)
    c.in_ok-report.ensures.report c.header.ensures.header (get_or_read rows index c.index.result.now in_rows c.index.ensures 0)
    (get_or_read changes index c.index-2.result.now in_changes c.index-2.ensures 0
    ∙ c.requires.account.changes.each index (omega (arith, in_messages, in_tape)))
    (c.cells.ensures.cells ∙ ap (λ (x : Matrix). cells_of x c.in_ok-report.report.content.condition) c.matrix.ensures.value)
    (ap (λ (figures : RowFigures). figures.consolidated) c.figures_of.ensures) c.own_figures_of.ensures
