-- The text of the rows so far.
use Rattle.std.proofs.Common.{◌≡◌, ◌++◌, ◌∙◌, ◌+◌, ◌<◌, [], ℕ, suc, List, sym, ap, append_assoc, append-nil, length, arith, take, get_or}
use Rattle.day_report.specs.declared.row.Row.{Row}
use Rattle.day_report.specs.ReportText.{report_columns, line_of, report_text, row_fields, rows_text}
use Rattle.day_report.proofs.PieceLemmas.{flat_map-take-more}

-- a report without rows has the names of its columns
pub report_text-nil : report_text [] ≡ line_of report_columns
unfolding report_text rows_text
report_text-nil = append-nil (line_of report_columns)

-- one more row is one more line
pub report_text-more : (rows : List Row) (i : ℕ) (r : Row) (old new : List ℕ) → i < length rows → get_or rows i r ≡ r
    → old ≡ report_text (take i rows) → new ≡ old ++ line_of (row_fields r) → new ≡ report_text (take (i + 1) rows)
unfolding report_text rows_text
report_text-more rows i r old new within is so_far written =
    let one : i + 1 ≡ suc i = omega arith in
    let line = λ (x : Row). line_of (row_fields x) in
    let more = flat_map-take-more line rows i r within ∙ ap (λ (x : Row). rows_text (take i rows) ++ line x) is in
    written ∙ ap (λ (t : List ℕ). t ++ line r) so_far ∙ append_assoc (line_of report_columns) (rows_text (take i rows)) (line r)
    ∙ ap (λ (t : List ℕ). line_of report_columns ++ t) (sym more) ∙ ap (λ (k : ℕ). report_text (take k rows)) (sym one)
