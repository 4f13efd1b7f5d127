-- The report of a day whose entries were sent.
use Rattle.std.specs.Prelude.{◌≡◌, ◌≤◌, ℕ, List, length, Option}
use Rattle.std.specs.Io.KnownBytes.{Appends}
use Rattle.tape_core.specs.declared.entry.Entry.{Entry}
use Rattle.tape_core.specs.Tape.{TapeState, IsLegal}
use Rattle.day_report.specs.ReportText.{report_text}
use Rattle.day_report.specs.Rows.{report_rows}
use Rattle.feed_ends.specs.Reports.{IsListing}
use Rattle.line_ledger.specs.Days.{Terms}

-- the whole report of the legal tape of these terms that has these entries was appended, and nothing else
abbrev pub ReportsDay : Terms → List Entry → Option (List ℕ) → Option (List ℕ) → Type 0
ReportsDay terms entries old new =
    (t : TapeState) × IsListing t.listing × IsLegal t × (t.listing ≡ terms.listing) × (t.matrix ≡ terms.matrix) × (length t.entries ≤ terms.limit)
    × (t.entries ≡ entries) × Appends old new (report_text (report_rows t))
