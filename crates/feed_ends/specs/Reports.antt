-- What is written as the report of a day: the report of a legal tape, and nothing else.
use Rattle.std.specs.Prelude.{◌≡◌, ◌≤◌, ℕ, List, length, Option, None}
use Rattle.std.specs.Io.KnownBytes.{Appends}
use Rattle.tape_types.specs.Names.{Names, names_fault}
use Rattle.sale_matrix.specs.declared.matrix.Matrix.{Matrix}
use Rattle.tape_core.specs.Tape.{TapeState, IsLegal}
use Rattle.day_report.specs.ReportText.{report_text}
use Rattle.day_report.specs.Rows.{report_rows}
use Rattle.day_report.specs.declared.report_fault.ReportFault.{ReportFault}
use Rattle.day_report.specs.declared.report_fault.ReportFault.TheVariants.{BadWorkers, Unstarted, OutOfMemory, WriteFault}
use Rattle.feed_ends.specs.declared.fault.Fault.{Fault}
use Rattle.feed_ends.specs.declared.fault.Fault.TheVariants.{Worker, Memory, Write}

-- a day's listing has symbols and participants, not too many, and none of them twice
abbrev pub IsListing : Names → Type 0
IsListing listing = names_fault listing.symbols listing.participants ≡ None

-- the whole report of some legal tape of a day's listing was appended, and nothing else
abbrev pub WritesOneReport : Option (List ℕ) → Option (List ℕ) → Type 0
WritesOneReport old new = (t : TapeState) × IsListing t.listing × IsLegal t × Appends old new (report_text (report_rows t))

-- the whole report of some legal tape of the listing and the matrix, with no more entries than the limit, was appended, and
-- nothing else
abbrev pub WritesItsReport : Names → Matrix → ℕ → Option (List ℕ) → Option (List ℕ) → Type 0
WritesItsReport listing matrix limit old new =
    (t : TapeState) × IsListing t.listing × IsLegal t × (t.listing ≡ listing) × (t.matrix ≡ matrix) × (length t.entries ≤ limit)
    × Appends old new (report_text (report_rows t))

-- the end of a day whose report was not made or not written
abbrev pub report_end : ReportFault → Fault
report_end BadWorkers = Worker
report_end Unstarted = Worker
report_end OutOfMemory = Memory
report_end WriteFault = Write
