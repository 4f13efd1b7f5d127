-- How a follower's day ends, and what is reported of it.
use Rattle.std.specs.Prelude.{◌≡◌, ◌≢◌, ℕ, List, length, Option, None, Some}
use Rattle.std.specs.Io.KnownBytes.{Appends}
use Rattle.tape_types.specs.Names.{Names}
use Rattle.sale_matrix.specs.declared.matrix.Matrix.{Matrix}
use Rattle.tape_core.specs.Tape.{TapeState}
use Rattle.day_report.specs.ReportText.{report_text}
use Rattle.day_report.specs.Rows.{report_rows}
use Rattle.feed_ends.specs.Reports.{IsListing}
use Rattle.feed_ends.specs.declared.fault.Fault.{Fault}
use Rattle.feed_ends.specs.declared.fault.Fault.TheVariants as fault
use Rattle.feed_follower.specs.Sinks.{IsTapeOf}
use Rattle.feed_follower.specs.declared.follow_fault.FollowFault.{FollowFault}
use Rattle.feed_follower.specs.declared.follow_fault.FollowFault.TheVariants.{Ended, Unreachable, OtherEntry}

-- the day's fault, which has the status
abbrev pub follow_fault : FollowFault → Fault
follow_fault (Ended f) = f
follow_fault (Unreachable port kind) = fault.Read
follow_fault (OtherEntry number) = fault.Disagrees

-- a fault is reported by what names it, if that is of this fault, otherwise by itself
abbrev pub IsNamed : Option FollowFault → Fault → FollowFault → Type 0
IsNamed None fault told = told ≡ Ended fault
IsNamed (Some why) fault told = (follow_fault why ≡ fault → told ≡ why) × (follow_fault why ≢ fault → told ≡ Ended fault)

-- the whole report of some legal tape of so many entries, of the listing and the matrix and within the limit, was appended, and
-- nothing else
abbrev pub WritesReportOf : Names → Matrix → ℕ → ℕ → Option (List ℕ) → Option (List ℕ) → Type 0
WritesReportOf listing matrix limit count old new =
    (t : TapeState) × IsListing t.listing × IsTapeOf listing matrix limit t × (length t.entries ≡ count) × Appends old new (report_text (report_rows t))
