-- Defines the reports of a tape as they are now: each one's place, whether it stands, and its latest content.
use Rattle.std.specs.Prelude.{ℕ, Option, Some, None, is_some, slice_get, unwrap_or, if◌then◌else◌}
use Rattle.std.specs.Option.{option_map}
use Rattle.corrections.specs.declared.target.Target.{Target}
use Rattle.reports.specs.Messages.{reported_content}
use Rattle.tape_core.specs.Books.{target_of}
use Rattle.tape_core.specs.Standing.{named_report}
use Rattle.tape_core.specs.Tape.{TapeState, messages_of, numbered_message}
use Rattle.tape_core.specs.declared.entry.Entry.{Entry}

-- the report that a participant sent under a message number, as it is now, if there is one
abbrev pub report_of : TapeState → ℕ → ℕ → Option Target
report_of t who number = option_map (target_of (messages_of t.entries)) (named_report (messages_of t.entries) who number)

-- the report of an entry as it is now, if the entry is a report
abbrev pub report_in : TapeState → Entry → Option Target
report_in t e = if is_some (reported_content e.message) then Some (target_of (messages_of t.entries) (numbered_message e)) else None

-- the report at an index of the entries as it is now, if there is one
abbrev pub report_at : TapeState → ℕ → Option Target
report_at t index = unwrap_or (option_map (report_in t) (slice_get t.entries index)) None
