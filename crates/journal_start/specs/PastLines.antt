-- How far participants' lines had come.
use Rattle.std.specs.Prelude.{◌+◌, ◌-◌, ◌^◌, ◌==◌, ℕ, List, [], ◌∷◌, min, if◌then◌else◌}
use Rattle.reports.specs.Messages.{header_of}
use Rattle.tape_core.specs.declared.entry.Entry.{Entry}
use Rattle.journal_start.specs.declared.past_line.PastLine.{PastLine}

-- the line of a participant without an entry
abbrev pub no_entry : ℕ → PastLine
no_entry who = record { who = who; admitted = 0; last = 0 }

-- the line after one entry, which may be another participant's
abbrev pub with_entry : PastLine → Entry → PastLine
with_entry line e =
    if (header_of e.message).participant == line.who
    then record { who = line.who; admitted = min (line.admitted + 1) (2 ^ 32 - 1); last = (header_of e.message).number }
    else line

-- the line after entries of all participants
unfoldable pub with_entries : PastLine → List Entry → PastLine
with_entries line [] = line
with_entries line (e ∷ es) = with_entries (with_entry line e) es
