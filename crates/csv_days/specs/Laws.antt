-- What is true of every readable tape.
use Rattle.std.specs.Prelude.{◌≡◌, ◌++◌, Bool, List, filter, fold, is_ok}
use Rattle.reports.specs.declared.message.Message.{Message}
use Rattle.tape_core.specs.Tape.{TapeState}
use Rattle.tape_core.specs.declared.entry.Entry.{Entry}
use Rattle.tape_core.specs.Answers.{tape_after}
use Rattle.csv_days.specs.TapeRows.{TapeRow, entry_rows, tape_rows}

-- whether a row has a tape number
abbrev pub is_numbered : TapeRow → Bool
is_numbered row = is_ok row.answer

-- of messages that a tape answers, the rows with a tape number are the rows of the entries that it gets
abbrev pub RowsOfEntries : Type 0
RowsOfEntries = (t : TapeState) (messages : List Message) (entries : List Entry) → (fold tape_after t messages).entries ≡ t.entries ++ entries
    → filter is_numbered (tape_rows t messages) ≡ entry_rows t.matrix t.entries entries
