-- A table's rows, noted one after another.
use Rattle.std.proofs.Common.{◌≡◌, ◌≢◌, ◌⊎◌, ◌<◌, ◌+◌, ◌^◌, ◌∷◌, ◌++◌, ◌∙◌, [], ℕ, List, Option, Some, None, IfSome, Result, Ok, Err, ap, append-nil, arith, inl, inr, length, refl, sym}
use Rattle.reports.specs.declared.message.Message.{Message}
use Rattle.csv_messages.specs.Lemmas.RowFaults.{row_faults-few, row_faults-more, row_messages-more}
use Rattle.csv_messages.specs.Tables.{FIRST_ROW, IsOnlyFault, IsOpenFault, fault_of as row_fault, fields_message, known_messages, message_of as row_message, row_faults, row_messages, table_faults}
use Rattle.csv_messages.specs.declared.columns.Columns.{Columns}
use Rattle.csv_messages.specs.declared.row_fault.RowFault.{RowFault}
use Rattle.csv_messages.specs.declared.table_fault.TableFault.{TableFault}
use Rattle.csv_messages.specs.declared.table_fault.TableFault.TheVariants.{Header, NoRow, Row, ReadFault, OutOfMemory}
use Rattle.csv_days.specs.EndDays.{AreNames}
use Rattle.csv_days.specs.Checks.{AreTold, IsCheckOf, IsCheckOfText, NotesEnd, NotesNone, NotesRow}
use Rattle.csv_days.specs.declared.table_check.TableCheck.{TableCheck}

-- a check that has read nothing has noted no row
pub notes-none : (check : TableCheck) → AreTold [] check.told check.lines.items check.more → AreNames [] check.names → NotesNone check
unfolding row_faults row_messages
notes-none check told names columns = record { faults = told; names = names }

-- the faults of a row more
faults-more : (columns : Columns) (rows : List (List (List ℕ))) (fields : List (List ℕ)) (number : ℕ) (read : Result Message RowFault) → number ≡ length rows + FIRST_ROW
    → read ≡ fields_message columns fields
    → row_faults columns FIRST_ROW (rows ++ fields ∷ []) ≡ row_faults columns FIRST_ROW rows ++ row_fault number read
faults-more columns rows fields number read count is =
    row_faults-more columns FIRST_ROW rows fields
    ∙ ap (λ (l : List TableFault). row_faults columns FIRST_ROW rows ++ l)
    (ap (λ (n : ℕ). row_fault n (fields_message columns fields)) (omega (arith, count)) ∙ ap (row_fault number) (sym is))

-- the messages of a row more
messages-more : (columns : Columns) (rows : List (List (List ℕ))) (fields : List (List ℕ)) (read : Result Message RowFault) → read ≡ fields_message columns fields
    → row_messages columns (rows ++ fields ∷ []) ≡ row_messages columns rows ++ row_message read
messages-more columns rows fields read is =
    row_messages-more columns rows fields ∙ ap (λ (l : List Message). row_messages columns rows ++ l) (ap row_message (sym is))

-- a row that is a message
pub notes-message : (old new : TableCheck) (number : ℕ) (m : Message) → new.told ≡ old.told → new.lines.items ≡ old.lines.items → new.more ≡ old.more
    → ((messages : List Message) → AreNames messages old.names → AreNames (messages ++ m ∷ []) new.names) → NotesRow old new number (Ok m)
notes-message old new number m told lines more seen columns rows fields count is had =
    let faults : row_faults columns FIRST_ROW (rows ++ fields ∷ []) ≡ row_faults columns FIRST_ROW rows =
    faults-more columns rows fields number (Ok m) count is ∙ append-nil (row_faults columns FIRST_ROW rows) in
    record {
      faults = rw (faults, told, lines, more) had.faults;
      names = rw (messages-more columns rows fields (Ok m) is) (seen (row_messages columns rows) had.names);
    }

-- a row that is none
pub notes-fault : (old new : TableCheck) (number : ℕ) (f : RowFault) → number < 2 ^ 64 → new.names ≡ old.names
    → ((faults : List TableFault) → length faults + 1 < 2 ^ 64 → AreTold faults old.told old.lines.items old.more → AreTold (faults ++ Row number f ∷ []) new.told new.lines.items new.more)
    → NotesRow old new number (Err f)
notes-fault old new number f fits names told columns rows fields count is had =
    let messages : row_messages columns (rows ++ fields ∷ []) ≡ row_messages columns rows =
    messages-more columns rows fields (Err f) is ∙ append-nil (row_messages columns rows) in
    record {
      faults = rw (faults-more columns rows fields number (Err f) count is)
          (told (row_faults columns FIRST_ROW rows) (omega (arith, row_faults-few columns FIRST_ROW rows, count, fits)) had.faults);
      names = rw (messages, names) had.names;
    }

-- no row follows the header row
pub ends-none : (old new : TableCheck) → new.names ≡ old.names
    → (AreTold [] old.told old.lines.items old.more → AreTold (NoRow ∷ []) new.told new.lines.items new.more)
    → NotesEnd old new 0
unfolding row_faults row_messages table_faults known_messages
ends-none old new names told columns head [] named count had = record {
  faults = rw named (told had.faults);
  names = rw (named, names) had.names;
  rows = λ none. absurd (cc (rw named at none));
}
ends-none old new names told columns head (r ∷ rows) named count had = absurd (omega (arith, count))

-- no row follows these
pub ends-some : (old new : TableCheck) (count : ℕ) → count ≢ 0 → new.told ≡ old.told → new.lines.items ≡ old.lines.items → new.more ≡ old.more → new.names ≡ old.names → new.rows ≡ count
    → NotesEnd old new count
unfolding table_faults known_messages
ends-some old new count some told lines more names rows columns head [] named is had = absurd (some is)
ends-some old new count some told lines more names size columns head (r ∷ rows) named is had = record {
  faults = rw (named, told, lines, more) had.faults;
  names = rw (named, names) had.names;
  rows = λ none. size ∙ is;
}

-- the check of a text whose header row is at fault
pub only-checks : (records : List (List (List ℕ))) (fault : TableFault) (check : TableCheck) → IsOnlyFault fault records
    → AreTold (fault ∷ []) check.told check.lines.items check.more → AreNames [] check.names → IsCheckOf records check
only-checks records fault check only told names = record {
  faults = rw only.faults told;
  names = rw only.messages names;
  rows = λ none. absurd (cc (none, only.faults));
}

-- a fault is one of the text, and not of reading it
abbrev pub IsOfText : TableFault → Type 0
IsOfText (Header fault) = Unit {0}
IsOfText NoRow = Unit {0}
IsOfText (Row number fault) = Unit {0}
IsOfText ReadFault = ⊥
IsOfText OutOfMemory = ⊥

-- a fault that is not of reading is of the text
pub of-text : (fault : TableFault) → ((fault ≡ ReadFault) ⊎ (fault ≡ OutOfMemory) → ⊥) → IsOfText fault
of-text (Header f) other = tt
of-text NoRow other = tt
of-text (Row n f) other = tt
of-text ReadFault other = other (inl refl)
of-text OutOfMemory other = other (inr refl)

-- why its rows are not read, and its check
pub open-checks : (known : Option (List ℕ)) (fault : TableFault) (check : TableCheck) → IfSome known (λ input. IsOpenFault input fault) → IsOfText fault
    → AreTold (fault ∷ []) check.told check.lines.items check.more → AreNames [] check.names → IfSome known (λ input. IsCheckOfText input check)
open-checks None fault check is of_text told names = tt
open-checks (Some input) (Header f) check (records, first, bad, only) of_text told names = (records, inr (first, bad), only-checks records (Header f) check only told names)
open-checks (Some input) NoRow check (records, all, only) of_text told names = (records, inl all, only-checks records NoRow check only told names)
open-checks (Some input) (Row n f) check is of_text told names = absurd is
open-checks (Some input) ReadFault check is of_text told names = absurd of_text
open-checks (Some input) OutOfMemory check is of_text told names = absurd of_text
