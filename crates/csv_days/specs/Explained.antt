-- Defines the explanation of a day's figures: a row for each report that the tape admitted.
use Rattle.std.specs.Prelude.{◌+◌, ◌-◌, ◌==◌, ◌++◌, ◌∷◌, ℕ, Bool, true, false, List, [], Option, Some, None, Result, Ok, Err, if◌then◌else◌}
use Rattle.std.specs.Prelude.{codes, decimal, filter, is_some, map, slice_get, slice_index, take, unwrap_or}
use Rattle.std.specs.List.{filter_map, flat_map, last_or}
use Rattle.std.specs.Option.{option_map}
use Rattle.csv.specs.Writing.{default_writer, row_text}
use Rattle.tape_types.specs.Ranges.{name_of}
use Rattle.sale_matrix.specs.Matrix.{cells_of}
use Rattle.sale_matrix.specs.declared.matrix.LastRule.{LastRule}
use Rattle.sale_matrix.specs.declared.matrix.LastRule.TheVariants.{Always, SameMarket, FirstOnly, Never}
use Rattle.sale_matrix.specs.declared.matrix.Matrix.{Matrix}
use Rattle.reports.specs.Messages.{header_of, named_target, reported_content}
use Rattle.reports.specs.declared.message.Message.{Message}
use Rattle.scratch_fold.specs.declared.summary.Mark.{Mark}
use Rattle.scratch_fold.specs.declared.summary.Summary.{Summary}
use Rattle.corrections.specs.declared.target.Standing.{Standing as State}
use Rattle.corrections.specs.declared.target.Standing.TheVariants.{Standing, Cancelled}
use Rattle.tape_core.specs.Books.{target_of}
use Rattle.tape_core.specs.Standing.{NumberedMessage, is_at, named_report, participant_summary, symbol_summary}
use Rattle.tape_core.specs.Tape.{TapeState, messages_of, numbered_message}
use Rattle.tape_core.specs.declared.entry.Entry.{Entry}
use Rattle.tape_core.specs.declared.refusal.Refusal.{Refusal}
use Rattle.csv_messages.specs.Tables.{FIRST_ROW}
use Rattle.csv_messages.specs.Writing.{condition_text, price_text}
use Rattle.tape_core.specs.Answers.{answers}
use Rattle.csv_days.specs.Days.{first_tape, tape_of}
use Rattle.csv_days.specs.declared.explained.Explained.{Explained}

-- ## What is told of a report

-- the numbers of the rows, from this one on, that were admitted, in order: the row of each entry of the tape
unfoldable pub admitted_rows : ℕ → List (Result ℕ Refusal) → List ℕ
admitted_rows row [] = []
admitted_rows row (Ok number ∷ answers) = row ∷ admitted_rows (row + 1) answers
admitted_rows row (Err refused ∷ answers) = admitted_rows (row + 1) answers

-- whether a message corrects, cancels or reinstates the report at this place: its target names that report
abbrev pub is_change_at : List NumberedMessage → ℕ → NumberedMessage → Bool
is_change_at tape place n =
    unwrap_or (option_map (λ target. is_at place (named_report tape (header_of n.1).participant target)) (named_target n.1)) false

-- the tape number of the last of some messages that change the report at this place, 0 for none
abbrev pub last_change_in : List NumberedMessage → ℕ → List NumberedMessage → ℕ
last_change_in tape place ns = unwrap_or (last_or None (map (λ n. n.0) (filter (is_change_at tape place) ns))) 0

-- the tape number of the last message that changed the report at this place, 0 for none
abbrev pub last_change : List NumberedMessage → ℕ → ℕ
last_change tape place = last_change_in tape place tape

-- what is told of a report of a tape, whose entries have these rows: the report as it is now, its last change, the cells of its
-- latest condition, and its symbol's figures with its participant's own
abbrev pub explained : TapeState → List ℕ → Entry → Explained
explained t rows e =
    let tape = messages_of t.entries in
    let header = header_of e.message in
    let report = target_of tape (numbered_message e) in
    record {
      report = report;
      header = header;
      row = slice_index rows (e.number - 1);
      changed = last_change tape e.number;
      cells = cells_of t.matrix report.content.condition;
      figures = symbol_summary t.matrix tape header.symbol;
      own = participant_summary t.matrix tape header.symbol header.participant;
    }

-- what is told of an entry, if it is a report
abbrev pub explained_entry : TapeState → List ℕ → Entry → Option Explained
explained_entry t rows e = if is_some (reported_content e.message) then Some (explained t rows e) else None

-- what is told of the entry at an index, if it is a report
abbrev pub explained_at : TapeState → List ℕ → ℕ → Option Explained
explained_at t rows index = unwrap_or (option_map (explained_entry t rows) (slice_get t.entries index)) None

-- what is told of the reports of a tape, by rising place
abbrev pub explained_rows : TapeState → List ℕ → List Explained
explained_rows t rows = filter_map (explained_entry t rows) t.entries

-- ## Fields

-- the names of the columns
abbrev pub explained_names : List (List ℕ)
explained_names =
    codes "symbol" ∷ codes "tape" ∷ codes "row" ∷ codes "participant" ∷ codes "number" ∷ codes "moment" ∷
    codes "price" ∷ codes "size" ∷ codes "condition" ∷ codes "state" ∷ codes "changed" ∷
    codes "high_low" ∷ codes "last" ∷ codes "volume" ∷ codes "sets" ∷
    codes "own_high_low" ∷ codes "own_last" ∷ codes "own_sets" ∷ []

-- whether a report stands
abbrev pub state_text : State → List ℕ
state_text Standing = codes "standing"
state_text Cancelled = codes "cancelled"

-- the number of a change, or nothing
abbrev pub change_text : ℕ → List ℕ
change_text number = if number == 0 then [] else decimal number

-- whether a trade counts
abbrev pub counts_text : Bool → List ℕ
counts_text true = codes "yes"
counts_text false = codes "no"

-- when a trade becomes the last one
abbrev pub rule_text : LastRule → List ℕ
rule_text Always = codes "yes"
rule_text SameMarket = codes "same market"
rule_text FirstOnly = codes "if first"
rule_text Never = codes "no"

-- whether a figure is that of the report at this place
abbrev pub is_set_at : ℕ → Option Mark → Bool
is_set_at place None = false
is_set_at place (Some mark) = mark.place == place

-- a word if it is said, after others and a space
abbrev pub with_word : Bool → List ℕ → List ℕ → List ℕ
with_word false word words = words
with_word true word [] = word
with_word true word (letter ∷ words) = letter ∷ words ++ 32 ∷ word

-- the words for the figures that are set, with a space between two
abbrev pub set_words : Bool → Bool → Bool → Bool → List ℕ
set_words opening high low last =
    with_word last (codes "last") (with_word low (codes "low") (with_word high (codes "high") (with_word opening (codes "open") [])))

-- the figures of a summary that the report at this place sets
abbrev pub sets_text : ℕ → Summary → List ℕ
sets_text place z = set_words (is_set_at place z.opening) (is_set_at place z.high) (is_set_at place z.low) (is_set_at place z.last)

-- the fields that say which report it is
abbrev pub name_fields : Explained → List (List ℕ)
name_fields row =
    name_of row.header.symbol ∷ decimal row.report.place ∷ decimal row.row ∷
    (row.header.participant ∷ []) ∷ decimal row.header.number ∷ decimal row.header.moment ∷ []

-- the fields that say what became of it
abbrev pub state_fields : Explained → List (List ℕ)
state_fields row =
    price_text row.report.content.price ∷ decimal row.report.content.size ∷ condition_text row.report.content.condition ∷
    state_text row.report.standing ∷ change_text row.changed ∷ []

-- the fields of the symbol's figures
abbrev pub set_fields : Explained → List (List ℕ)
set_fields row = counts_text row.cells.ch ∷ rule_text row.cells.cl ∷ counts_text row.cells.volume ∷ sets_text row.report.place row.figures ∷ []

-- the fields of the participant's own figures
abbrev pub own_fields : Explained → List (List ℕ)
own_fields row = counts_text row.cells.ph ∷ rule_text row.cells.pl ∷ sets_text row.report.place row.own ∷ []

-- the fields of a row
unfoldable pub explained_fields : Explained → List (List ℕ)
explained_fields row = name_fields row ++ (state_fields row ++ (set_fields row ++ own_fields row))

-- ## Text

-- the line of the columns' names
abbrev pub explained_head : List ℕ
explained_head = row_text default_writer explained_names

-- the line of a row
abbrev pub explained_line : Explained → List ℕ
explained_line row = row_text default_writer (explained_fields row)

-- the line of an entry, if it is a report
abbrev pub entry_line : Option Explained → List ℕ
entry_line None = []
entry_line (Some row) = explained_line row

-- the names of the columns, and the lines of rows
unfoldable pub explained_text : List Explained → List ℕ
explained_text rows = explained_head ++ flat_map explained_line rows

-- the text of a tape as far as its first entries, this many, go
abbrev pub explained_to : TapeState → List ℕ → ℕ → List ℕ
explained_to t rows count = explained_text (filter_map (explained_entry t rows) (take count t.entries))

-- the rows of a table whose messages its tape admitted
abbrev pub rows_of : Matrix → List Message → List ℕ
rows_of matrix messages = admitted_rows FIRST_ROW (answers (first_tape matrix messages) messages)

-- what is told of the reports of a table
abbrev pub explained_reports : Matrix → List Message → List Explained
explained_reports matrix messages = explained_rows (tape_of matrix messages) (rows_of matrix messages)

-- the text that tells of the reports of a table
abbrev pub explain_text : Matrix → List Message → List ℕ
explain_text matrix messages = explained_text (explained_reports matrix messages)
