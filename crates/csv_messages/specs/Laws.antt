-- What is written reads back, and which column a name means.
use Rattle.std.specs.Prelude.{◌≡◌, ◌≢◌, ◌<◌, ◌↔◌, ℕ, List, ◌∷◌, All, Some, None, Ok}
use Rattle.csv.specs.Records.{field_at}
use Rattle.reports.specs.Spelling.{IsMessage}
use Rattle.reports.specs.declared.message.Message.{Message}
use Rattle.csv_messages.specs.Columns.{place_of}
use Rattle.csv_messages.specs.Rows.{row_message}
use Rattle.csv_messages.specs.Tables.{IsTable}
use Rattle.csv_messages.specs.TableTexts.{table_text}
use Rattle.csv_messages.specs.Writing.{row_of}

-- the row of every message reads back as that message
abbrev pub RowRoundTrip : Type 0
RowRoundTrip = (m : Message) → IsMessage m → row_message (row_of m) ≡ Ok m

-- the text of a table of one message or more reads back as those messages
abbrev pub TableRoundTrip : Type 0
TableRoundTrip = (m : Message) (ms : List Message) → All IsMessage (m ∷ ms) → IsTable (table_text (m ∷ ms)) (m ∷ ms)

-- a name occurs at this place of a header row, and at none before
pub record StandsFirst (names : List (List ℕ)) (name : List ℕ) (place : ℕ) : Type 0 where
  pub here : field_at names place ≡ Some name
  pub first : (before : ℕ) → before < place → field_at names before ≢ Some name

-- a name's place is that of its first occurrence, and it has none exactly if it does not occur
pub record IsFirstPlace : Type 0 where
  pub first : (names : List (List ℕ)) (name : List ℕ) (place : ℕ) → (place_of names name ≡ Some place) ↔ StandsFirst names name place
  pub none : (names : List (List ℕ)) (name : List ℕ) → (place_of names name ≡ None) ↔ ((place : ℕ) → field_at names place ≢ Some name)
