-- What a sink is given of a tape that is followed.
use Rattle.std.specs.Prelude.{◌≡◌, ◌≤◌, ℕ, List, [], ◌∷◌, ◌++◌, length, take, Option, Some, IfSome, IsSomeAnd}
use Rattle.std.specs.Io.KnownBytes.{Appends}
use Rattle.whole_io.specs.Writing.{WritesPrefix}
use Rattle.tape_types.specs.Names.{Names}
use Rattle.sale_matrix.specs.declared.matrix.Matrix.{Matrix}
use Rattle.tape_core.specs.declared.entry.Entry.{Entry}
use Rattle.tape_core.specs.declared.row_figures.RowFigures.{RowFigures}
use Rattle.tape_core.specs.Tape.{TapeState, IsLegal, row_figures}
use Rattle.day_report.specs.ReportText.{report_text}
use Rattle.day_report.specs.Rows.{report_rows}

-- the bytes that a sink makes of an entry and the figures of its symbol right after it
abbrev pub EntryText : Type 0
EntryText = Entry → RowFigures → List ℕ

-- the bytes that are made of entries after others, one by one: of each with the figures right after it
abbrev pub rows_after : EntryText → Matrix → List Entry → List Entry → List ℕ
rows_after row matrix before [] = []
rows_after row matrix before (e ∷ entries) =
    row e (row_figures matrix (before ++ e ∷ []) e.message) ++ rows_after row matrix (before ++ e ∷ []) entries

-- the bytes that are made of the entries of a tape, in order and of each once
abbrev pub rows_of : EntryText → TapeState → List ℕ
rows_of row t = rows_after row t.matrix [] t.entries

-- rows of more entries are more rows
abbrev pub RowsGrow : TapeState → TapeState → Type 0
RowsGrow t after = (row : EntryText) → (more : List ℕ) × (rows_of row after ≡ rows_of row t ++ more)

-- a sink was given each entry that a tape has more, and nothing else
pub record GivesMore (row : EntryText) (t after : TapeState) (had has : Option (List ℕ)) : Type 0 where
  pub more : List ℕ
  pub grown : rows_of row after ≡ rows_of row t ++ more
  pub given : Appends had has more

-- a sink has the rows of the entries that a tape has more, up to some byte of them, and nothing else
pub record GivesSome (row : EntryText) (t after : TapeState) (had has : Option (List ℕ)) : Type 0 where
  pub more : List ℕ
  pub grown : rows_of row after ≡ rows_of row t ++ more
  pub given : WritesPrefix more had has

-- known bytes have grown by a text
abbrev pub HasAll : List ℕ → Option (List ℕ) → Option (List ℕ) → Type 0
HasAll text had has = IfSome had (λ xs. has ≡ Some (xs ++ text))

-- known bytes have grown by a text up to some byte of it
abbrev pub HasPart : List ℕ → Option (List ℕ) → Option (List ℕ) → Type 0
HasPart text had has = IfSome had (λ xs. IsSomeAnd has (λ ys. (length xs ≤ length ys) × (ys ≡ take (length ys) (xs ++ text))))

-- a legal tape of the listing and the matrix, of no more entries than the limit
pub record IsTapeOf (listing : Names) (matrix : Matrix) (limit : ℕ) (t : TapeState) : Type 0 where
  pub legal : IsLegal t
  pub listed : t.listing ≡ listing
  pub by_matrix : t.matrix ≡ matrix
  pub within : length t.entries ≤ limit

-- a sink was given all entries of some such tape, and nothing else
abbrev pub GivesTape : EntryText → Names → Matrix → ℕ → Option (List ℕ) → Option (List ℕ) → Type 0
GivesTape row listing matrix limit old new = (t : TapeState) × IsTapeOf listing matrix limit t × Appends old new (rows_of row t)

-- a sink has the rows of some such tape, up to some byte of them, and nothing else
abbrev pub GivesPart : EntryText → Names → Matrix → ℕ → Option (List ℕ) → Option (List ℕ) → Type 0
GivesPart row listing matrix limit old new = (t : TapeState) × IsTapeOf listing matrix limit t × HasPart (rows_of row t) old new

-- a sink was given all entries of some such tape, and the whole report of the same tape was appended
abbrev pub GivesItsReport : EntryText → Names → Matrix → ℕ → Option (List ℕ) → Option (List ℕ) → Option (List ℕ) → Option (List ℕ) → Type 0
GivesItsReport row listing matrix limit given_old given_new old new =
    (t : TapeState) × IsTapeOf listing matrix limit t × Appends given_old given_new (rows_of row t) × Appends old new (report_text (report_rows t))
