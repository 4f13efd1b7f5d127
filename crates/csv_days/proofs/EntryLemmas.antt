-- The rows of a tape's entries, and the text of rows that wait.
use Rattle.std.proofs.Common.{◌≡◌, ◌++◌, ◌∷◌, ◌∙◌, [], List, Option, None, Some, ap, append-nil, append_assoc, filter, fold, refl, sym}
use Rattle.std.proofs.lemmas.List.{append_cancel_left}
use Rattle.sale_matrix.specs.declared.matrix.Matrix.{Matrix}
use Rattle.reports.specs.declared.message.Message.{Message}
use Rattle.tape_core.specs.Tape.{TapeState, next_entry, refusal}
use Rattle.tape_core.specs.declared.entry.Entry.{Entry}
use Rattle.tape_core.specs.declared.refusal.Refusal.{Refusal}
use Rattle.tape_core.specs.Answers.{answer, answer_by, tape_after, tape_by}
use Rattle.csv_days.specs.Laws.{RowsOfEntries, is_numbered}
use Rattle.csv_days.specs.TapeRows.{TapeRow, entry_rows, figures_after, tape_row, tape_rows}

-- the entry of a message that a tape refuses so, or not at all
abbrev entry_by : TapeState → Message → Option Refusal → List Entry
entry_by t m None = next_entry t.matrix t.entries m ∷ []
entry_by t m (Some refused) = []

-- the entries that a tape gets of messages
unfoldable gained : TapeState → List Message → List Entry
gained t [] = []
gained t (m ∷ messages) = entry_by t m (refusal t m) ++ gained (tape_after t m) messages

-- a message's entry comes after those before it
entries-after : (t : TapeState) (m : Message) → (tape_after t m).entries ≡ t.entries ++ entry_by t m (refusal t m)
unfolding tape_after
entries-after t m = cases (refusal t m)
  where
    cases : (o : Option Refusal) → (tape_by t m o).entries ≡ t.entries ++ entry_by t m o
    cases None = refl
    cases (Some refused) = sym (append-nil t.entries)

-- the matrix stays
matrix-after : (t : TapeState) (m : Message) → (tape_after t m).matrix ≡ t.matrix
unfolding tape_after
matrix-after t m = cases (refusal t m)
  where
    cases : (o : Option Refusal) → (tape_by t m o).matrix ≡ t.matrix
    cases None = refl
    cases (Some refused) = refl

-- and so it does over messages
pub matrix-kept : (t : TapeState) (messages : List Message) → (fold tape_after t messages).matrix ≡ t.matrix
matrix-kept t [] = refl
matrix-kept t (m ∷ messages) = matrix-kept (tape_after t m) messages ∙ matrix-after t m

-- the entries of messages come after those before them
entries-gained : (t : TapeState) (messages : List Message) → (fold tape_after t messages).entries ≡ t.entries ++ gained t messages
unfolding gained
entries-gained t [] = sym (append-nil t.entries)
entries-gained t (m ∷ messages) =
    entries-gained (tape_after t m) messages
    ∙ ap (λ (l : List Entry). l ++ gained (tape_after t m) messages) (entries-after t m)
    ∙ append_assoc t.entries (entry_by t m (refusal t m)) (gained (tape_after t m) messages)

-- the rows of entries, and of more
entry_rows-append : (matrix : Matrix) (before first second : List Entry)
    → entry_rows matrix before (first ++ second) ≡ entry_rows matrix before first ++ entry_rows matrix (before ++ first) second
unfolding entry_rows
entry_rows-append matrix before [] second = ap (λ (l : List Entry). entry_rows matrix l second) (sym (append-nil before))
entry_rows-append matrix before (e ∷ first) second =
    let row = entry_rows matrix before (e ∷ []) in
    ap (λ (l : List TapeRow). row ++ l) (entry_rows-append matrix (before ++ e ∷ []) first second)
    ∙ ap (λ (l : List Entry). row ++ (entry_rows matrix (before ++ e ∷ []) first ++ entry_rows matrix l second)) (append_assoc before (e ∷ []) first)

-- a message's row is that of its entry, if it has one
rows-one : (t : TapeState) (m : Message) (rest : List TapeRow)
    → filter is_numbered (tape_row t m ∷ rest) ≡ entry_rows t.matrix t.entries (entry_by t m (refusal t m)) ++ filter is_numbered rest
unfolding tape_row tape_after answer entry_rows
rows-one t m rest = cases (refusal t m)
  where
    cases : (o : Option Refusal)
        → filter is_numbered (record { answer = answer_by t o; message = m; figures = figures_after (tape_by t m o) m } ∷ rest)
        ≡ entry_rows t.matrix t.entries (entry_by t m o) ++ filter is_numbered rest
    cases None = refl
    cases (Some refused) = refl

-- the rows of messages are those of their entries
rows-gained : (t : TapeState) (messages : List Message) → filter is_numbered (tape_rows t messages) ≡ entry_rows t.matrix t.entries (gained t messages)
unfolding tape_rows gained entry_rows
rows-gained t [] = refl
rows-gained t (m ∷ messages) =
    let one = entry_by t m (refusal t m) in
    let more = gained (tape_after t m) messages in
    let first = entry_rows t.matrix t.entries one in
    rows-one t m (tape_rows (tape_after t m) messages)
    ∙ ap (λ (l : List TapeRow). first ++ l) (rows-gained (tape_after t m) messages)
    ∙ ap (λ (x : Matrix). first ++ entry_rows x (tape_after t m).entries more) (matrix-after t m)
    ∙ ap (λ (l : List Entry). first ++ entry_rows t.matrix l more) (entries-after t m)
    ∙ sym (entry_rows-append t.matrix t.entries one more)

-- of messages that a tape answers, the rows with a tape number are the rows of the entries that it gets
pub rows_of_entries : RowsOfEntries
rows_of_entries t messages entries is =
    rows-gained t messages
    ∙ ap (entry_rows t.matrix t.entries) (append_cancel_left t.entries (gained t messages) entries (sym (entries-gained t messages) ∙ is))
