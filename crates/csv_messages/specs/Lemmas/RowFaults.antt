-- The faults and the messages of rows and of one row more.
use Rattle.std.proofs.Common.{◌≡◌, ◌≤◌, ◌+◌, ◌∷◌, ◌++◌, ◌∙◌, [], ℕ, List, Result, Ok, Err, ap, append-nil, append_assoc, arith, length, length-append, sym}
use Rattle.reports.specs.declared.message.Message.{Message}
use Rattle.csv_messages.specs.Tables.{fault_of, fields_message, message_of, row_faults, row_messages}
use Rattle.csv_messages.specs.declared.columns.Columns.{Columns}
use Rattle.csv_messages.specs.declared.row_fault.RowFault.{RowFault}
use Rattle.csv_messages.specs.declared.table_fault.TableFault.{TableFault}

-- the faults of rows and of one more
pub row_faults-more : (columns : Columns) (n : ℕ) (rows : List (List (List ℕ))) (fields : List (List ℕ))
    → row_faults columns n (rows ++ fields ∷ []) ≡ row_faults columns n rows ++ fault_of (n + length rows) (fields_message columns fields)
unfolding row_faults
row_faults-more columns n [] fields =
    append-nil (fault_of n (fields_message columns fields)) ∙ ap (λ (k : ℕ). fault_of k (fields_message columns fields)) (omega arith)
row_faults-more columns n (r ∷ rows) fields =
    let here = fault_of n (fields_message columns r) in
    let last = λ (k : ℕ). fault_of k (fields_message columns fields) in
    ap (λ (l : List TableFault). here ++ l)
    (row_faults-more columns (n + 1) rows fields ∙ ap (λ (k : ℕ). row_faults columns (n + 1) rows ++ last k) (omega arith))
    ∙ sym (append_assoc here (row_faults columns (n + 1) rows) (last (n + length (r ∷ rows))))

-- a row has one fault at most
fault_of-few : (n : ℕ) (read : Result Message RowFault) → length (fault_of n read) ≤ 1
fault_of-few n (Ok message) = omega arith
fault_of-few n (Err fault) = omega arith

-- so there are no more faults than rows
pub row_faults-few : (columns : Columns) (n : ℕ) (rows : List (List (List ℕ))) → length (row_faults columns n rows) ≤ length rows
unfolding row_faults
row_faults-few columns n [] = omega arith
row_faults-few columns n (r ∷ rows) = omega (
  arith,
  length-append (fault_of n (fields_message columns r)) (row_faults columns (n + 1) rows),
  fault_of-few n (fields_message columns r),
  row_faults-few columns (n + 1) rows,
)

-- the messages of rows and of one more
pub row_messages-more : (columns : Columns) (rows : List (List (List ℕ))) (fields : List (List ℕ))
    → row_messages columns (rows ++ fields ∷ []) ≡ row_messages columns rows ++ message_of (fields_message columns fields)
unfolding row_messages
row_messages-more columns [] fields = append-nil (message_of (fields_message columns fields))
row_messages-more columns (r ∷ rows) fields =
    let here = message_of (fields_message columns r) in
    ap (λ (l : List Message). here ++ l) (row_messages-more columns rows fields)
    ∙ sym (append_assoc here (row_messages columns rows) (message_of (fields_message columns fields)))
