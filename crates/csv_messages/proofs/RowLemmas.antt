-- What a reader of a table's rows has taken of its text.
use Rattle.std.proofs.Common.{◌≡◌, ◌≢◌, ◌+◌, ◌∷◌, ◌++◌, ◌∙◌, ◌⊎◌, [], ℕ, List, Option, Some, None, IfSome, Ok, Err, ap, append-nil, append_assoc, arith, inl, inr, length, length-append, refl, subst, sym}
use Rattle.std.proofs.lemmas.Option.{IfSome_then}
use Rattle.csv.specs.Reading.{reader_state}
use Rattle.csv.specs.declared.reader.Reader.{Reader}
use Rattle.reports.specs.declared.message.Message.{Message}
use Rattle.csv_messages.specs.Lemmas.RowFaults.{row_faults-more, row_messages-more}
use Rattle.csv_messages.specs.TableReading.{FailsWith, HasAll, HasColumns, HasNext, HasRead, HasRows, HasTaken, TakesMore, TakesRest}
use Rattle.csv_messages.specs.Tables.{FIRST_ROW, IsTable, IsTableFault, first_of, row_faults, row_messages}
use Rattle.csv_messages.specs.declared.row_fault.RowFault.{RowFault}
use Rattle.csv_messages.specs.declared.row_reader.RowReader.{RowReader}
use Rattle.csv_messages.specs.declared.table_fault.TableFault.{TableFault}
use Rattle.csv_messages.specs.declared.table_fault.TableFault.TheVariants.{NoRow, Row, ReadFault, OutOfMemory}
use Rattle.csv_messages.proofs.TableLemmas.{faults-none, faults-some, messages-under}

module _ {R : Type 0} (remaining : R → Option (List ℕ)) where
  -- nothing more was read
  pub TakesMore-none : (rows : RowReader R) → TakesMore remaining rows rows []
  TakesMore-none rows = λ input before had. subst (HasTaken remaining rows input) (sym (append-nil before)) had

  -- messages more, and others
  pub TakesMore-both : (old mid new : RowReader R) (first second : List Message) → TakesMore remaining old mid first → TakesMore remaining mid new second
      → TakesMore remaining old new (first ++ second)
  TakesMore-both old mid new first second one two = λ input before had.
      subst (HasTaken remaining new input) (append_assoc before first second) (two input (before ++ first) (one input before had))

  -- messages more, and all others
  pub TakesRest-both : (old mid : RowReader R) (first second : List Message) → TakesMore remaining old mid first → TakesRest remaining mid second
      → TakesRest remaining old (first ++ second)
  TakesRest-both old mid first second one two = λ input before had.
      subst (IsTable input) (append_assoc before first second) (two input (before ++ first) (one input before had))

  -- messages more, and a fault
  pub FailsWith-after : (old mid : RowReader R) (first : List Message) (fault : TableFault) → TakesMore remaining old mid first → FailsWith remaining mid fault
      → FailsWith remaining old fault
  FailsWith-after old mid first fault one two = λ input before had. two input (before ++ first) (one input before had)

  -- ## A row

  -- a row that is a message
  pub TakesMore-one : (old new : RowReader R) (message : Message) → HasNext remaining old new (Ok message) → TakesMore remaining old new (message ∷ [])
  TakesMore-one old new message next = λ input before had. record {
    read = had.read ++ next.fields ∷ [];
    has = next.more input had.read had.has;
    faults = rw next.columns (row_faults-more old.columns FIRST_ROW had.read next.fields ∙ rw (had.faults, ← next.is) refl);
    are = rw next.columns (row_messages-more old.columns had.read next.fields ∙ rw (had.are, ← next.is) refl);
  }

  -- a row that is none
  pub FailsWith-row : (old new : RowReader R) (fault : RowFault) → HasNext remaining old new (Err fault) → FailsWith remaining old (Row old.number fault)
  FailsWith-row old new fault next = λ input before had.
      let now = next.more input had.read had.has in
      let rows = had.read ++ next.fields ∷ [] in
      let faults : row_faults old.columns FIRST_ROW rows ≡ Row old.number fault ∷ [] =
      row_faults-more old.columns FIRST_ROW had.read next.fields ∙ rw (had.faults, ← next.is) (ap (λ (n : ℕ). Row n fault ∷ []) (omega (arith, had.has.number))) in (
        now.names ∷ rows,
        (reader_state new.reader, now.has.rest, now.has.reached),
        ap first_of (faults-some now.names old.columns rows (now.columns ∙ ap Ok next.columns) (λ none. omega (arith, none, length-append had.read (next.fields ∷ []))) ∙ faults),
      )

  -- no row more, behind the first
  pub TakesRest-none : (rows : RowReader R) → (rows.number ≡ FIRST_ROW → ⊥) → HasAll remaining rows → TakesRest remaining rows []
  TakesRest-none rows some all = λ input before had.
      let (names, are, named) = all input had.read had.has in
      subst (IsTable input) (sym (append-nil before)) (
        names ∷ had.read,
        are,
        faults-some names rows.columns had.read named (λ none. some (omega (arith, none, had.has.number))) ∙ had.faults,
        messages-under names rows.columns had.read named ∙ had.are,
      )

  -- a table with no row
  pub FailsWith-none : (rows : RowReader R) → rows.number ≡ FIRST_ROW → HasAll remaining rows → FailsWith remaining rows NoRow
  FailsWith-none rows first all = λ input before had.
      let (names, are, named) = all input had.read had.has in
      (names ∷ had.read, are, faults-none names rows.columns had.read named (omega (arith, first, had.has.number)))

  -- a read failed, or memory ran out
  pub FailsWith-read : (rows : RowReader R) (fault : TableFault) → (fault ≡ ReadFault) ⊎ (fault ≡ OutOfMemory) → FailsWith remaining rows fault
  FailsWith-read rows fault (inl read) = λ input before had. rw read tt
  FailsWith-read rows fault (inr memory) = λ input before had. rw memory tt

  -- ## The header row

  -- no row was read yet
  pub HasRows-none : (rows : RowReader R) (start : Reader R) (known : Option (List ℕ)) → rows.number ≡ FIRST_ROW
      → IfSome known (λ input. HasRead remaining start input []) → ((input : List ℕ) → HasRead remaining start input [] → HasColumns remaining rows.reader input rows.columns)
      → IfSome known (λ input. HasRows remaining rows input [])
  HasRows-none rows start None number begun named = tt
  HasRows-none rows start (Some input) number begun named =
      let (names, read, is) = named input begun in
      record { names = names; has = read; columns = is; number = number }

  -- so no message
  pub HasTaken-none : (rows : RowReader R) (input : List ℕ) → HasRows remaining rows input [] → HasTaken remaining rows input []
  unfolding row_faults row_messages
  HasTaken-none rows input had = record { read = []; has = had; faults = refl; are = refl }

-- ## A whole table

module _ {R : Type 0} (remaining : R → Option (List ℕ)) (rows : RowReader R) where
  -- its messages, if its bytes are known
  pub is_table : (known : Option (List ℕ)) (messages : List Message) → IfSome known (λ input. HasRows remaining rows input [])
      → TakesRest remaining rows messages → IfSome known (λ input. IsTable input messages)
  is_table known messages begun all = IfSome_then known begun (λ input had. all input [] (HasTaken-none remaining rows input had))

  -- or its fault
  pub is_table_fault : (known : Option (List ℕ)) (fault : TableFault) → IfSome known (λ input. HasRows remaining rows input [])
      → FailsWith remaining rows fault → IfSome known (λ input. IsTableFault input fault)
  is_table_fault known fault begun fails = IfSome_then known begun (λ input had. fails input [] (HasTaken-none remaining rows input had))
