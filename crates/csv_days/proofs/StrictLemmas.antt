-- What is refused of messages, and what a strict run writes of them.
use Rattle.std.proofs.Common.{◌≡◌, ◌∙◌, ◌∷◌, ◌+◌, ◌⊎◌, [], ℕ, true, List, Option, Result, Some, None, Ok, Err, IfOk, IfSome, OnOk, ap, arith, inl, inr, refl, subst, sym}
use Rattle.std.specs.Prelude.{is_ok}
use Rattle.std.specs.List.{count_by, list_all, position_from}
use Rattle.std.specs.Option.{option_map}
use Rattle.std.proofs.lemmas.Bool.{cases_Bool}
use Rattle.std.proofs.lemmas.Bool.Decides.{nat_tests}
use Rattle.sale_matrix.specs.declared.matrix.Matrix.{Matrix}
use Rattle.reports.specs.declared.message.Message.{Message}
use Rattle.tape_core.specs.Tape.{TapeState}
use Rattle.tape_core.specs.declared.refusal.Refusal.{Refusal}
use Rattle.std.specs.Io.KnownBytes.{Appends}
use Rattle.csv_messages.specs.Tables.{FIRST_ROW, IsTable}
use Rattle.tape_core.specs.Answers.{answers}
use Rattle.csv_days.specs.Days.{MakeListing, first_tape}
use Rattle.csv_days.specs.Refusals.{AreRefusals, RefusesNone, is_refusal, refused_rows}
use Rattle.csv_days.specs.StaleRows.{first_stale}
use Rattle.csv_days.specs.Strict.{IsListed, IsToldOf, admits_all, strictly}
use Rattle.csv_days.specs.TableEnds.{WritesTable}
use Rattle.csv_days.specs.declared.refusals.Refusals.{Refusals}
use Rattle.csv_days.specs.declared.refusals.RefusedRows.{RefusedRows}
use Rattle.csv_days.specs.declared.table_end.TableEnd.{TableEnd}
use Rattle.csv_days.proofs.EndLemmas.{table_written}

-- a refusal is itself
is_refusal-itself : (refused : Refusal) → is_refusal refused (Err refused) ≡ true
is_refusal-itself refused = grind (arith, nat_tests)

-- so many rows that were refused, and the first
abbrev first_of : ℕ → ℕ → RefusedRows
first_of count row = record { count = count; first = row }

-- a reason with no first row
no_row : (count : ℕ) (o : Option ℕ) → option_map (first_of count) o ≡ None → o ≡ None
no_row count None none = refl
no_row count (Some row) none = absurd (cc none)

-- if no reason has a row, none is refused
all-admitted : (i : ℕ) (given : List (Result ℕ Refusal)) → ((reason : Refusal) → position_from (is_refusal reason) i given ≡ None)
    → list_all is_ok given ≡ true
all-admitted i [] none = refl
all-admitted i (Ok number ∷ rest) none = all-admitted (i + 1) rest none
all-admitted i (Err refused ∷ rest) none = absurd (cc (rw (is_refusal-itself refused) at (none refused)))

-- and if none is refused, no reason has a row
none-refused : (i : ℕ) (given : List (Result ℕ Refusal)) (reason : Refusal) → list_all is_ok given ≡ true
    → position_from (is_refusal reason) i given ≡ None
none-refused i [] reason all = refl
none-refused i (Ok number ∷ rest) reason all = none-refused (i + 1) rest reason all
none-refused i (Err refused ∷ rest) reason all = absurd (cc all)

-- ## Strict runs

module _ (t : TapeState) (messages : List Message) (refusals : Refusals) (are : AreRefusals (answers t messages) refusals) where
  -- a tape of which nothing is told admits all
  admits-all : RefusesNone refusals → admits_all t messages ≡ true
  unfolding refused_rows
  admits-all none = all-admitted FIRST_ROW (answers t messages)
      (λ reason. no_row (count_by (is_refusal reason) (answers t messages)) (position_from (is_refusal reason) FIRST_ROW (answers t messages))
      (sym (are.reasons reason) ∙ none reason))

  -- of a tape that admits all, nothing is told
  tells-none : admits_all t messages ≡ true → RefusesNone refusals
  unfolding refused_rows
  tells-none all reason = are.reasons reason
      ∙ ap (λ (o : Option ℕ). option_map (first_of (count_by (is_refusal reason) (answers t messages))) o)
      (none-refused FIRST_ROW (answers t messages) reason all)

module _ (text : Matrix → List Message → List ℕ) (matrix : Matrix) (messages : List Message) (refusals : Refusals)
    (are : AreRefusals (answers (first_tape matrix messages) messages) refusals) where
  -- the whole text is written if nothing is refused
  pub strictly-all : RefusesNone refusals → strictly text matrix messages ≡ text matrix messages
  unfolding strictly
  strictly-all none = rw (admits-all (first_tape matrix messages) messages refusals are none) refl

  -- and nothing if a row is
  pub strictly-some : (RefusesNone refusals → ⊥) → strictly text matrix messages ≡ []
  unfolding strictly
  strictly-some some = elim (cases_Bool (admits_all (first_tape matrix messages) messages)) [
    | inl all ↦ absurd (some (tells-none (first_tape matrix messages) messages refusals are all))
    | inr other ↦ rw other refl
  ]

-- nothing is told of the same answers twice
pub RefusesNone-same : (given : List (Result ℕ Refusal)) (first second : Refusals) → AreRefusals given first → AreRefusals given second
    → RefusesNone first → RefusesNone second
RefusesNone-same given first second one two none reason = two.reasons reason ∙ sym (one.reasons reason) ∙ none reason

-- what is told of messages by a run that has the same refusals
pub told_by : (matrix : Matrix) (messages : List Message) (r : Result Refusals TableEnd) → MakeListing messages
    → IfOk r (AreRefusals (answers (first_tape matrix messages) messages)) → IfOk r (λ refusals. refusals.stale ≡ first_stale (first_tape matrix messages) messages)
    → IfOk r (IsToldOf matrix messages)
told_by matrix messages (Ok refusals) listed refused stale = record { listed = listed; refused = refused; stale = stale }
told_by matrix messages (Err end) listed refused stale = tt

-- such a run refuses none if nothing was refused
pub none_by : (given : List (Result ℕ Refusal)) (first : Refusals) (r : Result Refusals TableEnd) (P : Type 0) → AreRefusals given first → RefusesNone first
    → IfOk r (AreRefusals given) → IfOk r (λ refusals. RefusesNone refusals ⊎ P)
none_by given first (Ok refusals) P are none refused = inl (RefusesNone-same given first refusals are refused none)
none_by given first (Err end) P are none refused = tt

-- ## A table

-- a table was written, or nothing of it
pub table_told : (text : Matrix → List Message → List ℕ) (matrix : Matrix) (known : Option (List ℕ)) (messages seen : List Message)
    (r : Result Refusals TableEnd) (old new : Option (List ℕ)) → seen ≡ messages → IfSome known (λ input. IsTable input messages)
    → IfOk r (IsToldOf matrix seen) → OnOk r (Appends old new (strictly text matrix seen))
    → IfSome known (λ input. IfOk r (λ refusals. WritesTable (strictly text) matrix input refusals old new))
table_told text matrix known messages seen r old new same table told written =
    table_written (strictly text) matrix known messages seen r old new same table (refused r told) (stale r told) written
  where
    refused : (r : Result Refusals TableEnd) → IfOk r (IsToldOf matrix seen) → IfOk r (AreRefusals (answers (first_tape matrix seen) seen))
    refused (Ok refusals) told = told.refused
    refused (Err end) told = tt

    stale : (r : Result Refusals TableEnd) → IfOk r (IsToldOf matrix seen) → IfOk r (λ refusals. refusals.stale ≡ first_stale (first_tape matrix seen) seen)
    stale (Ok refusals) told = told.stale
    stale (Err end) told = tt

-- the names in the table make a listing
pub table_listed : (matrix : Matrix) (known : Option (List ℕ)) (messages seen : List Message) (r : Result Refusals TableEnd) → seen ≡ messages
    → IfSome known (λ input. IsTable input messages) → IfOk r (IsToldOf matrix seen) → IfSome known (λ input. OnOk r (IsListed input))
table_listed matrix None messages seen r same table told = tt
table_listed matrix (Some input) messages seen (Err end) same table told = tt
table_listed matrix (Some input) messages seen (Ok refusals) same table told = (seen, subst (IsTable input) (sym same) table, told.listed)
