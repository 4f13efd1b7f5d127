-- What is told of a table's check.
use Rattle.std.proofs.Common.{◌≡◌, ◌==◌, ◌&&◌, ◌∷◌, ◌∙◌, [], ℕ, List, Bool, Option, Some, None, IfSome, ap, arith, inl, inr, is_some, not, refl}
use Rattle.std.proofs.lemmas.Bool.{cases_Bool, eqb-true}
use Rattle.std.proofs.lemmas.List.{length-take}
use Rattle.std.specs.Io.KnownBytes.{Appends}
use Rattle.whole_io.specs.Writing.{WritesPrefix}
use Rattle.tape_types.specs.Names.{is_nil}
use Rattle.tape_types.specs.declared.listing_fault.ListingFault.{ListingFault}
use Rattle.reports.specs.declared.message.Message.{Message}
use Rattle.csv_messages.specs.Tables.{known_messages, table_faults}
use Rattle.csv_messages.specs.declared.table_fault.TableFault.{TableFault}
use Rattle.csv_days.specs.EndDays.{AreNames}
use Rattle.csv_days.specs.Checks.{AreTold, FAULTS_TOLD, IsCheckOf, IsCheckOfText, WritesCheck, WritesCheckPart, check_text, is_faultless, names_wrong}
use Rattle.csv_days.specs.declared.fault_counts.FaultCounts.{FaultCounts}
use Rattle.csv_days.specs.declared.table_check.TableCheck.{TableCheck}
use Rattle.csv_days.proofs.ToldLemmas.{told-count}

-- nothing is told exactly if there is no fault
none-told : (faults : List TableFault) (count : ℕ) (lines : List ℕ) (more : FaultCounts) → AreTold faults count lines more → (count == 0) ≡ is_nil faults
none-told [] count lines more had = ap (λ (n : ℕ). n == 0) (had.counted ∙ told-count [] had.told had.first)
none-told (f ∷ faults) count lines more had =
    let size = length-take FAULTS_TOLD (f ∷ faults) in
    let told = told-count (f ∷ faults) had.told had.first in
    elim (cases_Bool (count == 0)) [
      | inl none ↦ absurd (omega (arith, eqb-true count 0 none, had.counted, told, size))
      | inr some ↦ some
    ]

-- whether a table has no fault
faultless-is : (records : List (List (List ℕ))) (check : TableCheck) (found : Option ListingFault) → IsCheckOf records check
    → found ≡ names_wrong (known_messages records) → ((check.told == 0) && not (is_some found)) ≡ is_faultless records
faultless-is records check found is wrong =
    rw (none-told (table_faults records) check.told check.lines.items check.more is.faults, wrong) refl

-- what is told of a text was written
pub check-written : (known : Option (List ℕ)) (faultless : Bool) (check : TableCheck) (found : Option ListingFault) (text : List ℕ) (old new : Option (List ℕ))
    → IfSome known (λ input. IsCheckOfText input check) → ((messages : List Message) → AreNames messages check.names → found ≡ names_wrong messages)
    → text ≡ check_text check found → faultless ≡ ((check.told == 0) && not (is_some found)) → Appends old new text
    → IfSome known (λ input. WritesCheck input faultless old new)
check-written None faultless check found text old new checked wrong told fine written = tt
check-written (Some input) faultless check found text old new (records, are, is) wrong told fine written =
    let same = wrong (known_messages records) is.names in
    record {
      records = records;
      checked = are;
      is = fine ∙ faultless-is records check found is same;
      text = text;
      told = (check, is, told ∙ ap (check_text check) same);
      written = written;
    }

-- a part of it was written
pub check-part : (known : Option (List ℕ)) (check : TableCheck) (found : Option ListingFault) (text : List ℕ) (old new : Option (List ℕ))
    → IfSome known (λ input. IsCheckOfText input check) → ((messages : List Message) → AreNames messages check.names → found ≡ names_wrong messages)
    → text ≡ check_text check found → WritesPrefix text old new
    → IfSome known (λ input. WritesCheckPart input old new)
check-part None check found text old new checked wrong told written = tt
check-part (Some input) check found text old new (records, are, is) wrong told written = record {
  records = records;
  checked = are;
  text = text;
  told = (check, is, told ∙ ap (check_text check) (wrong (known_messages records) is.names));
  written = written;
}
