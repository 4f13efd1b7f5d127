-- Faults that are told, and others that are counted.
use Rattle.std.proofs.Common.{◌≡◌, ◌≤◌, ◌<◌, ◌+◌, ◌-◌, ◌^◌, ◌∷◌, ◌++◌, ◌∙◌, [], ℕ, List, Result, Ok, Err, OnOk, true, ap, append-nil, append_assoc, arith, drop, get_or, length, length-append, map, min, subst, sym, take}
use Rattle.std.proofs.lemmas.List.{drop-append-le, drop_all, length-drop, length-map, length-take, map-append, take-append-le, take_all, take_more}
use Rattle.std.proofs.lemmas.Grind.{flat_map-append}
use Rattle.std.specs.List.{flat_map}
use Rattle.std.specs.Result.{is_ok}
use Rattle.csv_messages.specs.declared.table_fault.TableFault.{TableFault}
use Rattle.csv_days.specs.Checks.{AreCounts, AreTold, FAULTS_TOLD, fault_of, told_text}
use Rattle.csv_days.specs.declared.fault_counts.FaultCounts.{FaultCounts}
use Rattle.csv_days.specs.declared.told_fault.ToldFault.{ToldFault}

-- how many are told
pub told-count : (faults : List TableFault) (told : List ToldFault) → map fault_of told ≡ take FAULTS_TOLD faults → length told ≡ length (take FAULTS_TOLD faults)
told-count faults told first = sym (length-map told fault_of) ∙ ap length first

-- one fault more that is told
pub told-more : (faults : List TableFault) (old new : ℕ) (lines grown : List ℕ) (next : ToldFault) (more : FaultCounts) → old < FAULTS_TOLD
    → new ≡ min (old + 1) (2 ^ 64 - 1) → grown ≡ lines ++ told_text next
    → AreTold faults old lines more → AreTold (faults ++ next.fault ∷ []) new grown more
told-more faults old new lines grown next more few sum added had =
    let count = told-count faults had.told had.first in
    let size = length-take FAULTS_TOLD faults in
    let below : length faults < FAULTS_TOLD = omega (arith, count, size, few, had.counted) in
    let whole : length (faults ++ next.fault ∷ []) ≤ FAULTS_TOLD = omega (arith, below, length-append faults (next.fault ∷ [])) in
    record {
      told = had.told ++ next ∷ [];
      first = map-append fault_of had.told (next ∷ [])
          ∙ ap (λ (l : List TableFault). l ++ next.fault ∷ []) (had.first ∙ take_all FAULTS_TOLD faults (omega (arith, below)))
          ∙ sym (take_all FAULTS_TOLD (faults ++ next.fault ∷ []) whole);
      counted = omega (arith, sum, few, had.counted, length-append had.told (next ∷ []));
      by_lines = added ∙ ap (λ (l : List ℕ). l ++ told_text next) had.by_lines
          ∙ ap (λ (l : List ℕ). flat_map told_text had.told ++ l) (sym (append-nil (told_text next)))
          ∙ sym (flat_map-append told_text had.told (next ∷ []));
      others = subst (λ (l : List TableFault). AreCounts l more)
          (drop_all FAULTS_TOLD faults (omega (arith, below)) ∙ sym (drop_all FAULTS_TOLD (faults ++ next.fault ∷ []) whole)) had.others;
    }

-- one fault more that is counted
pub told-over : (faults : List TableFault) (count : ℕ) (lines : List ℕ) (fault : TableFault) (old new : FaultCounts) → FAULTS_TOLD ≤ count
    → AreTold faults count lines old → (AreCounts (drop FAULTS_TOLD faults) old → AreCounts (drop FAULTS_TOLD faults ++ fault ∷ []) new)
    → AreTold (faults ++ fault ∷ []) count lines new
told-over faults count lines fault old new over had counts =
    let told = told-count faults had.told had.first in
    let size = length-take FAULTS_TOLD faults in
    let long : FAULTS_TOLD ≤ length faults = omega (arith, told, size, over, had.counted) in
    record {
      told = had.told;
      first = had.first ∙ sym (take-append-le FAULTS_TOLD faults (fault ∷ []) long);
      counted = had.counted;
      by_lines = had.by_lines;
      others = subst (λ (l : List TableFault). AreCounts l new) (sym (drop-append-le FAULTS_TOLD faults (fault ∷ []) long)) (counts had.others);
    }

-- the faults behind those that are told are no more than all
pub others-few : (faults : List TableFault) → length (drop FAULTS_TOLD faults) ≤ length faults
others-few faults = omega (arith, length-drop FAULTS_TOLD faults)

-- the lines of one thing more
pub lines-more : {X : Type 0} (line : X → List ℕ) (xs : List X) (i : ℕ) (d : X) (start old new : List ℕ) → i < length xs
    → old ≡ start ++ flat_map line (take i xs) → new ≡ old ++ line (get_or xs i d) → new ≡ start ++ flat_map line (take (i + 1) xs)
lines-more {X} line xs i d start old new within so_far written =
    let front = flat_map line (take i xs) in
    let next = line (get_or xs i d) in
    written ∙ ap (λ (l : List ℕ). l ++ next) so_far ∙ append_assoc start front next
    ∙ ap (λ (l : List ℕ). start ++ (front ++ l)) (sym (append-nil next))
    ∙ ap (λ (l : List ℕ). start ++ l) (sym (flat_map-append line (take i xs) (get_or xs i d ∷ [])))
    ∙ ap (λ (l : List X). start ++ flat_map line l) (sym (take_more xs i d within))

-- before the only fault few are told
pub told-few : (count : ℕ) (lines : List ℕ) (more : FaultCounts) → AreTold [] count lines more → count < FAULTS_TOLD
told-few count lines more had = omega (arith, had.counted, told-count [] had.told had.first)

-- what follows from two facts of a success
pub both-ok : {A E : Type 0} (r : Result A E) (P Q S : Type 0) → (P → Q → S) → OnOk r P → OnOk r Q → OnOk r S
both-ok (Ok value) P Q S f p q = f p q
both-ok (Err error) P Q S f p q = tt

-- what holds of a success
pub on-ok : {A E : Type 0} (r : Result A E) (P : Type 0) → is_ok r ≡ true → OnOk r P → P
on-ok (Ok value) P good p = p
on-ok (Err error) P good p = absurd (cc good)
