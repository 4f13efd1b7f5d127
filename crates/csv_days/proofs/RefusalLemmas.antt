-- What is refused of one answer more.
use Rattle.std.proofs.Common.{◌≡◌, ◌≢◌, ◌<◌, ◌≤◌, ◌+◌, ◌-◌, ◌^◌, ◌==◌, ◌∷◌, ◌++◌, ◌∙◌, [], ℕ, List, Bool, true, false, cond, Option, Result, Some, None, Ok, Err, IfSome}
use Rattle.std.proofs.Common.{ap, arith, inl, inr, length, length-append, refl, replicate, subst, sym, zero-add}
use Rattle.std.proofs.lemmas.Bool.{cases_Bool, eq-eqb}
use Rattle.std.proofs.lemmas.List.{get_or-replicate, get_or-set_other, get_or-set_same}
use Rattle.std.proofs.lemmas.List.Sums.{count_by-le-length, sum_by_from, sum_by_push}
use Rattle.std.specs.List.{count_by, list_all, position_from}
use Rattle.std.specs.Prelude.{if◌then◌else◌, is_none, nat_le, slice_get}
use Rattle.std.proofs.lemmas.Option.{same_Some, slice_get_within, get_or_from_slice_get}
use Rattle.std.proofs.lemmas.List.Folds.{list_all_at}
use Rattle.std.specs.Prelude.{slice_index_or, slice_set}
use Rattle.std.specs.Option.{option_map}
use Rattle.tape_core.specs.Lemmas.RefusalCodes.{position_known}
use Rattle.tape_core.specs.Refusals.{all_refusals, refusal_code, refusal_position}
use Rattle.tape_core.specs.declared.refusal.Refusal.{Refusal}
use Rattle.csv_messages.specs.Tables.{FIRST_ROW}
use Rattle.csv_days.specs.Refusals.{AreReasons, RefusesNone, is_refusal, one_more, refused_for, refused_rows}
use Rattle.csv_days.specs.declared.refusals.Refusals.{Refusals}
use Rattle.csv_days.specs.declared.refusals.RefusedRows.{RefusedRows}

-- the position of a refusal is one of thirteen
position_range : (r : Refusal) → refusal_position r < 13
position_range r = slice_get_within all_refusals (refusal_position r) r (position_known r)

-- refusals at one position have one number
same_number : (r other : Refusal) → refusal_position other ≡ refusal_position r → refusal_code r ≡ refusal_code other
same_number r other same =
    ap refusal_code (same_Some r other (sym (position_known r) ∙ ap (slice_get all_refusals) (sym same) ∙ position_known other))

-- and refusals of one number one position
same_position : (r other : Refusal) → refusal_code r ≡ refusal_code other → refusal_position other ≡ refusal_position r
same_position r other same = ap (λ (n : ℕ). if nat_le n 41 then n - 31 else n - 32) (sym same)

-- ## Lists

-- an element more that fails a test is not the first to pass it
position_from-fails : {X : Type 0} (p : X → Bool) (i : ℕ) (xs : List X) (x : X) → p x ≡ false
    → position_from p i (xs ++ x ∷ []) ≡ position_from p i xs
position_from-fails p i [] x fails = rw fails refl
position_from-fails p i (y ∷ xs) x fails = elim (cases_Bool (p y)) [
  | inl passes ↦ rw passes refl
  | inr other ↦ rw other (position_from-fails p (i + 1) xs x fails)
]

-- the first that passes a test stays the first
position_from-found : {X : Type 0} (p : X → Bool) (i k : ℕ) (xs : List X) (x : X) → position_from p i xs ≡ Some k
    → position_from p i (xs ++ x ∷ []) ≡ Some k
position_from-found p i k [] x found = absurd (cc found)
position_from-found p i k (y ∷ xs) x found = elim (cases_Bool (p y)) [
  | inl passes ↦ rw passes (rw passes at found)
  | inr other ↦ rw other (position_from-found p (i + 1) k xs x (rw other at found))
]

-- an element more is the first that passes a test if none did
position_from-new : {X : Type 0} (p : X → Bool) (i : ℕ) (xs : List X) (x : X) → position_from p i xs ≡ None → p x ≡ true
    → position_from p i (xs ++ x ∷ []) ≡ Some (i + length xs)
position_from-new p i [] x none passes = rw passes (ap (λ (n : ℕ). Some n) (omega arith))
position_from-new p i (y ∷ xs) x none passes = elim (cases_Bool (p y)) [
  | inl first ↦ absurd (cc (rw first at none))
  | inr other ↦ rw other (position_from-new p (i + 1) xs x (rw other at none) passes ∙ ap (λ (n : ℕ). Some n) (omega arith))
]

-- if nothing passes a test, none are counted
count_by-none : {X : Type 0} (p : X → Bool) (i : ℕ) (xs : List X) → position_from p i xs ≡ None → count_by p xs ≡ 0
count_by-none p i [] none = refl
count_by-none p i (y ∷ xs) none = elim (cases_Bool (p y)) [
  | inl first ↦ absurd (cc (rw first at none))
  | inr other ↦ sum_by_from (λ x. cond (p x) 1 0) (0 + cond (p y) 1 0) xs
      ∙ rw other (zero-add _ ∙ count_by-none p (i + 1) xs (rw other at none))
]

-- an element more is counted if it passes
pub count_by-passes : {X : Type 0} (p : X → Bool) (xs : List X) (x : X) → p x ≡ true → count_by p (xs ++ x ∷ []) ≡ count_by p xs + 1
count_by-passes p xs x passes = sum_by_push (λ x. cond (p x) 1 0) xs x ∙ rw passes refl

-- and not if it fails
pub count_by-fails : {X : Type 0} (p : X → Bool) (xs : List X) (x : X) → p x ≡ false → count_by p (xs ++ x ∷ []) ≡ count_by p xs
count_by-fails p xs x fails = sum_by_push (λ x. cond (p x) 1 0) xs x ∙ rw fails (omega arith)

-- ## Rows

-- rows by how many they are, if there is a first
abbrev counted : ℕ → Option ℕ → Option RefusedRows
counted count first = option_map (λ row. record { count = count; first = row }) first

-- another answer changes nothing
pub refused_rows-same : (reason : Refusal) (answers : List (Result ℕ Refusal)) (answered : Result ℕ Refusal) → is_refusal reason answered ≡ false
    → refused_rows reason (answers ++ answered ∷ []) ≡ refused_rows reason answers
unfolding refused_rows
refused_rows-same reason answers answered other =
    ap (λ (n : ℕ). counted n (position_from (is_refusal reason) FIRST_ROW (answers ++ answered ∷ []))) (count_by-fails (is_refusal reason) answers answered other)
    ∙ ap (counted (count_by (is_refusal reason) answers)) (position_from-fails (is_refusal reason) FIRST_ROW answers answered other)

-- one refusal more for this reason
pub refused_rows-more : (reason : Refusal) (answers : List (Result ℕ Refusal)) (answered : Result ℕ Refusal) → is_refusal reason answered ≡ true
    → refused_rows reason (answers ++ answered ∷ []) ≡ Some (one_more (refused_rows reason answers) (length answers + FIRST_ROW))
unfolding refused_rows
refused_rows-more reason answers answered same = cases (position_from p FIRST_ROW answers) refl
  where
    p : Result ℕ Refusal → Bool
    p = is_refusal reason

    cases : (o : Option ℕ) → position_from p FIRST_ROW answers ≡ o
        → counted (count_by p (answers ++ answered ∷ [])) (position_from p FIRST_ROW (answers ++ answered ∷ []))
        ≡ Some (one_more (counted (count_by p answers) o) (length answers + FIRST_ROW))
    cases None none =
        ap (counted (count_by p (answers ++ answered ∷ []))) (position_from-new p FIRST_ROW answers answered none same)
        ∙ ap (λ (n : ℕ). counted n (Some (FIRST_ROW + length answers))) (count_by-passes p answers answered same ∙ ap (λ (n : ℕ). n + 1) (count_by-none p FIRST_ROW answers none))
        ∙ ap (λ (n : ℕ). counted 1 (Some n)) (omega arith)
    cases (Some k) found =
        ap (counted (count_by p (answers ++ answered ∷ []))) (position_from-found p FIRST_ROW k answers answered found)
        ∙ ap (λ (n : ℕ). counted n (Some k)) (count_by-passes p answers answered same)

-- the rows that are counted are among all
refused_rows-few : (reason : Refusal) (answers : List (Result ℕ Refusal)) → IfSome (refused_rows reason answers) (λ refused. refused.count ≤ length answers)
unfolding refused_rows
refused_rows-few reason answers = cases (position_from (is_refusal reason) FIRST_ROW answers)
  where
    cases : (o : Option ℕ) → IfSome (counted (count_by (is_refusal reason) answers) o) (λ refused. refused.count ≤ length answers)
    cases None = tt
    cases (Some k) = count_by-le-length (is_refusal reason) answers

-- what holds of a value holds of less
if_some-weaker : {A : Type 0} (P Q : A → Type 0) (o : Option A) → ((a : A) → P a → Q a) → IfSome o P → IfSome o Q
if_some-weaker P Q None f h = tt
if_some-weaker P Q (Some a) f h = f a h

-- ## Refusals

-- nothing is refused of no answers
pub AreReasons-none : (refusals : Refusals) → refusals.reasons ≡ replicate 13 None → AreReasons [] refusals
unfolding refused_rows
AreReasons-none refusals none reason =
    ap (λ (l : List (Option RefusedRows)). slice_index_or l (refusal_position reason) None) none
    ∙ get_or-replicate 13 (refusal_position reason) None None (position_range reason)

-- an answer that is a tape number is no refusal
pub AreReasons-admitted : (refusals : Refusals) (answers : List (Result ℕ Refusal)) (number : ℕ) → AreReasons answers refusals
    → AreReasons (answers ++ Ok number ∷ []) refusals
AreReasons-admitted refusals answers number had reason = had reason ∙ sym (refused_rows-same reason answers (Ok number) refl)

-- a refusal more is counted for its reason
pub AreReasons-refused : (old new : Refusals) (refused : Refusal) (place row : ℕ) (more : RefusedRows) (answers : List (Result ℕ Refusal))
    → length old.reasons ≡ 13 → place ≡ refusal_position refused → new.reasons ≡ slice_set old.reasons place (Some more)
    → (IfSome (slice_index_or old.reasons place None) (λ refused. refused.count + 1 < 2 ^ 64)
    → more ≡ one_more (slice_index_or old.reasons place None) row)
    → row < 2 ^ 64 → row ≡ length answers + FIRST_ROW → AreReasons answers old → AreReasons (answers ++ Err refused ∷ []) new
AreReasons-refused old new refused place row more answers size at set is fits counted had reason =
    elim (cases_Bool (refusal_code refused == refusal_code reason)) [
      | inl same ↦
          let same_code : refusal_code refused ≡ refusal_code reason = grind (arith, same) in
          let here : refusal_position reason ≡ place = same_position refused reason same_code ∙ sym at in
          let had_here : slice_index_or old.reasons place None ≡ refused_rows reason answers =
          ap (λ (n : ℕ). slice_index_or old.reasons n None) (sym here) ∙ had reason in
          let few : IfSome (slice_index_or old.reasons place None) (λ refused. refused.count + 1 < 2 ^ 64) =
          subst (λ (o : Option RefusedRows). IfSome o (λ refused. refused.count + 1 < 2 ^ 64)) (sym had_here)
          (if_some-weaker (λ refused. refused.count ≤ length answers) (λ refused. refused.count + 1 < 2 ^ 64) (refused_rows reason answers)
          (λ refused le. omega (arith, le, fits, counted)) (refused_rows-few reason answers)) in
          ap (λ (l : List (Option RefusedRows)). slice_index_or l (refusal_position reason) None) set
          ∙ ap (λ (n : ℕ). slice_index_or (slice_set old.reasons place (Some more)) n None) here
          ∙ get_or-set_same old.reasons place (Some more) None (omega (arith, size, at, position_range refused))
          ∙ ap (λ (r : RefusedRows). Some r) (is few ∙ ap (λ (o : Option RefusedRows). one_more o row) had_here
          ∙ ap (one_more (refused_rows reason answers)) counted)
          ∙ sym (refused_rows-more reason answers (Err refused) same)
      | inr other ↦
          let apart : refusal_position reason ≢ place = λ e. cc (eq-eqb (refusal_code refused) (refusal_code reason) (same_number refused reason (e ∙ at)), other) in
          ap (λ (l : List (Option RefusedRows)). slice_index_or l (refusal_position reason) None) set
          ∙ get_or-set_other old.reasons place (refusal_position reason) (Some more) None apart
          ∙ had reason ∙ sym (refused_rows-same reason answers (Err refused) other)
    ]

-- they are those of the same answers if nothing else changes
pub AreReasons-kept : (old new : Refusals) (answers : List (Result ℕ Refusal)) → new.reasons ≡ old.reasons → AreReasons answers old
    → AreReasons answers new
AreReasons-kept old new answers same had reason = ap (λ (l : List (Option RefusedRows)). slice_index_or l (refusal_position reason) None) same ∙ had reason

-- one answer more is one row more
pub rows-more : (old new row : ℕ) (answers : List (Result ℕ Refusal)) (answered : Result ℕ Refusal) → (old + 1 < 2 ^ 64 → new ≡ old + 1)
    → row < 2 ^ 64 → row ≡ length answers + FIRST_ROW → old ≡ length answers → new ≡ length (answers ++ answered ∷ [])
rows-more old new row answers answered more fits at had =
    omega (arith, more (omega (arith, fits, at, had)), had, length-append answers (answered ∷ []))

-- ## All refusals

-- whether a reason has no row
abbrev has_none : Refusals → Refusal → Bool
has_none refusals reason = is_none (refused_for refusals reason)

-- if none of all reasons has a row, no refusal has
pub RefusesNone-all : (refusals : Refusals) → list_all (has_none refusals) all_refusals ≡ true → RefusesNone refusals
RefusesNone-all refusals all reason = cases (refused_for refusals reason) refl
  where
    cases : (o : Option RefusedRows) → refused_for refusals reason ≡ o → o ≡ None
    cases None is = refl
    cases (Some refused) is =
        let at : slice_index_or all_refusals (refusal_position reason) reason ≡ reason =
        get_or_from_slice_get all_refusals (refusal_position reason) reason reason (position_known reason) in
        let fails : has_none refusals (slice_index_or all_refusals (refusal_position reason) reason) ≡ false =
        ap (has_none refusals) at ∙ ap (λ (o : Option RefusedRows). is_none o) is in
        absurd (cc (all, list_all_at (has_none refusals) all_refusals (refusal_position reason) reason (position_range reason) fails))

-- if no refusal has a row, none of all reasons has
pub all-RefusesNone : (refusals : Refusals) → RefusesNone refusals → list_all (has_none refusals) all_refusals ≡ true
all-RefusesNone refusals none = each all_refusals
  where
    each : (reasons : List Refusal) → list_all (has_none refusals) reasons ≡ true
    each [] = refl
    each (reason ∷ reasons) = rw (none reason) (each reasons)
