-- Where a name stands first in a header row.
use Rattle.std.proofs.Common.{◌≡◌, ◌≢◌, ◌<◌, ◌+◌, ◌∷◌, ◌∙◌, [], ℕ, zero, suc, Bool, List, Option, Some, None, true, false, cond, refl, sym, ap, arith}
use Rattle.std.specs.List.{position_from}
use Rattle.std.specs.Str.{bytes_eq}
use Rattle.std.proofs.lemmas.Bool.{true≢false}
use Rattle.std.proofs.lemmas.Option.{same_Some}
use Rattle.std.proofs.lemmas.Slice.Eq.{bytes_eq-Decides}
use Rattle.csv.specs.Records.{field_at}
use Rattle.csv_messages.specs.Columns.{place_of}
use Rattle.csv_messages.specs.Laws.{IsFirstPlace, StandsFirst}

-- the first place of a name among the names from this place on
abbrev from : List ℕ → ℕ → List (List ℕ) → Option ℕ
from name start names = position_from (λ other. bytes_eq other name) start names

-- a name stands so many places behind the start, and at none before
abbrev IsAt : List (List ℕ) → List ℕ → ℕ → ℕ → Type 0
IsAt names name start place = (behind : ℕ) × (place ≡ start + behind) × StandsFirst names name behind

-- a place that was found is the first
found : (name : List ℕ) (names : List (List ℕ)) (start place : ℕ) → from name start names ≡ Some place → IsAt names name start place
unfolding field_at
found name [] start place is = cc
found name (other ∷ names) start place is = by (bytes_eq other name) refl (found name names (start + 1) place) is
  where
    on : (rest : IsAt names name (start + 1) place) → bytes_eq other name ≡ false → IsAt (other ∷ names) name start place
    on (behind, at, stands) differs = (
      suc behind,
      omega (arith, at),
      record {
        here = stands.here;
        first = λ (before : ℕ) less there. (elim before as (λ k. k < suc behind → field_at (other ∷ names) k ≡ Some name → ⊥) [
          | zero ↦ λ _ same. true≢false (sym ((bytes_eq-Decides other name).1 (same_Some other name same)) ∙ differs)
          | suc k ↦ λ less same. stands.first k (omega (arith, less)) same
        ]) less there;
      },
    )

    by : (b : Bool) → bytes_eq other name ≡ b → (from name (start + 1) names ≡ Some place → IsAt names name (start + 1) place)
        → cond b (Some start) (from name (start + 1) names) ≡ Some place → IsAt (other ∷ names) name start place
    by true same further is = (
      0,
      omega (arith, same_Some start place is),
      record { here = ap Some ((bytes_eq-Decides other name).0 same); first = λ before less there. absurd (omega (arith, less)) },
    )
    by false differs further is = on (further is) differs

-- the first place is found
finds : (name : List ℕ) (names : List (List ℕ)) (start behind : ℕ) → StandsFirst names name behind → from name start names ≡ Some (start + behind)
unfolding field_at
finds name [] start behind stands = cc
finds name (other ∷ names) start zero stands =
    rw ((bytes_eq-Decides other name).1 (same_Some other name stands.here)) (ap Some (omega arith))
finds name (other ∷ names) start (suc behind) stands = by (bytes_eq other name) refl (finds name names (start + 1) behind)
  where
    by : (b : Bool) → bytes_eq other name ≡ b → (StandsFirst names name behind → from name (start + 1) names ≡ Some (start + 1 + behind))
        → cond b (Some start) (from name (start + 1) names) ≡ Some (start + suc behind)
    by true same further = absurd (stands.first 0 (omega arith) (ap Some ((bytes_eq-Decides other name).0 same)))
    by false differs further =
        further (record { here = stands.here; first = λ before less there. stands.first (suc before) (omega (arith, less)) there })
        ∙ ap Some (omega arith)

-- a name that is not found stands nowhere
nowhere : (name : List ℕ) (names : List (List ℕ)) (start : ℕ) → from name start names ≡ None → (place : ℕ) → field_at names place ≢ Some name
unfolding field_at
nowhere name [] start is place there = cc
nowhere name (other ∷ names) start is place there = by (bytes_eq other name) refl (nowhere name names (start + 1)) is
  where
    by : (b : Bool) → bytes_eq other name ≡ b → (from name (start + 1) names ≡ None → (place : ℕ) → field_at names place ≢ Some name)
        → cond b (Some start) (from name (start + 1) names) ≡ None → ⊥
    by true same further is = cc
    by false differs further is = (elim place as (λ k. field_at (other ∷ names) k ≡ Some name → ⊥) [
      | zero ↦ λ same. true≢false (sym ((bytes_eq-Decides other name).1 (same_Some other name same)) ∙ differs)
      | suc k ↦ λ same. further is k same
    ]) there

-- and one that stands nowhere is not found
none_found : (name : List ℕ) (names : List (List ℕ)) (start : ℕ) → ((place : ℕ) → field_at names place ≢ Some name) → from name start names ≡ None
none_found name names start absent = by (from name start names) refl
  where
    by : (o : Option ℕ) → from name start names ≡ o → o ≡ None
    by None is = refl
    by (Some place) is = let (behind, at, stands) = found name names start place is in absurd (absent behind stands.here)

pub first_place : IsFirstPlace
unfolding place_of
first_place = record {
  first = λ names name place. (
    (λ is. let (behind, at, stands) = found name names 0 place is in
        let same : behind ≡ place = omega (arith, at) in rw same at stands),
    (λ stands. finds name names 0 place stands ∙ ap Some (omega arith)),
  );
  none = λ names name. (nowhere name names 0, none_found name names 0);
}
