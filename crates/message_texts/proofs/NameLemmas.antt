-- Shows what a line of names becomes with one more name.
use Rattle.std.proofs.Common.{◌≡◌, ◌<◌, ◌+◌, ◌==◌, ◌∷◌, ◌++◌, ◌∙◌, [], ℕ, suc, List, Bool, false, if◌then◌else◌, ap, append_assoc, arith, get_or, length, length-take-le, map, refl, sym, take}
use Rattle.std.proofs.lemmas.Bool.{ne_eqb}
use Rattle.std.proofs.lemmas.List.{length-map, map_more}
use Rattle.std.specs.List.{join_with_byte}

-- one more name after others
join-more : (c : ℕ) (names : List (List ℕ)) (name : List ℕ)
    → join_with_byte c (names ++ name ∷ []) ≡ join_with_byte c names ++ (if length names == 0 then name else c ∷ name)
join-more c [] name = refl
join-more c (first ∷ []) name = refl
join-more c (first ∷ next ∷ names) name =
    let here : (suc (suc (length names)) == 0) ≡ false = ne_eqb _ 0 (omega arith) in
    let there : (suc (length names) == 0) ≡ false = ne_eqb _ 0 (omega arith) in
    let rest = rw there at (join-more c (next ∷ names) name) in
    rw here (ap (λ (l : List ℕ). first ++ c ∷ l) rest ∙ sym (append_assoc first (c ∷ join_with_byte c (next ∷ names)) (c ∷ name)))

-- the names so far are written, and then one more
module _ {A : Type 0} (name : A → List ℕ) where
  pub names_written : (all : List A) (i : ℕ) (one : A) (old now new : List ℕ) (first : Bool) → i < length all → get_or all i one ≡ one
      → first ≡ (i == 0) → now ≡ old ++ join_with_byte 32 (map name (take i all))
      → new ≡ now ++ (if first then name one else 32 ∷ name one) → new ≡ old ++ join_with_byte 32 (map name (take (i + 1) all))
  names_written all i one old now new first within is start had made =
      let so_far : List (List ℕ) = map name (take i all) in
      let count : length so_far ≡ i = length-map (take i all) name ∙ length-take-le i all (omega arith) in
      let more : map name (take (i + 1) all) ≡ so_far ++ name one ∷ [] =
      map_more name all i one within ∙ ap (λ (n : A). so_far ++ name n ∷ []) is in
      let choice : (if first then name one else 32 ∷ name one) ≡ (if length so_far == 0 then name one else 32 ∷ name one) =
      ap (λ (b : Bool). if b then name one else 32 ∷ name one) (start ∙ ap (λ (n : ℕ). n == 0) (sym count)) in
      made ∙ ap (λ (l : List ℕ). l ++ (if first then name one else 32 ∷ name one)) had
      ∙ append_assoc old (join_with_byte 32 so_far) (if first then name one else 32 ∷ name one)
      ∙ ap (λ (l : List ℕ). old ++ l) (
      ap (λ (l : List ℕ). join_with_byte 32 so_far ++ l) choice ∙ sym (join-more 32 so_far (name one)) ∙ ap (join_with_byte 32) (sym more))
