-- The first and the last place of rising entries.
use Rattle.std.proofs.Common.{◌≡◌, ℕ, ◌-◌, ◌<◌, true, false, cond, List, [], ◌∷◌, length, get_or, Option, Some}
use Rattle.std.proofs.Common.{None, IsSome, refl, sym, subst, inl, inr, arith}
use Rattle.std.specs.Prelude.{T, MatchOption}
use Rattle.std.specs.Ordering.{nat_cmp, eq_by_cmp}
use Rattle.std.specs.Cmp.{nat_cmp_total}
use Rattle.std.specs.FinMap as map
use Rattle.std.specs.FinMap.Entries.{is_sorted, find}
use Rattle.std.proofs.lemmas.Bool.{cases_lt}
use Rattle.place_index.specs.Places.{IsFirstPlace, IsLastPlace}
use Rattle.place_index.specs.Blocks.{top, values_in}
use Rattle.place_index.proofs.BlockOrder.{Under, under-top}
use Rattle.place_index.proofs.BlockOrder.{find-top, first-entry, top-at}
use Rattle.tape_types.specs.Lemmas.NumberMaps.{same_key}

-- a value that is some is not none
not-none : {A : Type 0} {P : Type 0} (o : Option A) → IsSome o → o ≡ None → P
not-none (Some x) some e = absurd (cc)
not-none None some e = absurd (cc)

module _ {V : Type 0} where
  -- keys below k: none that is found reaches it
  pub under-found : (k : ℕ) (es : List (ℕ × V)) → Under k es → (q : ℕ) → IsSome (find nat_cmp q es) → q < k
  under-found k [] u q some = not-none {A = V} None some refl
  under-found k (e ∷ es) u q some = elim (eq_by_cmp nat_cmp q e.0) as (λ b. eq_by_cmp nat_cmp q e.0 ≡ b → IsSome (cond b (Some e.1) (find nat_cmp q es))
      → q < k) [
        | true ↦ λ same _. subst (λ n. n < k) (sym (same_key q e.0 same)) u.0
        | false ↦ λ _ there. under-found k es u.1 q there
      ] refl some

  -- what is found in the map of entries is found in the list, and the other way round
  pub in-list : (q : ℕ) (es : List (ℕ × V)) → IsSome (map.get (map.from_entries {R = nat_cmp} es) q) → IsSome (find nat_cmp q es)
  in-list q es some = subst IsSome (map.get-from_entries nat_cmp_total es q) some

  -- a key that is found in a list has a value in its map
  in-map : (q : ℕ) (es : List (ℕ × V)) → IsSome (find nat_cmp q es) → IsSome (map.get (map.from_entries {R = nat_cmp} es) q)
  in-map q es some = subst IsSome (sym (map.get-from_entries nat_cmp_total es q)) some

  -- the first entry has the first place, and the last one the last
  pub first-in : (es : List (ℕ × V)) (d : ℕ × V) → T (is_sorted nat_cmp es) → 0 < length es → IsFirstPlace (values_in es) (get_or es 0 d).0
  first-in [] d h some = absurd (omega arith)
  first-in (e ∷ es) d h some = first-entry e es h

  -- the last of some rising entries has the last place
  pub last-in : (es : List (ℕ × V)) (d : ℕ × V) → T (is_sorted nat_cmp es) → 0 < length es → IsLastPlace (values_in es) (get_or es (length es - 1) d).0
  last-in es d h some = subst (IsLastPlace (values_in es)) (sym (top-at es d some)) (record {
    present = in-map (top es) es (find-top es h some);
    greatest = λ q there. elim (cases_lt (top es) q) [
      | inl lt ↦ let less : q < q = under-found q es (under-top q es h lt) q (in-list q es there) in absurd (omega arith)
      | inr ge ↦ ge
    ];
  })

-- an option's two cases, weakened
pub match-weaker : {A : Type 0} (P P2 : Type 0) (Q Q2 : A → Type 0) (o : Option A) → (P → P2) → ((a : A) → Q a → Q2 a) → MatchOption o P Q → MatchOption o P2 Q2
match-weaker P P2 Q Q2 None f g m = f m
match-weaker P P2 Q Q2 (Some a) f g m = g a m
