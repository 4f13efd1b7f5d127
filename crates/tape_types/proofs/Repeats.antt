-- Lemmas that find out whether a list repeats an element by going through it one element after another.
use Rattle.std.proofs.Common.{◌≡◌, ℕ, ◌+◌, ◌<◌, Bool, true, false, ◌||◌, List, [], ◌∷◌, ◌++◌, length, take, drop, get_or, cond, not, refl, sym, ap, ◌∙◌}
use Rattle.std.proofs.Common.{true≢false, inl, inr}
use Rattle.std.specs.List.{list_any}
use Rattle.std.proofs.lemmas.List.Folds.{list_any-append}
use Rattle.std.proofs.lemmas.List.{take_more, take-append-drop}
use Rattle.std.proofs.lemmas.Bool.{cases_Bool, or_parts, or_from}
use Rattle.indexmap.specs.IndexSet.{insert_key}
use Rattle.tape_types.specs.Names.{has_repeat}

-- a disjunction of four does not depend on how they are paired
or_four : (a b c d : Bool) → ((a || (b || false)) || (c || d)) ≡ ((a || c) || (b || d))
or_four true b c d = refl
or_four false true true d = refl
or_four false true false d = refl
or_four false false true d = refl
or_four false false false d = refl

-- a test that is another's negation
pub of_not : (b c : Bool) {r : Bool} → b ≡ not c → b ≡ r → c ≡ not r
of_not b true {r = true} is at = sym at ∙ is
of_not b true {r = false} is at = refl
of_not b false {r = true} is at = refl
of_not b false {r = false} is at = sym (sym is ∙ at)

module _ {A : Type 0} (eq : A → A → Bool) where
  -- one more element repeats one before it, or does not
  pub has_repeat-push : (xs : List A) (y : A) → has_repeat eq (xs ++ y ∷ []) ≡ (has_repeat eq xs || list_any (eq y) xs)
  has_repeat-push [] y = refl
  has_repeat-push (x ∷ xs) y =
      let front : list_any (λ z. eq z x) (xs ++ y ∷ []) ≡ (list_any (λ z. eq z x) xs || (eq y x || false)) = list_any-append (λ z. eq z x) xs (y ∷ []) in
      ap (λ b. b || has_repeat eq (xs ++ y ∷ [])) front
      ∙ ap (λ b. (list_any (λ z. eq z x) xs || (eq y x || false)) || b) (has_repeat-push xs y)
      ∙ or_four (list_any (λ z. eq z x) xs) (eq y x) (has_repeat eq xs) (list_any (eq y) xs)

  -- a list repeats what its prefix repeats
  pub has_repeat-front : (xs ys : List A) → has_repeat eq (xs ++ ys) ≡ false → has_repeat eq xs ≡ false
  has_repeat-front [] ys h = refl
  has_repeat-front (x ∷ xs) ys h =
      let split = or_parts (list_any (λ z. eq z x) (xs ++ ys)) (has_repeat eq (xs ++ ys)) h in
      or_from (list_any (λ z. eq z x) xs) (has_repeat eq xs)
      (or_parts (list_any (λ z. eq z x) xs) (list_any (λ z. eq z x) ys) (sym (list_any-append (λ z. eq z x) xs ys) ∙ split.0)).0
      (has_repeat-front xs ys split.1)

  -- the first `i` names and the next one are the first `i + 1` names
  next_names : (names : List A) (i : ℕ) (x : A) → i < length names → x ≡ get_or names i x → take (i + 1) names ≡ take i names ++ x ∷ []
  next_names names i x inside at = take_more names i x inside ∙ ap (λ y. take i names ++ y ∷ []) (sym at)

  -- if a name stands among those before it, the whole list repeats a name
  pub has_repeat-found : (names : List A) (i : ℕ) (x : A) → i < length names → x ≡ get_or names i x
      → list_any (eq x) (take i names) ≡ true → has_repeat eq names ≡ true
  has_repeat-found names i x inside at found = elim (cases_Bool (has_repeat eq names)) [
    | inl repeats ↦ repeats
    | inr none ↦ absurd (true≢false (sym found ∙ (or_parts (has_repeat eq (take i names)) (list_any (eq x) (take i names))
        (sym (has_repeat-push (take i names) x) ∙ ap (has_repeat eq) (sym (next_names names i x inside at))
        ∙ has_repeat-front (take (i + 1) names) (drop (i + 1) names) (ap (has_repeat eq) (take-append-drop (i + 1) names) ∙ none))).1))
  ]

  -- a name that is new goes last, and no name stands twice
  pub insert_key-next : (names keys : List A) (i : ℕ) (x : A) → i < length names → x ≡ get_or names i x
      → keys ≡ take i names → has_repeat eq (take i names) ≡ false → list_any (eq x) keys ≡ false
      → (insert_key eq keys x ≡ take (i + 1) names) × (has_repeat eq (take (i + 1) names) ≡ false)
  insert_key-next names keys i x inside at so_far none new = (
    ap (λ b. cond b keys (keys ++ x ∷ [])) new ∙ ap (λ (ks : List A). ks ++ x ∷ []) so_far ∙ sym (next_names names i x inside at),
    ap (has_repeat eq) (next_names names i x inside at) ∙ has_repeat-push (take i names) x
        ∙ or_from (has_repeat eq (take i names)) (list_any (eq x) (take i names)) none (ap (list_any (eq x)) (sym so_far) ∙ new),
  )
