-- The participants' own stores in a row by letter, with one of them changed.
use Rattle.std.proofs.Common.{◌≡◌, ℕ, ◌+◌, ◌<◌, ◌≤◌, ◌≢◌, nat_le, Bool, true, false, true≢false, cond, List, [], ◌∷◌, length, get_or, set, map, Option}
use Rattle.std.proofs.Common.{None, refl, sym, ap, subst, ◌∙◌, arith, IsSome, zero, suc}
use Rattle.std.specs.Ordering.{nat_cmp, eq_by_cmp}
use Rattle.std.specs.FinMap as map
use Rattle.std.proofs.lemmas.Bool.{leb-true}
use Rattle.std.proofs.lemmas.Bool.Decides.{nat_tests}
use Rattle.std.proofs.lemmas.List.{get_or-set_same, get_or-set_other, get_or-map, get_or_past, map-set, length-map}
use Rattle.std.proofs.lemmas.List.Elements.{All-set}
use Rattle.tape_types.specs.Lemmas.NumberMaps.{same_key, key_itself}
use Rattle.scratch_fold.specs.declared.summary.Effect.{Effect}
use Rattle.summaries.specs.Effects.{Effects, Change}
use Rattle.symbol_book.specs.Stores.{participant_effects, AllSettled, OwnBecomes}
use Rattle.tape_types.specs.Ranges.{FIRST_PARTICIPANT, row_index}

-- a letter from its index in the row
key_of : (w i who : ℕ) → i + FIRST_PARTICIPANT ≡ who → nat_le FIRST_PARTICIPANT w ≡ true → row_index w ≡ i → w ≡ who
key_of w i who at letter same = let above : FIRST_PARTICIPANT ≤ w = leb-true FIRST_PARTICIPANT w letter in omega arith

-- an index that has an effect is before the end
get_or-inside : (effects : List Effects) (i place : ℕ) → IsSome (map.get (get_or effects i map.empty) place) → i < length effects
get_or-inside [] i place there = let none : IsSome {T = Effect} None = subst (λ (o : Option Effect). IsSome o) (map.get-empty nat_cmp place) there in
    absurd (cc)
get_or-inside (e ∷ effects) zero place there = omega arith
get_or-inside (e ∷ effects) (suc i) place there = let rest : i < length effects = get_or-inside effects i place there in omega (arith, rest)

module _ {S : Type 0} (effects_in : S → Effects) where
  -- what a participant's store holds, by its index in the row
  pub participant_effects-at : (stores : List S) (i who : ℕ) → i + FIRST_PARTICIPANT ≡ who
      → participant_effects effects_in stores who ≡ get_or (map effects_in stores) i map.empty
  participant_effects-at stores i who at =
      let letter : nat_le FIRST_PARTICIPANT who ≡ true = grind (arith, nat_tests) in
      let index : row_index who ≡ i = omega arith in
      ap (λ (b : Bool). cond b (get_or (map effects_in stores) (row_index who) map.empty) map.empty) letter
      ∙ ap (λ k. get_or (map effects_in stores) k map.empty) index

  -- nothing is held beyond the row
  pub participant_effects-past : (stores : List S) (i who : ℕ) → i + FIRST_PARTICIPANT ≡ who → length stores ≤ i
      → participant_effects effects_in stores who ≡ map.empty
  participant_effects-past stores i who at past = participant_effects-at stores i who at
      ∙ get_or_past (map effects_in stores) i map.empty (subst (λ n. n ≤ i) (sym (length-map stores effects_in)) past)

  -- an empty row holds nothing
  pub participant_effects-none : (stores : List S) (who : ℕ) → stores ≡ [] → participant_effects effects_in stores who ≡ map.empty
  participant_effects-none stores who empty = ap (λ (s : List S). participant_effects effects_in s who) empty
      ∙ elim (nat_le FIRST_PARTICIPANT who) as (λ b. cond b (get_or {A = Effects} [] (row_index who) map.empty) map.empty ≡ map.empty)
      [ true ↦ refl | false ↦ refl ]

  -- what the stores hold after a write at one index
  pub participant_effects-set : (stores : List S) (i who : ℕ) (s : S) → i + FIRST_PARTICIPANT ≡ who → i < length stores
      → (w : ℕ) → participant_effects effects_in (set stores i s) w ≡ cond (eq_by_cmp nat_cmp w who) (effects_in s) (participant_effects effects_in stores w)
  participant_effects-set stores i who s at inside w =
      elim (eq_by_cmp nat_cmp w who) as (λ b. eq_by_cmp nat_cmp w who ≡ b
      → participant_effects effects_in (set stores i s) w ≡ cond b (effects_in s) (participant_effects effects_in stores w)) [
        | true ↦ λ e. let within : i < length (map effects_in stores) = subst (λ n. i < n) (sym (length-map stores effects_in)) inside in
            ap (participant_effects effects_in (set stores i s)) (same_key w who e) ∙ participant_effects-at (set stores i s) i who at
            ∙ ap (λ (es : List Effects). get_or es i map.empty) (map-set effects_in stores i s)
            ∙ get_or-set_same (map effects_in stores) i (effects_in s) map.empty within
        | false ↦ λ e. ap (λ (es : List Effects). cond (nat_le FIRST_PARTICIPANT w) (get_or es (row_index w) map.empty) map.empty)
            (map-set effects_in stores i s)
            ∙ elim (nat_le FIRST_PARTICIPANT w) as (λ b. nat_le FIRST_PARTICIPANT w ≡ b
            → cond b (get_or (set (map effects_in stores) i (effects_in s)) (row_index w) map.empty) map.empty ≡ cond b
            (get_or (map effects_in stores) (row_index w) map.empty) map.empty) [
              | true ↦ λ l. let other : row_index w ≢ i = λ same. true≢false
                  (sym (ap (λ x. eq_by_cmp nat_cmp x who) (key_of w i who at l same) ∙ key_itself who)
                  ∙ e) in
                  get_or-set_other (map effects_in stores) i (row_index w) (effects_in s) map.empty other
              | false ↦ λ _. refl
            ] refl
      ] refl

  -- the index of a participant with an effect is in the row
  pub index-there : (stores : List S) (i who place : ℕ) → i + FIRST_PARTICIPANT ≡ who
      → IsSome (map.get (participant_effects effects_in stores who) place) → i < length stores
  index-there stores i who place at there = subst (λ n. i < n) (length-map stores effects_in)
      (get_or-inside (map effects_in stores) i place (subst (λ (e : Effects). IsSome (map.get e place)) (participant_effects-at stores i who at) there))

  -- what a participant's store holds, as it is read at its index
  pub participant_effects-read : (stores : List S) (i who : ℕ) (s : S) → i + FIRST_PARTICIPANT ≡ who → i < length stores → s ≡ get_or stores i s
      → participant_effects effects_in stores who ≡ effects_in s
  participant_effects-read stores i who s at inside read = participant_effects-at stores i who at ∙ get_or-map effects_in stores i s map.empty inside
      ∙ ap effects_in (sym read)

module _ {S : Type 0} (effects_in : S → Effects) (change_in : S → Change) where
  -- the store of `who` was written at its index
  pub OwnBecomes-set : (old : List S) (i who : ℕ) (s : S) (effects : Effects) → i + FIRST_PARTICIPANT ≡ who → i < length old
      → AllSettled change_in old → change_in s ≡ None → effects_in s ≡ effects → OwnBecomes effects_in change_in old (set old i s) who effects
  OwnBecomes-set old i who s effects at inside settled here is = record {
    held_now = λ w. participant_effects-set effects_in old i who s at inside w
        ∙ ap (λ (e : Effects). cond (eq_by_cmp nat_cmp w who) e (participant_effects effects_in old w)) is;
    settled = All-set (λ x. change_in x ≡ None) old i s here settled;
  }

  -- a row that holds the same may replace the one before
  pub OwnBecomes-from : (old mid new : List S) (who : ℕ) (effects : Effects)
      → ((w : ℕ) → participant_effects effects_in mid w ≡ participant_effects effects_in old w)
      → OwnBecomes effects_in change_in mid new who effects → OwnBecomes effects_in change_in old new who effects
  OwnBecomes-from old mid new who effects same h = record {
    held_now = λ w. h.held_now w ∙ ap (λ (e : Effects). cond (eq_by_cmp nat_cmp w who) effects e) (same w);
    settled = h.settled;
  }

  -- what the changed store holds
  pub OwnBecomes-here : (old new : List S) (who : ℕ) (effects : Effects) → OwnBecomes effects_in change_in old new who effects
      → participant_effects effects_in new who ≡ effects
  OwnBecomes-here old new who effects h = h.held_now who ∙ ap (λ (b : Bool). cond b effects (participant_effects effects_in old who)) (key_itself who)

  -- one write after another
  pub OwnBecomes-then : (old mid new : List S) (who : ℕ) (a b : Effects) → OwnBecomes effects_in change_in old mid who a
      → OwnBecomes effects_in change_in mid new who b → OwnBecomes effects_in change_in old new who b
  OwnBecomes-then old mid new who a b h k = record {
    held_now = λ w. k.held_now w ∙ ap (λ (e : Effects). cond (eq_by_cmp nat_cmp w who) b e) (h.held_now w)
        ∙ elim (eq_by_cmp nat_cmp w who) as
        (λ t. cond t b (cond t a (participant_effects effects_in old w)) ≡ cond t b (participant_effects effects_in old w)) [ true ↦ refl | false ↦ refl ];
    settled = k.settled;
  }
