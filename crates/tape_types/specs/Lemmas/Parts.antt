-- The parts of a text that is split at each byte that passes a test.
use Rattle.std.proofs.Common.{◌≡◌, All, ◌<◌, ◌+◌, ◌-◌, ◌∷◌, [], ℕ, zero, suc, List, Bool, true, false, Some, None, refl, arith, length}
use Rattle.std.proofs.Common.{get_or, take, drop, add-one}
use Rattle.std.proofs.lemmas.Grind.{common_steps}
use Rattle.std.proofs.lemmas.List.Splits.{length-slice_split, slice_split_none}
use Rattle.std.specs.List.{slice_split}
use Rattle.memchr.specs.Find.{IsFirstByte}

-- what follows a place in a text is as long as the rest of the text
pub take-behind : (text : List ℕ) (end : ℕ) → take (length text - (end + 1)) (drop (end + 1) text) ≡ drop (end + 1) text
take-behind text end = grind (arith, common_steps)

-- a test that is not true is false
false-from_not : (b : Bool) → ¬ (b ≡ true) → b ≡ false
false-from_not true h = absurd (h refl)
false-from_not false h = refl

module _ (p : ℕ → Bool) where
  -- the first part ends at a byte that passes and has none before it that does
  split_at : (end : ℕ) (text : List ℕ) → end < length text → p (get_or text end 0) ≡ true → ((k : ℕ) → k < end → p (get_or text k 0) ≡ false)
      → slice_split p text ≡ take end text ∷ slice_split p (drop (suc end) text)
  split_at end [] lt here before = absurd (omega arith)
  split_at zero (byte ∷ bytes) lt here before = rw here refl
  split_at (suc end) (byte ∷ bytes) lt here before =
      rw (before 0 (omega arith), split_at end bytes (omega arith) here (λ k h. before (suc k) (omega arith))) refl

  -- the first part ends at the first byte that passes
  pub first_part : (text : List ℕ) (end : ℕ) → IsFirstByte p text (Some end) → slice_split p text ≡ take end text ∷ slice_split p (drop (end + 1) text)
  first_part text end found =
      rw add-one (split_at end text found.0.high found.1 (λ k lt. false-from_not _ (found.0.before k (omega arith) lt)))

  -- a text in which no byte passes is one part
  pub one_part : (text : List ℕ) → IsFirstByte p text None → slice_split p text ≡ text ∷ []
  one_part text none = slice_split_none p text none_passes
    where
      none_passes : All (λ byte. p byte ≡ false) text
      none_passes = λ k d lt.
          let same : get_or text k d ≡ get_or text k 0 = grind (arith, common_steps) in
          rw same (false-from_not _ (none k (omega arith) lt))

  -- a text has a part
  pub some_part : (text : List ℕ) → 0 < length (slice_split p text)
  some_part text = omega (arith, length-slice_split p text)

-- the text after the first part has fewer parts
pub fewer_parts : (parts : List ℕ → List (List ℕ)) (text : List ℕ) (end : ℕ) → parts text ≡ take end text ∷ parts (drop (end + 1) text)
    → length (parts (take (length text - (end + 1)) (drop (end + 1) text))) < length (parts text)
fewer_parts parts text end first = rw (take-behind text end, first) (omega arith)
