-- The arguments of bytes, split at the first zero byte.
use Rattle.std.proofs.Common.{◌≡◌, ◌<◌, ◌≤◌, ◌+◌, ◌-◌, ◌∷◌, [], ℕ, List, false, Some, None, refl, arith, length, take, drop, nat_lt, All, inl, inr}
use Rattle.std.proofs.lemmas.Bool.{cases_Bool}
use Rattle.std.proofs.lemmas.Grind.{common_steps}
use Rattle.std.proofs.lemmas.Bool.Decides.{nat_tests}
use Rattle.std.proofs.lemmas.List.Splits.{length-slice_split, slice_split_first, slice_split_none}
use Rattle.std.proofs.lemmas.List.Sums.{fails_before_first}
use Rattle.std.specs.Prelude.{position}
use Rattle.std.specs.List.{position_or_len}
use Rattle.memchr.specs.Find.{is_byte}
use Rattle.tape_types.specs.Header.{pieces_of}
use Rattle.day_terms.specs.Arguments.{but_last, words_of}

-- a first part that others follow is not the last
but_last-more : (part : List ℕ) (parts : List (List ℕ)) → 0 < length parts → but_last (part ∷ parts) ≡ part ∷ but_last parts
but_last-more part [] some = absurd (omega (arith, some))
but_last-more part (next ∷ parts) some = refl

-- the first separator is within the bytes
pub position_within : (separator : ℕ) (bytes : List ℕ) (end : ℕ) → Some end ≡ position (is_byte separator) bytes → end < length bytes
position_within separator bytes end found = elim (cases_Bool (nat_lt (position_or_len (is_byte separator) bytes) (length bytes))) [
  | inl is ↦
      let here = rw is at found in
      let same : end ≡ position_or_len (is_byte separator) bytes = cc here in
      let within : position_or_len (is_byte separator) bytes < length bytes = grind (arith, nat_tests, is) in
      rw same within
  | inr isnt ↦ let none = rw isnt at found in absurd (cc none)
]

-- the piece before the first separator, and those behind it
pub pieces_of-more : (separator : ℕ) (bytes : List ℕ) (end : ℕ) → Some end ≡ position (is_byte separator) bytes
    → pieces_of separator bytes ≡ take end bytes ∷ pieces_of separator (drop (end + 1) bytes)
pieces_of-more separator bytes end found = elim (cases_Bool (nat_lt (position_or_len (is_byte separator) bytes) (length bytes))) [
  | inl is ↦
      let here = rw is at found in
      let same : end ≡ position_or_len (is_byte separator) bytes = cc here in
      let within : position_or_len (is_byte separator) bytes < length bytes = grind (arith, nat_tests, is) in
      rw (same, slice_split_first (is_byte separator) bytes 0 within) refl
  | inr isnt ↦ let none = rw isnt at found in absurd (cc none)
]

-- bytes without a separator are one piece
pub pieces_of-none : (separator : ℕ) (bytes : List ℕ) → None ≡ position (is_byte separator) bytes → pieces_of separator bytes ≡ bytes ∷ []
pieces_of-none separator bytes none = elim (cases_Bool (nat_lt (position_or_len (is_byte separator) bytes) (length bytes))) [
  | inl is ↦ let some = rw is at none in absurd (cc some)
  | inr isnt ↦
      let over : length bytes ≤ position_or_len (is_byte separator) bytes = grind (arith, nat_tests, isnt) in
      let fails : All (λ byte. is_byte separator byte ≡ false) bytes = λ k d lt. fails_before_first (is_byte separator) bytes k d (omega (arith, over, lt)) in
      rw (slice_split_none (is_byte separator) bytes fails) refl
]

-- the argument before the first zero byte, and those behind it
pub words_of-more : (bytes : List ℕ) (end : ℕ) → Some end ≡ position (is_byte 0) bytes → words_of bytes ≡ take end bytes ∷ words_of (drop (end + 1) bytes)
unfolding words_of
words_of-more bytes end found =
    let behind = drop (end + 1) bytes in
    let some : 0 < length (pieces_of 0 behind) = omega (arith, length-slice_split (is_byte 0) behind) in
    rw (pieces_of-more 0 bytes end found) (but_last-more _ (pieces_of 0 behind) some)

-- bytes without a zero byte have no argument
pub words_of-none : (bytes : List ℕ) → None ≡ position (is_byte 0) bytes → words_of bytes ≡ []
unfolding words_of
words_of-none bytes none = rw (pieces_of-none 0 bytes none) refl

-- the bytes behind the end of an argument are a slice up to the last
pub rest-slice : (bytes : List ℕ) (end : ℕ) → take (length bytes - (end + 1)) (drop (end + 1) bytes) ≡ drop (end + 1) bytes
rest-slice bytes end = grind (arith, common_steps)
