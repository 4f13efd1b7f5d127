-- The lines of a file, split at its first line feed.
use Rattle.std.proofs.Common.{◌≡◌, ◌<◌, ◌≤◌, ◌+◌, ◌-◌, ◌==◌, ◌∷◌, [], ℕ, List, false, true, Some, None, refl, arith, length, take, drop, nat_lt, All, inl, inr}
use Rattle.std.proofs.lemmas.Bool.{cases_Bool, eqb-true}
use Rattle.std.proofs.lemmas.List.{nil_from_length}
use Rattle.std.proofs.lemmas.Grind.{common_steps}
use Rattle.std.proofs.lemmas.Bool.Decides.{nat_tests}
use Rattle.std.proofs.lemmas.List.Splits.{length-slice_split, slice_split_first, slice_split_none}
use Rattle.std.proofs.lemmas.List.Sums.{fails_before_first}
use Rattle.std.specs.Prelude.{position}
use Rattle.std.specs.List.{position_or_len, slice_split}
use Rattle.day_terms.specs.Lines.{file_lines, is_line_feed, lines_of_parts}

-- a first part that others follow is a line
parts-more : (part : List ℕ) (parts : List (List ℕ)) → 0 < length parts → lines_of_parts (part ∷ parts) ≡ part ∷ lines_of_parts parts
parts-more part [] some = absurd (omega (arith, some))
parts-more part (next ∷ parts) some = refl

-- the first line feed is within the text
pub line_within : (text : List ℕ) (end : ℕ) → Some end ≡ position is_line_feed text → end < length text
line_within text end found = elim (cases_Bool (nat_lt (position_or_len is_line_feed text) (length text))) [
  | inl is ↦
      let here = rw is at found in
      let same : end ≡ position_or_len is_line_feed text = cc here in
      let within : position_or_len is_line_feed text < length text = grind (arith, nat_tests, is) in
      rw same within
  | inr isnt ↦ let none = rw isnt at found in absurd (cc none)
]

-- the line before the first line feed, and those behind it
pub lines-more : (text : List ℕ) (end : ℕ) → Some end ≡ position is_line_feed text → file_lines text ≡ take end text ∷ file_lines (drop (end + 1) text)
unfolding file_lines
lines-more text end found = elim (cases_Bool (nat_lt (position_or_len is_line_feed text) (length text))) [
  | inl is ↦
      let here = rw is at found in
      let same : end ≡ position_or_len is_line_feed text = cc here in
      let within : position_or_len is_line_feed text < length text = grind (arith, nat_tests, is) in
      let behind = drop (end + 1) text in
      let some : 0 < length (slice_split is_line_feed behind) = omega (arith, length-slice_split is_line_feed behind) in
      rw (slice_split_first is_line_feed text 0 within, ← same) (parts-more (take end text) (slice_split is_line_feed behind) some)
  | inr isnt ↦ let none = rw isnt at found in absurd (cc none)
]

-- an empty text has no line
pub lines-none : (text : List ℕ) → (length text == 0) ≡ true → file_lines text ≡ []
unfolding file_lines
lines-none text none = rw (nil_from_length text (eqb-true _ _ none)) refl

-- the text behind a line is a slice up to the last byte
pub rest-slice : (text : List ℕ) (end : ℕ) → take (length text - (end + 1)) (drop (end + 1) text) ≡ drop (end + 1) text
rest-slice text end = grind (arith, common_steps)

-- a text without a line feed is a line, unless it is empty
pub lines-last : (text : List ℕ) → None ≡ position is_line_feed text → (length text == 0) ≡ false → file_lines text ≡ text ∷ file_lines []
unfolding file_lines
lines-last text none some = elim (cases_Bool (nat_lt (position_or_len is_line_feed text) (length text))) [
  | inl is ↦ let some = rw is at none in absurd (cc some)
  | inr isnt ↦
      let over : length text ≤ position_or_len is_line_feed text = grind (arith, nat_tests, isnt) in
      let fails : All (λ byte. is_line_feed byte ≡ false) text = λ k d lt. fails_before_first is_line_feed text k d (omega (arith, over, lt)) in
      rw (slice_split_none is_line_feed text fails, some) refl
]
