-- Shows what the first line of a text is, and the lines of whole lines.
use Rattle.std.proofs.Common.{◌≡◌, ◌<◌, ◌+◌, ◌==◌, ◌∷◌, ◌++◌, ◌∙◌, [], ℕ, zero, suc, List, Bool, true, false, Some, None, refl, sym, ap, arith, length}
use Rattle.std.proofs.Common.{drop, take, get_or, add-one, if◌then◌else◌}
use Rattle.std.proofs.lemmas.Bool.{ne_eqb}
use Rattle.std.specs.List.{onto_first, slice_split}
use Rattle.memchr.specs.Find.{IsFirstByte, IsLastByte, is_byte}
use Rattle.tape_types.specs.Lemmas.Parts.{first_part, one_part, some_part}
use Rattle.batch.specs.Lines.{ends_a_line, lines_of, without_empty_last}

-- a part with others after it stays
without_empty_last-cons : (part : List ℕ) (parts : List (List ℕ)) → 0 < length parts → without_empty_last (part ∷ parts) ≡ part ∷ without_empty_last parts
without_empty_last-cons part [] some = absurd (omega arith)
without_empty_last-cons part (next ∷ parts) some = refl

-- the first line ends at the first line feed
pub lines_of-first : (text : List ℕ) (end : ℕ) → IsFirstByte (is_byte 10) text (Some end) → lines_of text ≡ take end text ∷ lines_of (drop (end + 1) text)
lines_of-first text end found =
    ap without_empty_last (first_part (is_byte 10) text end found) ∙ without_empty_last-cons (take end text) _ (some_part (is_byte 10) (drop (end + 1) text))

-- a text without a line feed is one line, unless it is empty
pub lines_of-last : (text : List ℕ) → 0 < length text → IsFirstByte (is_byte 10) text None → lines_of text ≡ text ∷ []
lines_of-last [] some none = absurd (omega arith)
lines_of-last (byte ∷ bytes) some none =
    ap without_empty_last (one_part (is_byte 10) (byte ∷ bytes) none) ∙ rw (ne_eqb (suc (length bytes)) 0 (omega arith)) refl

-- a text without a line feed has a line, unless it is empty
pub lines_of-some : (text : List ℕ) → 0 < length text → IsFirstByte (is_byte 10) text None → 0 < length (lines_of text)
lines_of-some text some none = rw (lines_of-last text some none) (omega arith)

-- a byte in front of a text: a line feed is a line of no bytes, and any other stands in front of the first line
pub lines_of-cons : (byte : ℕ) (bytes : List ℕ) → lines_of (byte ∷ bytes) ≡ (if byte == 10 then [] ∷ lines_of bytes else onto_first byte (lines_of bytes))
lines_of-cons byte bytes = cases (byte == 10) (slice_split (is_byte 10) bytes) (some_part (is_byte 10) bytes)
  where
    cases : (feed : Bool) (parts : List (List ℕ)) → 0 < length parts
        → without_empty_last (if feed then [] ∷ parts else onto_first byte parts)
        ≡ (if feed then [] ∷ without_empty_last parts else onto_first byte (without_empty_last parts))
    cases feed [] some = absurd (omega arith)
    cases true (part ∷ parts) some = refl
    cases false ([] ∷ []) some = refl
    cases false ((next ∷ bytes) ∷ []) some = rw (ne_eqb (suc (length bytes)) 0 (omega arith), ne_eqb (suc (suc (length bytes))) 0 (omega arith)) refl
    cases false (part ∷ next ∷ parts) some = refl

-- ## Whole lines

-- a text up to a line feed is one of whole lines
ends_at-feed : (end : ℕ) (text : List ℕ) → end < length text → (get_or text end 0 == 10) ≡ true → ends_a_line (take (suc end) text) ≡ true
ends_at-feed end [] lt here = absurd (omega arith)
ends_at-feed zero (byte ∷ bytes) lt here = here
ends_at-feed (suc end) (byte ∷ []) lt here = absurd (omega arith)
ends_at-feed (suc end) (byte ∷ next ∷ bytes) lt here = ends_at-feed end (next ∷ bytes) (omega arith) here

-- a text up to its last line feed is one of whole lines
pub ends_a_line-at : (text : List ℕ) (end : ℕ) → IsLastByte (is_byte 10) text (Some end) → ends_a_line (take (end + 1) text) ≡ true
ends_a_line-at text end found = rw add-one (ends_at-feed end text found.0.high found.1)

-- a byte in front of the first of some lines
onto_first-more : (byte : ℕ) (lines more : List (List ℕ)) → 0 < length lines → onto_first byte (lines ++ more) ≡ onto_first byte lines ++ more
onto_first-more byte [] more some = absurd (omega arith)
onto_first-more byte (line ∷ lines) more some = refl

-- a text that is not empty has lines
pub some_line : (byte : ℕ) (bytes : List ℕ) → 0 < length (lines_of (byte ∷ bytes))
some_line byte bytes = rw (lines_of-cons byte bytes) (at (byte == 10) (lines_of bytes))
  where
    at : (ends : Bool) (lines : List (List ℕ)) → 0 < length (if ends then [] ∷ lines else onto_first byte lines)
    at true lines = omega arith
    at false [] = omega arith
    at false (line ∷ lines) = omega arith

-- the lines of whole lines and of what follows them
pub lines_of-whole : (text rest : List ℕ) → ends_a_line text ≡ true → lines_of (text ++ rest) ≡ lines_of text ++ lines_of rest
lines_of-whole [] rest ends = refl
lines_of-whole (byte ∷ []) rest ends = lines_of-cons byte rest ∙ rw ends refl
lines_of-whole (byte ∷ next ∷ bytes) rest ends =
    lines_of-cons byte ((next ∷ bytes) ++ rest)
    ∙ ap (λ (l : List (List ℕ)). if byte == 10 then [] ∷ l else onto_first byte l) (lines_of-whole (next ∷ bytes) rest ends)
    ∙ joined (byte == 10) (lines_of (next ∷ bytes)) (some_line next bytes)
    ∙ ap (λ (l : List (List ℕ)). l ++ lines_of rest) (sym (lines_of-cons byte (next ∷ bytes)))
  where
    joined : (feed : Bool) (lines : List (List ℕ)) → 0 < length lines
        → (if feed then [] ∷ (lines ++ lines_of rest) else onto_first byte (lines ++ lines_of rest))
        ≡ (if feed then [] ∷ lines else onto_first byte lines) ++ lines_of rest
    joined true lines some = refl
    joined false lines some = onto_first-more byte lines (lines_of rest) some
