-- Shows what the front of a frame is, as it is read: its length, its body, and a body that ends too early.
use Rattle.std.proofs.Common.{◌≡◌, ℕ, ◌+◌, ◌<◌, ◌≤◌, ◌⊎◌, List, ◌++◌, Option, length, length-append, length-take-le, take, take-take, take_all, ap, arith}
use Rattle.std.proofs.Common.{subst, sym, inr, ◌∙◌}
use Rattle.std.specs.Int.{w16, from_be_bytes}
use Rattle.std.specs.Io.KnownBytes.{Consumes, IsAtEnd}
use Rattle.std.proofs.KnownBytes.{Consumes-trans}
use Rattle.reports.specs.Reading.{announced_length, LONGEST_BODY}
use Rattle.reports.specs.Lemmas.Messages.{announced_length-append}
use Rattle.participant_lines.specs.Frames.{IsFrame, IsLength, IsPart}

-- bytes that have what they announce begin with a frame
pub front_frame : (bytes : List ℕ) (len : ℕ) → len ≡ announced_length bytes → IsLength len → 2 + len ≤ length bytes
    → IsFrame (take (2 + len) bytes)
unfolding announced_length
front_frame bytes len is within fits =
    let announced : announced_length (take (2 + len) bytes) ≡ len = ap (from_be_bytes w16) (take-take 2 (2 + len) bytes (omega arith)) ∙ sym is in
    record {
      len = subst IsLength (sym announced) within;
      whole = omega (arith, length-take-le (2 + len) bytes fits, announced);
    }

-- the two bytes of a length, as they are in a row
pub head_read : (had left : Option (List ℕ)) (old row : List ℕ) (n : ℕ) → n ≡ 2
    → (piece : List ℕ) × (0 + length piece ≡ n) × (take n row ≡ take 0 old ++ piece) × Consumes had left piece
    → Consumes had left (take 2 row)
head_read had left old row n two read = subst (Consumes had left) (sym (subst (λ (k : ℕ). take k row ≡ read.0) two read.2)) read.3

-- a row announces what its first two bytes do
pub announced-two : (row : List ℕ) → 2 ≤ length row → announced_length (take 2 row) ≡ announced_length row
unfolding announced_length
announced-two row long = ap (from_be_bytes w16) (take_all 2 (take 2 row) (omega (arith, length-take-le 2 row long)))

-- a length that no frame has
pub oversize : (had left : Option (List ℕ)) (row : List ℕ) (len : ℕ) → 2 ≤ length row → len ≡ announced_length row
    → (len ≡ 0) ⊎ (LONGEST_BODY < len)
    → Consumes had left (take 2 row)
    → (head : List ℕ) × Consumes had left head × (length head ≡ 2) × ¬ (IsLength (announced_length head))
oversize had left row len long is bad read = (
  take 2 row,
  read,
  length-take-le 2 row long,
  λ within. grind (arith, bad, is, announced-two row long, within.0, within.1),
)

module _ (had mid left : Option (List ℕ)) (head piece : List ℕ) (len : ℕ) (two : length head ≡ 2) (announced : announced_length head ≡ len)
    (within : IsLength len) (first : Consumes had mid head) (second : Consumes mid left piece) where
  -- a frame announces the length that its head does
  is_len : announced_length (head ++ piece) ≡ len
  is_len = announced_length-append head piece (omega (arith, two)) ∙ announced

  -- a frame is two bytes longer than its body
  size : length (head ++ piece) ≡ 2 + length piece
  size = omega (arith, length-append head piece, two)

  -- a frame whose body ends too early
  pub unfinished : length piece < len → (part : List ℕ) × Consumes had left part × IsPart part
  unfinished short = (
    head ++ piece,
    Consumes-trans had mid left head piece first second,
    inr (subst IsLength (sym is_len) within, omega (arith, size, is_len, short)),
  )

  -- a frame whose body ends too early because the input ends
  pub cut_off : length piece < len → IsAtEnd left
      → (part : List ℕ) × Consumes had left part × (1 ≤ length part) × IsPart part × IsAtEnd left
  unfolding unfinished
  cut_off short end = (
    head ++ piece,
    (unfinished short).1,
    omega (arith, size),
    (unfinished short).2,
    end,
  )

  -- a whole frame
  pub whole_frame : (row : List ℕ) (n : ℕ) → length piece ≡ len → n ≡ 2 + len → take n row ≡ head ++ piece
      → IsFrame (take (2 + len) row) × Consumes had left (take (2 + len) row)
  whole_frame row n full all read =
      let is : take (2 + len) row ≡ head ++ piece = subst (λ (k : ℕ). take k row ≡ head ++ piece) all read in
      subst (λ (l : List ℕ). IsFrame l × Consumes had left l) (sym is) (
        record { len = subst IsLength (sym is_len) within; whole = omega (arith, size, is_len, full) },
        Consumes-trans had mid left head piece first second,
      )
