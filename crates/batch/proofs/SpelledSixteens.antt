-- Shows that digits spell the bytes of their sixteens.
use Rattle.std.proofs.Common.{◌≡◌, ◌≤◌, ◌+◌, ◌*◌, ◌%◌, ◌++◌, ◌∙◌, ℕ, List, Some, None, refl, sym, ap, arith, length, length-take, take, drop}
use Rattle.std.proofs.Math.Seq.{take-add}
use Rattle.std.proofs.lemmas.List.{take-append-drop}
use Rattle.batch.specs.MessageLine.{hex_bytes}
use Rattle.batch.proofs.HexLemmas.{hex_bytes-append, hex_bytes-both, hex_bytes-front_None}

module _ (digits row rest : List ℕ) (at : ℕ) (rest_is : rest ≡ drop (2 * at) digits) (within : 2 * at ≤ length digits)
    (spelled : hex_bytes (take (2 * at) digits) ≡ Some (take at row))
  where
    -- an even number of them were spelled
    even : length (take (2 * at) digits) % 2 ≡ 0
    even = let front = length-take (2 * at) digits in omega (arith, front)

    -- all are those that were spelled before the rest
    whole : digits ≡ take (2 * at) digits ++ rest
    whole = sym (ap (λ x. take (2 * at) digits ++ x) rest_is ∙ take-append-drop (2 * at) digits)

    -- sixteen digits more
    pub spelled-more : (sixteen bytes : List ℕ) → sixteen ≡ take 16 rest → Some bytes ≡ hex_bytes sixteen
        → hex_bytes (take (2 * (at + 8)) digits) ≡ Some (take at row ++ bytes)
    spelled-more sixteen bytes sixteen_is is =
        let twice : 2 * (at + 8) ≡ 2 * at + 16 = omega arith in
        ap (λ n. hex_bytes (take n digits)) twice
        ∙ ap hex_bytes (take-add (2 * at) 16 digits ∙ ap (λ x. take (2 * at) digits ++ x) (ap (take 16) (sym rest_is) ∙ sym sixteen_is))
        ∙ hex_bytes-both (take (2 * at) digits) sixteen (take at row) bytes even spelled (sym is)

    -- the rest spells nothing
    pub spelled-none : hex_bytes rest ≡ None → hex_bytes digits ≡ None
    spelled-none none = ap hex_bytes whole ∙ hex_bytes-append (take (2 * at) digits) rest even ∙ rw (spelled, none) refl

    -- sixteen digits of the rest spell nothing
    pub spelled-none_sixteen : (sixteen behind : List ℕ) → length sixteen ≡ 16 → rest ≡ sixteen ++ behind → None ≡ hex_bytes sixteen → hex_bytes digits ≡ None
    spelled-none_sixteen sixteen behind long parts none =
        spelled-none (ap hex_bytes parts ∙ hex_bytes-front_None sixteen behind (omega (arith, long)) (sym none))

    -- the rest spells bytes
    pub spelled-whole : (bytes : List ℕ) → hex_bytes rest ≡ Some bytes → hex_bytes digits ≡ Some (take at row ++ bytes)
    spelled-whole bytes is = ap hex_bytes whole ∙ hex_bytes-both (take (2 * at) digits) rest (take at row) bytes even spelled is
