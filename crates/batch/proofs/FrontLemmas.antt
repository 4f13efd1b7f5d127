-- Shows that a message is read from the first bytes of a line, as many as the longest message has.
use Rattle.std.proofs.Common.{◌≡◌, ◌+◌, ◌*◌, ◌%◌, ◌≤◌, ◌==◌, ◌||◌, ◌∷◌, ◌++◌, ◌∙◌, [], ℕ, List, true, false, Some, None, Err, refl, sym, ap, inl, inr, arith}
use Rattle.std.proofs.Common.{length, take, drop, nat_lt, append-nil, length-append, length-drop, ◌⊎◌}
use Rattle.std.specs.List.{list_all}
use Rattle.std.specs.Prelude.{min}
use Rattle.std.proofs.lemmas.Bool.{cases_Bool, cases_lt, le-ltb}
use Rattle.std.proofs.lemmas.Bool.Decides.{nat_tests}
use Rattle.std.proofs.lemmas.List.{take-append-le}
use lib.Seq.{drop-append-le}
use Rattle.hex.specs.Hex.{is_hex_digit}
use Rattle.reports.specs.Reading.{announced_length, message_at, LONGEST_BODY, LONGEST_FRAME}
use Rattle.reports.specs.Lemmas.Messages.{announced_length-append}
use Rattle.batch.specs.declared.batch_refusal.BatchRefusal.TheVariants.{BadLine}
use Rattle.batch.specs.MessageLine.{from_bytes, hex_bytes, spelled_message}
use Rattle.batch.proofs.HexLemmas.{hex_bytes-front_None, hex_bytes-rest_None, hex_bytes-Some}

-- a body is read from the front
body-front : (front others : List ℕ) (len : ℕ) → length front ≡ LONGEST_FRAME → len ≤ LONGEST_BODY
    → take len (drop 2 (front ++ others)) ≡ take len (drop 2 front)
body-front front others len long fits =
    let behind : drop 2 (front ++ others) ≡ drop 2 front ++ others = drop-append-le 2 front others (omega arith) in
    rw behind (take-append-le len (drop 2 front) others (omega (arith, length-drop 2 front)))

-- what follows the front does not change what is read
message_at-front : (front others : List ℕ) → length front ≡ LONGEST_FRAME → message_at (front ++ others) ≡ message_at front
unfolding message_at
message_at-front front others long =
    let len = announced_length front in
    let total : LONGEST_FRAME ≤ length (front ++ others) = omega (arith, length-append front others) in
    rw (announced_length-append front others (omega (arith, long)), le-ltb (length (front ++ others)) 2 (omega arith), le-ltb (length front) 2 (omega arith))
    (elim (cases_Bool ((len == 0) || nat_lt LONGEST_BODY len)) [
      | inl oversize ↦ rw oversize refl
      | inr fits ↦
          let small : len ≤ LONGEST_BODY = grind (arith, nat_tests, fits) in
          rw (
            fits,
            le-ltb (length (front ++ others)) (2 + len) (omega arith),
            le-ltb (length front) (2 + len) (omega arith),
            body-front front others len long small,
          ) refl
    ])

-- ## What digits spell, by their front and their rest

-- digits whose front spells no bytes are a bad line
pub spelled-front_None : (digits front rest : List ℕ) → digits ≡ front ++ rest → length front % 2 ≡ 0 → None ≡ hex_bytes front
    → Err BadLine ≡ spelled_message (hex_bytes digits)
spelled-front_None digits front rest split even none = rw (split, hex_bytes-front_None front rest even (sym none)) refl

-- digits whose rest are not all hexadecimal are a bad line
pub spelled-rest_None : (digits front rest : List ℕ) → digits ≡ front ++ rest → length front % 2 ≡ 0 → length rest % 2 ≡ 0 → list_all is_hex_digit rest ≡ false
    → Err BadLine ≡ spelled_message (hex_bytes digits)
spelled-rest_None digits front rest split even even_rest no_digit = rw (split, hex_bytes-rest_None front rest even even_rest no_digit) refl

-- if digits are cut after those of the longest message, none are left, or the front's bytes are as many as that message has
pub rest-or_longest : (digits front rest bytes : List ℕ) → digits ≡ front ++ rest → length front ≡ min (length digits) (2 * LONGEST_FRAME)
    → 2 * length bytes ≡ length front → (length rest ≡ 0) ⊎ (length bytes ≡ LONGEST_FRAME)
rest-or_longest digits front rest bytes split cut half =
    let total : length digits ≡ length front + length rest = ap length split ∙ length-append front rest in
    elim (cases_lt (2 * LONGEST_FRAME) (length digits)) [
      | inl long ↦ inr (omega arith)
      | inr short ↦ inl (omega arith)
    ]

-- no digits spell no bytes
none_behind : (rest others : List ℕ) → length rest ≡ 0 → hex_bytes rest ≡ Some others → others ≡ []
unfolding hex_bytes
none_behind [] others none is = cc
none_behind (digit ∷ rest) others none is = absurd (omega arith)

-- the rest spells nothing more, or the front has all that a message takes
pub spelled-Some : (digits front rest bytes : List ℕ) → digits ≡ front ++ rest → length front % 2 ≡ 0 → length rest % 2 ≡ 0
    → (length rest ≡ 0) ⊎ (length bytes ≡ LONGEST_FRAME) → Some bytes ≡ hex_bytes front → list_all is_hex_digit rest ≡ true
    → from_bytes (message_at bytes) ≡ spelled_message (hex_bytes digits)
spelled-Some digits front rest bytes split even even_rest all spelled is_digits =
    let others = hex_bytes-Some front rest bytes even even_rest spelled is_digits in
    let same : message_at (bytes ++ others.0) ≡ message_at bytes = elim all [
      | inl none ↦ ap message_at (ap (λ (l : List ℕ). bytes ++ l) (none_behind rest others.0 none others.1) ∙ append-nil bytes)
      | inr long ↦ message_at-front bytes others.0 long
    ] in
    sym (rw (split, others.2) (ap from_bytes same))
