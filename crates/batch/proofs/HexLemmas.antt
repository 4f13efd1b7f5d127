-- Shows which bytes hexadecimal digits spell.
use Rattle.std.proofs.Common.{◌≡◌, ◌+◌, ◌*◌, ◌/◌, ◌%◌, ◌==◌, ◌&&◌, ◌∷◌, ◌++◌, ◌∙◌, [], ℕ, List, Bool, true, false, Option, Some, None, Result, Ok, Err, refl}
use Rattle.std.proofs.Common.{sym, ap, arith, length, MatchResult}
use Rattle.std.specs.Prelude.{option_and_then, option_map, is_some}
use Rattle.std.specs.List.{list_all}
use Rattle.std.specs.Result.{result_ok}
use Rattle.std.proofs.lemmas.Bool.Decides.{nat_tests}
use Rattle.hex.specs.Hex.{◌>>=◌, decode_pairs, decode_sized, digit_or_error, hex_digit_value, is_hex_digit}
use Rattle.hex.specs.declared.error.FromHexError.{FromHexError}
use Rattle.batch.specs.MessageLine.{hex_bytes, with_byte}

-- ## What `hex` decodes

-- a pair of digits decodes to a byte in front of what the others decode to
pair_bytes : (c d i j : ℕ) (high low : Option ℕ) (read : Result (List ℕ) FromHexError) (bytes : Option (List ℕ)) → result_ok read ≡ bytes
    → result_ok ((digit_or_error c i high >>= λ h. digit_or_error d j low >>= λ l. Ok (h * 16 + l)) >>= λ byte. read >>= λ rest. Ok (byte ∷ rest))
    ≡ with_byte high low bytes
pair_bytes c d i j None low read bytes e = refl
pair_bytes c d i j (Some h) None read bytes e = refl
pair_bytes c d i j (Some h) (Some l) (Ok rest) bytes e = rw (← e) refl
pair_bytes c d i j (Some h) (Some l) (Err fault) bytes e = rw (← e) refl

-- digits decode in pairs to the bytes that they spell
decode_pairs-bytes : (i : ℕ) (digits : List ℕ) → result_ok (decode_pairs i digits) ≡ hex_bytes digits
unfolding decode_pairs hex_bytes
decode_pairs-bytes i [] = refl
decode_pairs-bytes i (digit ∷ []) = refl
decode_pairs-bytes i (high ∷ low ∷ rest) =
    pair_bytes high low i (i + 1) (hex_digit_value high) (hex_digit_value low) (decode_pairs (i + 2) rest) (hex_bytes rest) (decode_pairs-bytes (i + 2) rest)

-- an even number of digits decoded into room for all of them
pub decode_sized-bytes : (digits : List ℕ) (room : ℕ) → length digits % 2 ≡ 0 → room ≡ length digits / 2
    → result_ok (decode_sized digits room) ≡ hex_bytes digits
decode_sized-bytes digits room even fits =
    let not_odd : (length digits % 2 == 1) ≡ false = grind (arith, nat_tests) in
    let all : (length digits / 2 == room) ≡ true = grind (arith, nat_tests) in
    rw (not_odd, all) (decode_pairs-bytes 0 digits)

-- ## Digits before other digits

-- the bytes of both, if both spell bytes
abbrev pub joined : Option (List ℕ) → Option (List ℕ) → Option (List ℕ)
joined front rest = option_and_then (λ x. option_map (λ y. x ++ y) rest) front

-- no bytes in front of others are the others alone
joined-nil : (bytes : Option (List ℕ)) → bytes ≡ joined (Some []) bytes
joined-nil None = refl
joined-nil (Some x) = refl

-- a byte in front of the bytes of both is a byte in front of the first
with_byte-joined : (high low : Option ℕ) (front rest : Option (List ℕ)) → with_byte high low (joined front rest) ≡ joined (with_byte high low front) rest
with_byte-joined None low front rest = refl
with_byte-joined (Some h) None front rest = refl
with_byte-joined (Some h) (Some l) None rest = refl
with_byte-joined (Some h) (Some l) (Some x) None = refl
with_byte-joined (Some h) (Some l) (Some x) (Some y) = refl

-- an even number of digits in front of others spells its bytes in front of theirs
pub hex_bytes-append : (front rest : List ℕ) → length front % 2 ≡ 0 → hex_bytes (front ++ rest) ≡ joined (hex_bytes front) (hex_bytes rest)
unfolding hex_bytes
hex_bytes-append [] rest even = joined-nil (hex_bytes rest)
hex_bytes-append (digit ∷ []) rest even = absurd (omega arith)
hex_bytes-append (high ∷ low ∷ front) rest even =
    ap (with_byte (hex_digit_value high) (hex_digit_value low)) (hex_bytes-append front rest (omega arith))
    ∙ with_byte-joined (hex_digit_value high) (hex_digit_value low) (hex_bytes front) (hex_bytes rest)

-- there are bytes if both digits are digits and the rest spells bytes
is_some-with_byte : (high low : Option ℕ) (bytes : Option (List ℕ)) → is_some (with_byte high low bytes) ≡ (is_some high && (is_some low && is_some bytes))
is_some-with_byte None low bytes = refl
is_some-with_byte (Some h) None bytes = refl
is_some-with_byte (Some h) (Some l) None = refl
is_some-with_byte (Some h) (Some l) (Some x) = refl

-- an even number of digits alone spell bytes
is_some-hex_bytes : (digits : List ℕ) → length digits % 2 ≡ 0 → is_some (hex_bytes digits) ≡ list_all is_hex_digit digits
unfolding hex_bytes
is_some-hex_bytes [] even = refl
is_some-hex_bytes (digit ∷ []) even = absurd (omega arith)
is_some-hex_bytes (high ∷ low ∷ rest) even =
    is_some-with_byte (hex_digit_value high) (hex_digit_value low) (hex_bytes rest)
    ∙ ap (λ (b : Bool). is_hex_digit high && (is_hex_digit low && b)) (is_some-hex_bytes rest (omega arith))

-- a digit is over
pub hex_bytes-odd : (digits : List ℕ) → length digits % 2 ≡ 1 → hex_bytes digits ≡ None
unfolding hex_bytes
hex_bytes-odd [] odd = absurd (omega arith)
hex_bytes-odd (digit ∷ []) odd = refl
hex_bytes-odd (high ∷ low ∷ rest) odd = rw (hex_bytes-odd rest (omega arith)) (no_more (hex_digit_value high) (hex_digit_value low))
  where
    no_more : (h l : Option ℕ) → with_byte h l None ≡ None
    no_more None l = refl
    no_more (Some h) None = refl
    no_more (Some h) (Some l) = refl

-- an option that is some has a value
some-from_is_some : (bytes : Option (List ℕ)) → is_some bytes ≡ true → (x : List ℕ) × (bytes ≡ Some x)
some-from_is_some None some = cc
some-from_is_some (Some x) some = (x, refl)

-- an option that is not some is none
none-from_is_some : (bytes : Option (List ℕ)) → is_some bytes ≡ false → bytes ≡ None
none-from_is_some None none = refl
none-from_is_some (Some x) none = cc

-- the front spells nothing
pub hex_bytes-front_None : (front rest : List ℕ) → length front % 2 ≡ 0 → hex_bytes front ≡ None → hex_bytes (front ++ rest) ≡ None
hex_bytes-front_None front rest even none = hex_bytes-append front rest even ∙ rw none refl

-- a byte is no digit
pub hex_bytes-no_digit : (digits : List ℕ) → length digits % 2 ≡ 0 → list_all is_hex_digit digits ≡ false → hex_bytes digits ≡ None
hex_bytes-no_digit digits even no_digit = none-from_is_some (hex_bytes digits) (is_some-hex_bytes digits even ∙ no_digit)

-- the rest has a byte that is no digit
pub hex_bytes-rest_None : (front rest : List ℕ) → length front % 2 ≡ 0 → length rest % 2 ≡ 0 → list_all is_hex_digit rest ≡ false
    → hex_bytes (front ++ rest) ≡ None
hex_bytes-rest_None front rest even even_rest no_digit =
    hex_bytes-append front rest even ∙ rw (hex_bytes-no_digit rest even_rest no_digit) (none-joined (hex_bytes front))
  where
    none-joined : (o : Option (List ℕ)) → joined o None ≡ None
    none-joined None = refl
    none-joined (Some x) = refl

-- digits that spell bytes, before others that do, spell both
pub hex_bytes-both : (front rest x y : List ℕ) → length front % 2 ≡ 0 → hex_bytes front ≡ Some x → hex_bytes rest ≡ Some y
    → hex_bytes (front ++ rest) ≡ Some (x ++ y)
hex_bytes-both front rest x y even first second = hex_bytes-append front rest even ∙ rw (first, second) refl

-- the front spells bytes, and the rest, which is digits alone, others
pub hex_bytes-Some : (front rest bytes : List ℕ) → length front % 2 ≡ 0 → length rest % 2 ≡ 0 → Some bytes ≡ hex_bytes front → list_all is_hex_digit rest ≡ true
    → (others : List ℕ) × (hex_bytes rest ≡ Some others) × (hex_bytes (front ++ rest) ≡ Some (bytes ++ others))
hex_bytes-Some front rest bytes even even_rest spelled digits =
    let others = some-from_is_some (hex_bytes rest) (is_some-hex_bytes rest even_rest ∙ digits) in
    (others.0, others.1, hex_bytes-both front rest bytes others.0 even (sym spelled) others.1)

-- ## The result of decoding into a row

-- if decoding succeeds the row has what was decoded, and otherwise nothing was decoded
pub decoded : (read : Result (List ℕ) FromHexError) (answer : Result (Unit {0}) FromHexError) (row : List ℕ)
    → MatchResult read (λ bytes. (answer ≡ Ok tt) × (row ≡ bytes)) (λ e. answer ≡ Err e)
    → MatchResult answer (λ _. Some row ≡ result_ok read) (λ _. None ≡ result_ok read)
decoded (Ok bytes) (Ok x) row h = ap Some h.1
decoded (Ok bytes) (Err e) row h = cc
decoded (Err e) (Ok x) row h = cc
decoded (Err e) (Err fault) row h = refl
