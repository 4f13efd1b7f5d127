-- Shows that a message's spelling is made of bytes.
use Rattle.std.proofs.Common.{◌≡◌, ◌<◌, ◌+◌, ◌==◌, ◌&&◌, ◌||◌, nat_le, nat_lt, ◌∷◌, ◌++◌, [], ℕ, zero, suc, List, Bool, true, false, All, arith, drop, inl, inr, length, refl}
use Rattle.std.specs.Int.{byte_at, bytes_high_first, to_be_bytes, w8, w16, w32, w64}
use Rattle.std.specs.List.{list_all, list_any, prefix_len}
use Rattle.std.specs.Option.{is_some}
use Rattle.std.proofs.lemmas.Bool.{and_parts, cases_Bool, eqb-true, ltb-true}
use Rattle.std.proofs.lemmas.Bool.Decides.{nat_tests}
use Rattle.std.proofs.lemmas.List.Elements.{All-append, All-cons, All-nil}
use Rattle.reports.specs.Spelling.{IsContent, IsHeader, IsMessage, body, content_text, fields_text, header_text, kind_byte, spelling, target_text}
use Rattle.reports.specs.declared.message.Header.{Header}
use Rattle.reports.specs.declared.message.Message.{Message}
use Rattle.reports.specs.declared.message.Message.TheVariants.{Report, Cancel, Correct, Reinstate}
use Rattle.sale_matrix.specs.Matrix.{IsCondition, MatrixRow, cells_in, first_rows, fourth_rows, is_within, second_rows, third_rows}
use Rattle.sale_matrix.specs.declared.content.Content.{Content}
use Rattle.sale_matrix.specs.declared.matrix.Matrix.TheVariants.{Two}
use Rattle.tape_types.specs.Ranges.{is_name_byte, name_of}

-- bytes alone
abbrev pub AreBytes : List ℕ → Type 0
AreBytes bytes = All (λ b. b < 256) bytes

-- ## Numbers

-- a byte of a number
byte_at-fits : (i n : ℕ) → byte_at i n < 256
byte_at-fits zero n = omega arith
byte_at-fits (suc i) n = omega arith

-- the bytes of a number
high_first-bytes : (k n : ℕ) → AreBytes (bytes_high_first k n)
high_first-bytes zero n = All-nil (λ b. b < 256)
high_first-bytes (suc k) n = All-cons (λ b. b < 256) (byte_at k n) (bytes_high_first k n) (byte_at-fits k n) (high_first-bytes k n)

-- one text of bytes after another
both : (front back : List ℕ) → AreBytes front → AreBytes back → AreBytes (front ++ back)
both front back first second = All-append (λ b. b < 256) front back first second

-- ## Symbols

-- a byte above `Z` is in no name
not_in_name : (low digit : Bool) → ((low && false) || ((digit && false) || false)) ≡ false
not_in_name true true = refl
not_in_name true false = refl
not_in_name false true = refl
not_in_name false false = refl

-- a byte of a name is a byte
name_byte-fits : (b : ℕ) → is_name_byte b ≡ true → b < 256
name_byte-fits b name = elim (cases_Bool (nat_le b 90)) [
  | inl low ↦ at_most low
  | inr high ↦
      let digit : nat_le b 57 ≡ false = below high in
      let dot : (b == 46) ≡ false = other high in
      let none : is_name_byte b ≡ false = rw (high, digit, dot) (not_in_name (nat_le 65 b) (nat_le 48 b)) in
      absurd (cc (name, none))
]
  where
    at_most : nat_le b 90 ≡ true → b < 256
    at_most low = grind (arith, nat_tests)

    below : nat_le b 90 ≡ false → nat_le b 57 ≡ false
    below high = grind (arith, nat_tests)

    other : nat_le b 90 ≡ false → (b == 46) ≡ false
    other high = grind (arith, nat_tests)

-- spaces are bytes
spaces-bytes : (bytes : List ℕ) → All (λ b. b ≡ 32) bytes → AreBytes bytes
spaces-bytes bytes all k d within = let e = all k d within in omega (arith, e)

-- a name and spaces after it are bytes
padded-bytes : (bytes : List ℕ) → All (λ b. b ≡ 32) (drop (length (name_of bytes)) bytes) → AreBytes bytes
padded-bytes [] spaces = All-nil (λ b. b < 256)
padded-bytes (b ∷ bytes) spaces = elim (cases_Bool (is_name_byte b)) [
  | inl name ↦
      let one : 1 + prefix_len is_name_byte bytes ≡ suc (prefix_len is_name_byte bytes) = omega arith in
      All-cons (λ b. b < 256) b bytes (name_byte-fits b name) (padded-bytes bytes (rw (name, one) at spaces))
  | inr other ↦ spaces-bytes (b ∷ bytes) (rw other at spaces)
]

-- ## Conditions

-- a code that is one of these bytes is a byte
any-fits : (code : ℕ) (codes : List ℕ) → list_all (λ c. nat_lt c 256) codes ≡ true → list_any (λ c. code == c) codes ≡ true → code < 256
any-fits code [] fit any = cc
any-fits code (c ∷ codes) fit any =
    let parts = and_parts (nat_lt c 256) (list_all (λ c. nat_lt c 256) codes) fit in
    elim (cases_Bool (code == c)) [
      | inl is ↦ let same : code ≡ c = eqb-true code c is in let small : c < 256 = ltb-true c 256 parts.0 in omega (arith, same, small)
      | inr other ↦ any-fits code codes parts.1 (rw other at any)
    ]

-- a code of rows that have bytes alone is a byte
code-fits : (rows : List MatrixRow) (code : ℕ) → list_all (λ row. list_all (λ c. nat_lt c 256) row.0) rows ≡ true → is_some (cells_in rows code) ≡ true
    → code < 256
code-fits [] code fit some = cc
code-fits (row ∷ rows) code fit some =
    let parts = and_parts (list_all (λ c. nat_lt c 256) row.0) (list_all (λ row. list_all (λ c. nat_lt c 256) row.0) rows) fit in
    elim (cases_Bool (list_any (λ c. code == c) row.0)) [
      | inl here ↦ any-fits code row.0 parts.0 here
      | inr other ↦ code-fits rows code parts.1 (rw other at some)
    ]

-- four codes of the matrices are bytes
codes-bytes : (a b c d : ℕ) → is_within Two (a ∷ b ∷ c ∷ d ∷ []) ≡ true → AreBytes (a ∷ b ∷ c ∷ d ∷ [])
unfolding is_within first_rows second_rows third_rows fourth_rows
codes-bytes a b c d coded =
    let first = and_parts (is_some (cells_in first_rows a)) _ coded in
    let second = and_parts (is_some (cells_in second_rows b)) _ first.1 in
    let third = and_parts (is_some (cells_in third_rows c)) _ second.1 in
    let fourth = and_parts (is_some (cells_in (fourth_rows Two) d)) _ third.1 in
    All-cons (λ b. b < 256) a (b ∷ c ∷ d ∷ []) (code-fits first_rows a refl first.0) (All-cons (λ b. b < 256) b (c ∷ d ∷ []) (code-fits second_rows b refl second.0)
    (All-cons (λ b. b < 256) c (d ∷ []) (code-fits third_rows c refl third.0) (All-cons (λ b. b < 256) d [] (code-fits (fourth_rows Two) d refl fourth.0) (All-nil (λ b. b < 256)))))

-- a condition's codes are bytes
condition-bytes : (condition : List ℕ) → IsCondition condition → AreBytes condition
condition-bytes [] is = absurd (omega (arith, is.four))
condition-bytes (a ∷ []) is = absurd (omega (arith, is.four))
condition-bytes (a ∷ b ∷ []) is = absurd (omega (arith, is.four))
condition-bytes (a ∷ b ∷ c ∷ []) is = absurd (omega (arith, is.four))
condition-bytes (a ∷ b ∷ c ∷ d ∷ []) is = codes-bytes a b c d is.coded
condition-bytes (a ∷ b ∷ c ∷ d ∷ e ∷ more) is = absurd (omega (arith, is.four))

-- ## Messages

-- a header's bytes
header-bytes : (h : Header) → IsHeader h → AreBytes (header_text h)
header-bytes h is =
    both (to_be_bytes w8 h.participant) (to_be_bytes w32 h.number ++ (to_be_bytes w64 h.moment ++ h.symbol)) (high_first-bytes 1 h.participant) (both (to_be_bytes w32 h.number) (to_be_bytes w64 h.moment ++ h.symbol) (high_first-bytes 4 h.number)
    (both (to_be_bytes w64 h.moment) h.symbol (high_first-bytes 8 h.moment) (padded-bytes h.symbol is.symbol.padded)))

-- a content's bytes
content-bytes : (c : Content) → IsContent c → AreBytes (content_text c)
content-bytes c is =
    both (to_be_bytes w64 c.price) (to_be_bytes w32 c.size ++ c.condition) (high_first-bytes 8 c.price) (both (to_be_bytes w32 c.size) c.condition (high_first-bytes 4 c.size)
    (condition-bytes c.condition is.condition))

-- the bytes of a kind's fields
fields-bytes : (m : Message) → IsMessage m → AreBytes (fields_text m)
fields-bytes (Report h c) is = both (header_text h) (content_text c) (header-bytes h is.0) (content-bytes c is.1)
fields-bytes (Cancel h target) is = both (header_text h) (target_text target) (header-bytes h is.0) (high_first-bytes 4 target)
fields-bytes (Correct h target c) is =
    both (header_text h) (target_text target ++ content_text c) (header-bytes h is.0)
    (both (target_text target) (content_text c) (high_first-bytes 4 target) (content-bytes c is.1.1))
fields-bytes (Reinstate h target) is = both (header_text h) (target_text target) (header-bytes h is.0) (high_first-bytes 4 target)

-- a kind's byte
kind-fits : (m : Message) → kind_byte m < 256
kind-fits (Report h c) = omega arith
kind-fits (Cancel h target) = omega arith
kind-fits (Correct h target c) = omega arith
kind-fits (Reinstate h target) = omega arith

-- a message's bytes
pub spelling-bytes : (m : Message) → IsMessage m → AreBytes (spelling m)
spelling-bytes m is =
    both (to_be_bytes w16 (length (body m))) (body m) (high_first-bytes 2 (length (body m)))
    (All-cons (λ b. b < 256) (kind_byte m) (fields_text m) (kind-fits m) (fields-bytes m is))
