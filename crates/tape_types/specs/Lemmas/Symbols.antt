-- Lemmas about a symbol and its name: padding a name makes its symbol, and dropping the padding yields the name again.
use Rattle.std.proofs.Common.{◌≡◌, ◌<◌, ◌≤◌, ◌+◌, ◌-◌, ◌∷◌, ◌++◌, ◌∙◌, [], ℕ, zero, suc, List, Bool, true, false, Some, None, refl, sym, ap, subst, arith}
use Rattle.std.proofs.Common.{length, drop, take, replicate, length-append, length-take, All, nat_lt, nat_le, inl, inr}
use Rattle.std.specs.List.{list_all, prefix_len}
use Rattle.std.proofs.lemmas.Bool.{cases_Bool, ltb-true}
use Rattle.std.proofs.lemmas.Bool.Decides.{nat_tests}
use Rattle.std.proofs.lemmas.List.{length-replicate}
use Rattle.std.proofs.lemmas.List.Elements.{All-head, All-replicate, All-tail}
use Rattle.std.proofs.Math.Seq.{drop-append_seam, take-append_seam}
use Rattle.tape_types.specs.Names.{symbol_named}
use Rattle.tape_types.specs.Ranges.{IsSymbol, is_name_byte, name_of}

-- a name ends at the first space after it
prefix_len-name : (name : List ℕ) (spaces : ℕ) → list_all is_name_byte name ≡ true → prefix_len is_name_byte (name ++ replicate spaces 32) ≡ length name
prefix_len-name [] zero all = refl
prefix_len-name [] (suc spaces) all = refl
prefix_len-name (byte ∷ name) spaces all = elim (cases_Bool (is_name_byte byte)) [
  | inl passes ↦ let more = prefix_len-name name spaces (rw passes at all) in rw passes (omega arith)
  | inr fails ↦ absurd (no (rw fails at all))
]
  where
    no : false ≡ true → ⊥
    no e = cc

-- the name of a name with spaces after it is that name
pub name_of-padded : (name : List ℕ) (spaces : ℕ) → list_all is_name_byte name ≡ true → name_of (name ++ replicate spaces 32) ≡ name
name_of-padded name spaces all =
    ap (λ n. take n (name ++ replicate spaces 32)) (prefix_len-name name spaces all) ∙ take-append_seam name (replicate spaces 32)

-- all bytes of a name may stand in one
pub list_all-name_of : (bytes : List ℕ) → list_all is_name_byte (name_of bytes) ≡ true
list_all-name_of [] = refl
list_all-name_of (b ∷ bytes) = elim (cases_Bool (is_name_byte b)) [
  | inl name ↦ let one : 1 + prefix_len is_name_byte bytes ≡ suc (prefix_len is_name_byte bytes) = omega arith in
      rw (name, one) (all-cons b (name_of bytes) name (list_all-name_of bytes))
  | inr other ↦ rw other refl
]
  where
    all-cons : (b : ℕ) (bytes : List ℕ) → is_name_byte b ≡ true → list_all is_name_byte bytes ≡ true → list_all is_name_byte (b ∷ bytes) ≡ true
    all-cons b bytes first others = rw first others

-- a name of 1 to 8 bytes is a symbol once it is padded with spaces
pub IsSymbol-padded : (name : List ℕ) → 0 < length name → length name ≤ 8 → list_all is_name_byte name ≡ true
    → IsSymbol (name ++ replicate (8 - length name) 32)
IsSymbol-padded name some few all =
    let spaces : ℕ = 8 - length name in
    let bytes : List ℕ = name ++ replicate spaces 32 in
    let total : length bytes ≡ 8 = length-append name (replicate spaces 32) ∙ ap (λ n. length name + n) (length-replicate spaces 32) ∙ omega arith in
    let named : length (name_of bytes) ≡ length name = ap length (name_of-padded name spaces all) in
    let padding : All (λ b. b ≡ 32) (replicate spaces 32) = All-replicate (λ b. b ≡ 32) spaces 32 refl in
    record {
      eight = total;
      named = subst (λ n. 0 < n) (sym named) some;
      padded = subst (λ (rest : List ℕ). All (λ b. b ≡ 32) rest) (sym (ap (λ n. drop n bytes) named ∙ drop-append_seam name (replicate spaces 32))) padding;
    }

-- the symbol of a name that has one
symbol_named-Some : (name : List ℕ) → 0 < length name → length name ≤ 8 → list_all is_name_byte name ≡ true
    → symbol_named name ≡ Some (name ++ replicate (8 - length name) 32)
symbol_named-Some name some few all =
    let not_none : nat_lt 0 (length name) ≡ true = grind (arith, nat_tests) in
    let not_many : nat_le (length name) 8 ≡ true = grind (arith, nat_tests) in
    rw (not_none, not_many, all) refl

-- a name that is the name of itself with spaces after it has a symbol
pub symbol_named-own : (name symbol : List ℕ) → symbol ≡ name ++ replicate (8 - length name) 32 → IsSymbol symbol → length name ≤ 8 → name_of symbol ≡ name
    → symbol_named name ≡ Some symbol
symbol_named-own name symbol padded is few own =
    symbol_named-Some name (subst (λ (l : List ℕ). 0 < length l) own is.named) few
    (subst (λ (l : List ℕ). list_all is_name_byte l ≡ true) own (list_all-name_of symbol))
    ∙ ap Some (sym padded)

-- a name that cannot be one has no symbol
pub symbol_named-None : (name : List ℕ) → length name ≤ 8 → (0 < length name → list_all is_name_byte name ≡ true → ⊥) → symbol_named name ≡ None
symbol_named-None name few never = cases (nat_lt 0 (length name)) (list_all is_name_byte name) refl refl
  where
    cases : (some all : Bool) → nat_lt 0 (length name) ≡ some → list_all is_name_byte name ≡ all → symbol_named name ≡ None
    cases false all none is = rw none refl
    cases true false some other = let not_many : nat_le (length name) 8 ≡ true = grind (arith, nat_tests, few) in rw (some, not_many, other) refl
    cases true true some all = absurd (never (ltb-true 0 (length name) some) all)

-- bytes that are all spaces are that many spaces
spaces-are : (bytes : List ℕ) → All (λ b. b ≡ 32) bytes → bytes ≡ replicate (length bytes) 32
spaces-are [] all = refl
spaces-are (b ∷ bytes) all =
    let more = spaces-are bytes (All-tail (λ b. b ≡ 32) b bytes all) in
    let first = All-head (λ b. b ≡ 32) b bytes all in
    cc

-- bytes whose rest after the name is spaces are the name with padding
padded-back : (bytes : List ℕ) → All (λ b. b ≡ 32) (drop (length (name_of bytes)) bytes)
    → bytes ≡ name_of bytes ++ replicate (length bytes - length (name_of bytes)) 32
padded-back [] spaces = refl
padded-back (b ∷ bytes) spaces = elim (cases_Bool (is_name_byte b)) [
  | inl name ↦
      let one : 1 + prefix_len is_name_byte bytes ≡ suc (prefix_len is_name_byte bytes) = omega arith in
      let less : suc (length bytes) - suc (length (name_of bytes)) ≡ length bytes - length (name_of bytes) = omega arith in
      let more = padded-back bytes (rw (name, one) at spaces) in
      rw (name, one, less) (ap (λ (rest : List ℕ). b ∷ rest) more)
  | inr other ↦
      let all = rw other at spaces in
      let all_of_it : suc (length bytes) - 0 ≡ suc (length bytes) = omega arith in
      rw (other, all_of_it) (spaces-are (b ∷ bytes) all)
]

-- a symbol's name names it
pub symbol_named-name : (symbol : List ℕ) → IsSymbol symbol → symbol_named (name_of symbol) ≡ Some symbol
symbol_named-name symbol is =
    let few : length (name_of symbol) ≤ 8 = omega (arith, length-take (prefix_len is_name_byte symbol) symbol, is.eight) in
    let padded : symbol ≡ name_of symbol ++ replicate (8 - length (name_of symbol)) 32 =
    subst (λ (n : ℕ). symbol ≡ name_of symbol ++ replicate (n - length (name_of symbol)) 32) is.eight (padded-back symbol is.padded) in
    symbol_named-own (name_of symbol) symbol padded is few refl
