-- Where what was told and a participant's entries first differ is one position.
use Rattle.std.proofs.Common.{◌≡◌, ◌+◌, ◌<◌, nat_lt, ℕ, zero, suc, true, false, List, [], ◌∷◌, ◌++◌, take, map}
use Rattle.std.proofs.Common.{slice_get, Some, refl, ap, ◌∙◌, sym, arith}
use Rattle.std.specs.List.{filter}
use Rattle.std.proofs.lemmas.Bool.{cond-true, cond-false}
use Rattle.std.proofs.lemmas.Bool.Decides.{nat_tests}
use Rattle.std.proofs.lemmas.Option.{slice_get_within, get_or_from_slice_get}
use Rattle.std.proofs.lemmas.List.{take_more}
use Rattle.tape_core.specs.declared.entry.Entry.{Entry}
use Rattle.tape_core.specs.Standing.{is_of}
use Rattle.line_ledger.specs.declared.told.Told.{Told}
use Rattle.line_ledger.specs.Ends.{told_entry, told_of, DiffersFirst}

-- an entry of the participant is told, before the rest
pub told_of-yes : (who : ℕ) (e : Entry) (es : List Entry) → is_of who e.message ≡ true → told_of who (e ∷ es) ≡ told_entry e ∷ told_of who es
told_of-yes who e es own = ap (map told_entry) (cond-true (is_of who e.message) (e ∷ filter (λ x. is_of who x.message) es)
    (filter (λ x. is_of who x.message) es) own)

-- an entry of another participant is not told
pub told_of-no : (who : ℕ) (e : Entry) (es : List Entry) → is_of who e.message ≡ false → told_of who (e ∷ es) ≡ told_of who es
told_of-no who e es other_line = ap (map told_entry) (cond-false (is_of who e.message) (e ∷ filter (λ x. is_of who x.message) es)
    (filter (λ x. is_of who x.message) es) other_line)

-- of two lists, what each is told follows one after the other
pub told_of-append : (who : ℕ) (xs ys : List Entry) → told_of who (xs ++ ys) ≡ told_of who xs ++ told_of who ys
told_of-append who [] ys = refl
told_of-append who (x ∷ xs) ys = elim (is_of who x.message) as (λ b. is_of who x.message ≡ b → told_of who (x ∷ xs ++ ys)
    ≡ told_of who (x ∷ xs) ++ told_of who ys) [
      | true ↦ λ own. told_of-yes who x (xs ++ ys) own ∙ ap (λ l. told_entry x ∷ l) (told_of-append who xs ys) ∙ ap (λ l. l ++ told_of who ys)
          (sym (told_of-yes who x xs own))
      | false ↦ λ other_line. told_of-no who x (xs ++ ys) other_line ∙ told_of-append who xs ys ∙ ap (λ l. l ++ told_of who ys)
          (sym (told_of-no who x xs other_line))
    ] refl

-- what was told so far, one entry longer
pub told_more : (told : List Told) (at : ℕ) (t : Told) → slice_get told at ≡ Some t → take (at + 1) told ≡ take at told ++ t ∷ []
told_more told at t is = take_more told at t (slice_get_within told at t is) ∙ ap (λ x. take at told ++ x ∷ []) (get_or_from_slice_get told at t t is)

-- the front of a list has what the list has
taken : {X : Type 0} (xs : List X) (n i : ℕ) → i < n → slice_get (take n xs) i ≡ slice_get xs i
taken xs zero i within = absurd (omega arith)
taken [] (suc n) i within = refl
taken (x ∷ xs) (suc n) zero within = refl
taken (x ∷ xs) (suc n) (suc i) within = taken xs n i (omega arith)

-- two numbers of which neither is less are equal
pub same_from : {a b : ℕ} → (a < b → ⊥) → (b < a → ⊥) → a ≡ b
same_from {a} {b} not_less not_more = elim (nat_lt a b) as (λ c. nat_lt a b ≡ c → a ≡ b) [
  | true ↦ λ less. absurd (not_less (grind (arith, nat_tests, less)))
  | false ↦ λ e. elim (nat_lt b a) as (λ c. nat_lt b a ≡ c → a ≡ b) [
    | true ↦ λ more. absurd (not_more (grind (arith, nat_tests, more)))
    | false ↦ λ f. grind (arith, nat_tests, e, f)
  ] refl
] refl

-- lists do not differ before they first do
not-before : (told es : List Told) (at other : ℕ) → DiffersFirst told es at → DiffersFirst told es other → at < other → ⊥
not-before told es at other one two less =
    one.here (sym (taken told other at less) ∙ ap (λ l. slice_get l at) two.before ∙ taken es other at less)

-- two lists first differ at one position only
pub differs_once : (told es : List Told) (at other : ℕ) → DiffersFirst told es at → DiffersFirst told es other → at ≡ other
differs_once told es at other one two = same_from (not-before told es at other one two) (not-before told es other at two one)

-- lists that differ somewhere are not the same
pub differs_apart : (told es : List Told) (at : ℕ) → DiffersFirst told es at → told ≡ es → ⊥
differs_apart told es at differs same = differs.here (ap (λ l. slice_get l at) same)
