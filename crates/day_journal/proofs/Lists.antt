-- Takes fronts of lists that are longer than the first part, and reads fields that are too short.
use Rattle.std.proofs.Common.{◌≡◌, ℕ, suc, ◌+◌, ◌<◌, List, [], ◌∷◌, ◌++◌, append_assoc, length, take, Ok, Err, refl, ap, ◌∙◌, arith}
use Rattle.std.specs.Int.{w16, w32}
use Rattle.std.proofs.lemmas.Bool.{lt-ltb, le-ltb}
use Rattle.std.proofs.lemmas.List.{length-append, take_at, drop_at}
use Rattle.reports.specs.Fields.{bytes_at, number_at}
use Rattle.day_journal.specs.declared.group_fault.GroupFault.TheVariants.{Torn}

-- a front that reaches past the first list
pub take_past : {A : Type 0} (xs ys : List A) (n : ℕ) → take (length xs + n) (xs ++ ys) ≡ xs ++ take n ys
take_past {A} [] ys n = let none : 0 + n ≡ n = omega arith in ap (λ (k : ℕ). take k ys) none
take_past {A} (x ∷ xs) ys n =
    let more : suc (length xs) + n ≡ suc (length xs + n) = omega arith in
    ap (λ (k : ℕ). take k (x ∷ (xs ++ ys))) more ∙ ap (λ (zs : List A). x ∷ zs) (take_past xs ys n)

-- a length without both of its bytes is torn
pub short_length : (bytes : List ℕ) → length bytes < 2 → number_at Torn w16 bytes ≡ Err Torn
unfolding number_at bytes_at
short_length bytes short = rw (lt-ltb (length bytes) 2 short) refl

-- a number without all four bytes is torn
pub short_number : (bytes : List ℕ) → length bytes < 4 → number_at Torn w32 bytes ≡ Err Torn
unfolding number_at bytes_at
short_number bytes short = rw (lt-ltb (length bytes) 4 short) refl

-- fewer bytes than are read are torn
pub short_bytes : (n : ℕ) (bytes : List ℕ) → length bytes < n → bytes_at Torn n bytes ≡ Err Torn
unfolding bytes_at
short_bytes n bytes short = rw (lt-ltb (length bytes) n short) refl

-- bytes that are all there are read
pub bytes_there : {F : Type 0} (short : F) (n : ℕ) (text rest : List ℕ) → length text ≡ n → bytes_at short n (text ++ rest) ≡ Ok (text, rest)
unfolding bytes_at
bytes_there short n text rest is =
    let long = le-ltb (length (text ++ rest)) n (omega (arith, length-append text rest, is)) in
    rw (long, take_at text rest n is, drop_at text rest n is) refl

-- five texts, one after the other
pub five_texts : (old a b c d e first second third fourth fifth : List ℕ) → first ≡ old ++ a → second ≡ first ++ b → third ≡ second ++ c → fourth ≡ third ++ d
    → fifth ≡ fourth ++ e → fifth ≡ old ++ (a ++ (b ++ (c ++ (d ++ e))))
five_texts old a b c d e first second third fourth fifth one two three four five =
    let regrouped : old ++ a ++ b ++ c ++ d ++ e ≡ old ++ (a ++ (b ++ (c ++ (d ++ e)))) = simp append_assoc in
    five ∙ ap (λ (t : List ℕ). t ++ e) (four ∙ ap (λ (t : List ℕ). t ++ d) (three ∙ ap (λ (t : List ℕ). t ++ c) (two ∙ ap (λ (t : List ℕ). t ++ b) one)))
    ∙ regrouped
