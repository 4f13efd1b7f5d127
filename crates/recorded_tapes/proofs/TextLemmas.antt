-- Shows what texts have in common that are the same up to a place.
use Rattle.std.proofs.Common.{◌≡◌, ◌≢◌, ◌≤◌, ◌+◌, ◌==◌, ◌++◌, ◌∙◌, ◌∷◌, [], ℕ, true, zero, suc, List, refl, sym, ap, arith, append-nil, append_assoc, drop, length, length-append, length-take-le, min, take}
use Rattle.std.proofs.lemmas.List.{take-append-drop, take_all, take_at}
use Rattle.recorded_tapes.specs.Differences.{AreApart, IsDifference, field_over}
use Rattle.recorded_tapes.specs.Places.{place_behind}
use Rattle.recorded_tapes.specs.declared.difference.Difference.{Difference}

-- a front, and the part that goes on after it
take-grown : (text part rest : List ℕ) (n : ℕ) → n ≤ length text → drop n text ≡ part ++ rest → take (n + length part) text ≡ take n text ++ part
take-grown text part rest n within behind =
    let split : text ≡ (take n text ++ part) ++ rest =
    sym (take-append-drop n text) ∙ ap (λ (l : List ℕ). take n text ++ l) behind ∙ sym (append_assoc (take n text) part rest) in
    let long : length (take n text ++ part) ≡ n + length part =
    length-append (take n text) part ∙ ap (λ (k : ℕ). k + length part) (length-take-le n text within) in
    ap (take (n + length part)) split ∙ take_at (take n text ++ part) rest (n + length part) long

-- a piece that goes on with the recorded text
pub grown : (recorded behind part rest : List ℕ) (n : ℕ) → n ≤ length recorded → behind ≡ [] → drop n recorded ≡ part ++ rest
    → take (n + length part) recorded ++ behind ≡ (take n recorded ++ behind) ++ take (length part) part
grown recorded behind part rest n within none is =
    let whole : take (length part) part ≡ part = take_all (length part) part (omega arith) in
    rw (none, whole) (append-nil (take (n + length part) recorded) ∙ take-grown recorded part rest n within is
    ∙ ap (λ (l : List ℕ). l ++ part) (sym (append-nil (take n recorded))))

-- a written text goes on as the recorded one does, and then on its own
pub wanted-split : (recorded behind : List ℕ) (same more : ℕ) → same ≤ length recorded → more ≤ length (drop same recorded)
    → take more (drop same recorded) ≡ take more behind → take same recorded ++ behind ≡ take (same + more) recorded ++ drop more behind
wanted-split recorded behind same more within inside equal =
    let part : List ℕ = take more (drop same recorded) in
    let long : length part ≡ more = length-take-le more (drop same recorded) inside in
    let front : take (same + more) recorded ≡ take same recorded ++ part =
    ap (λ (k : ℕ). take (same + k) recorded) (sym long)
    ∙ take-grown recorded part (drop more (drop same recorded)) same within (sym (take-append-drop more (drop same recorded))) in
    ap (λ (l : List ℕ). take same recorded ++ l) (sym (take-append-drop more behind))
    ∙ sym (append_assoc (take same recorded) (take more behind) (drop more behind))
    ∙ ap (λ (l : List ℕ). (take same recorded ++ l) ++ drop more behind) (sym equal)
    ∙ ap (λ (l : List ℕ). l ++ drop more behind) (sym front)

-- two different texts, of which the shorter one is the front of the other
pub apart-end : (one other : List ℕ) (n : ℕ) → n ≡ min (length one) (length other) → take n one ≡ take n other → one ≢ other
    → AreApart (drop n one) (drop n other)
apart-end [] [] n is same differ = absurd (differ refl)
apart-end [] (b ∷ ys) zero is same differ = tt
apart-end [] (b ∷ ys) (suc n) is same differ = absurd (omega (arith, is))
apart-end (a ∷ xs) [] zero is same differ = tt
apart-end (a ∷ xs) [] (suc n) is same differ = absurd (omega (arith, is))
apart-end (a ∷ xs) (b ∷ ys) zero is same differ = absurd (omega (arith, is))
apart-end (a ∷ xs) (b ∷ ys) (suc n) is same differ =
    let heads : a ≡ b = cc same in
    let tails : take n xs ≡ take n ys = cc same in
    apart-end xs ys n (omega (arith, is)) tails (λ (e : xs ≡ ys). differ (cc (heads, e)))

-- a difference of a recorded text from a written one
pub is-difference : (recorded behind left front rest right : List ℕ) (same more : ℕ) (d : Difference) → same ≤ length recorded → left ≡ drop same recorded
    → more ≤ length left → take more left ≡ take more behind → AreApart (drop more left) (drop more behind)
    → front ≡ take (same + more) recorded → rest ≡ drop more left → right ≡ drop more behind
    → d.line ≡ (place_behind front).line → d.column ≡ (place_behind front).column → d.stands ≡ field_over front rest → d.wanted ≡ field_over front right
    → IsDifference recorded (take same recorded ++ behind) d
is-difference recorded behind left front rest right same more d within is inside equal apart front_is rest_is right_is line column stands wanted =
    let inner : more ≤ length (drop same recorded) = rw is at inside in
    let split : take same recorded ++ drop same recorded ≡ take (same + more) recorded ++ drop more (drop same recorded) =
    wanted-split recorded (drop same recorded) same more within inner refl in
    record {
      front = front;
      left = rest;
      right = right;
      stands_is = sym (take-append-drop same recorded) ∙ split ∙ rw (front_is, rest_is, is) refl;
      wanted_is = wanted-split recorded behind same more within inner (rw is at equal) ∙ rw (front_is, right_is) refl;
      apart = rw (rest_is, right_is) apart;
      line = line;
      column = column;
      field = stands;
      right_field = wanted;
    }

-- a recorded text is the written one if the rest of it is what was written after the same part
pub same-text : (recorded behind text : List ℕ) (same : ℕ) → drop same recorded ≡ behind → take same recorded ++ behind ≡ text → recorded ≡ text
same-text recorded behind text same is written = sym (take-append-drop same recorded) ∙ ap (λ (l : List ℕ). take same recorded ++ l) is ∙ written

-- a text of length 0 is empty
pub no_bytes : (text : List ℕ) → (length text == 0) ≡ true → text ≡ []
no_bytes [] test = refl
no_bytes (byte ∷ text) test = let none : length (byte ∷ text) ≡ 0 = grind (arith, test) in absurd (omega (arith, none))
