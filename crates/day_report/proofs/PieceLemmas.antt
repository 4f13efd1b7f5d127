-- The rows of the pieces, added one piece after another, are those of the listing.
use Rattle.std.proofs.Common.{◌≡◌, ◌++◌, ◌∷◌, ◌∙◌, ◌+◌, ◌<◌, [], ℕ, zero, suc, List, refl, sym, ap, append_assoc, append-nil, length, arith, take, drop, get_or}
use Rattle.std.specs.List.{flat_map}
use Rattle.std.proofs.lemmas.Grind.{flat_map-append}
use Rattle.std.proofs.lemmas.List.{take-append-drop, take-take, drop-take}

-- an added element is the first of those that are left
pub one_more : {X : Type 0} (old new all : List X) (x : X) (left : List X) → new ≡ old ++ x ∷ [] → old ++ x ∷ left ≡ all → new ++ left ≡ all
one_more old new all x left is whole = ap (λ l. l ++ left) is ∙ append_assoc old (x ∷ []) left ∙ whole

-- ## Parts of a list

-- one more element is taken
pub flat_map-take-more : {X Y : Type 0} (f : X → List Y) (xs : List X) (i : ℕ) (d : X) → i < length xs
    → flat_map f (take (suc i) xs) ≡ flat_map f (take i xs) ++ f (get_or xs i d)
flat_map-take-more f [] i d within = absurd (omega arith)
flat_map-take-more f (x ∷ xs) zero d within = append-nil (f x)
flat_map-take-more f (x ∷ xs) (suc i) d within =
    ap (λ l. f x ++ l) (flat_map-take-more f xs i d (omega arith)) ∙ sym (append_assoc (f x) (flat_map f (take i xs)) (f (get_or xs i d)))

-- taking more elements takes the first ones, then those after them
flat_map-take-add : {X Y : Type 0} (f : X → List Y) (xs : List X) (i n : ℕ)
    → flat_map f (take (i + n) xs) ≡ flat_map f (take i xs) ++ flat_map f (take n (drop i xs))
flat_map-take-add f xs i n =
    let ys = take (i + n) xs in
    ap (flat_map f) (sym (take-append-drop i ys)) ∙ flat_map-append f (take i ys) (drop i ys)
    ∙ ap (λ l. flat_map f l ++ flat_map f (drop i ys)) (take-take i (i + n) xs (omega arith))
    ∙ ap (λ l. flat_map f (take i xs) ++ flat_map f l) (drop-take i n xs)

-- taking as many elements as a part of a list has takes that part
take-length-take : {X : Type 0} (n : ℕ) (xs : List X) → take (length (take n xs)) xs ≡ take n xs
take-length-take zero xs = refl
take-length-take (suc n) [] = refl
take-length-take (suc n) (x ∷ xs) = ap (λ l. x ∷ l) (take-length-take n xs)

-- the results of a part are added to those of all elements before it
pub part_added : {X Y : Type 0} (f : X → List Y) (xs : List X) (start size : ℕ) (part : List X) (old new : List Y) → part ≡ take size (drop start xs)
    → old ≡ flat_map f (take start xs) → new ≡ old ++ flat_map f part → new ≡ flat_map f (take (start + length part) xs)
part_added {X} {Y} f xs start size part old new is before added =
    added ∙ ap (λ (l : List Y). l ++ flat_map f part) before
    ∙ ap (λ (l : List X). flat_map f (take start xs) ++ flat_map f l) (is ∙ sym (take-length-take size (drop start xs))
    ∙ ap (λ (l : List X). take (length l) (drop start xs)) (sym is))
    ∙ sym (flat_map-take-add f xs start (length part))
