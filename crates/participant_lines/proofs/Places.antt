-- Collects lemmas about lists that are related place by place.
use Rattle.std.proofs.Common.{◌≡◌, ◌<◌, ◌++◌, ℕ, zero, suc, List, [], ◌∷◌, length, map, take, drop, slice_index_or, append-nil, refl, ap, ◌∙◌, arith}
use Rattle.std.proofs.lemmas.List.{drop_all}
use Rattle.std.proofs.Math.Seq.{take_all}

-- what is true at each place of two lists is true at each place of their images
pub at_place : {A B X : Type 0} (f : X → A) (g : X → B) (P : A → B → Type 0) (xs ys : List X)
    → ((i : ℕ) (d : X) → i < length xs → P (f (slice_index_or xs i d)) (g (slice_index_or ys i d))) → length ys ≡ length xs
    → (i : ℕ) (a : A) (b : B) → i < length xs → P (slice_index_or (map f xs) i a) (slice_index_or (map g ys) i b)
at_place f g P [] ys each long i a b within = absurd (omega (arith, within))
at_place f g P (x ∷ xs) [] each long i a b within = absurd (omega (arith, long))
at_place f g P (x ∷ xs) (y ∷ ys) each long zero a b within = each 0 x (omega arith)
at_place f g P (x ∷ xs) (y ∷ ys) each long (suc i) a b within =
    at_place f g P xs ys (λ k d less. each (suc k) d (omega (arith, less))) (omega (arith, long)) i a b (omega (arith, within))

-- lists with the same image at each place have the same images
pub same_maps : {X C : Type 0} (f : X → C) (xs ys : List X) → ((i : ℕ) (d : X) → i < length xs → f (slice_index_or ys i d) ≡ f (slice_index_or xs i d))
    → length ys ≡ length xs → map f ys ≡ map f xs
same_maps f [] [] each long = refl
same_maps f [] (y ∷ ys) each long = absurd (omega (arith, long))
same_maps f (x ∷ xs) [] each long = absurd (omega (arith, long))
same_maps f (x ∷ xs) (y ∷ ys) each long =
    ap (λ c. c ∷ map f ys) (each 0 x (omega arith))
    ∙ ap (λ l. f x ∷ l) (same_maps f xs ys (λ k d less. each (suc k) d (omega (arith, less))) (omega (arith, long)))

-- a slice that is the whole of a vector
pub whole_slice : {X : Type 0} (items new : List X) (len : ℕ) → len ≡ length items → length new ≡ length items → take len (new ++ drop (length new) items) ≡ new
whole_slice items new len is same =
    ap (λ l. take len (new ++ l)) (drop_all (length new) items (omega (arith, same))) ∙ ap (take len) (append-nil new)
    ∙ take_all len new (omega (arith, is, same))

-- the image of an image
pub map_made : {A B C : Type 0} (f : A → B) (h : B → C) (xs : List A) → map h (map f xs) ≡ map (λ x. h (f x)) xs
map_made f h [] = refl
map_made f h (x ∷ xs) = ap (λ l. h (f x) ∷ l) (map_made f h xs)

-- the element at a place of a list's image
pub made_at : {A B : Type 0} (f : A → B) (xs : List A) (i : ℕ) (d : A) → slice_index_or (map f xs) i (f d) ≡ f (slice_index_or xs i d)
made_at f [] i d = refl
made_at f (x ∷ xs) zero d = refl
made_at f (x ∷ xs) (suc i) d = made_at f xs i d
