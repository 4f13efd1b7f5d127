-- Facts about searching, filtering and mapping lists.
use Rattle.std.proofs.Common.{◌≡◌, Bool, true, false, cond, List, [], ◌∷◌, ◌++◌, Option, Some, None, map, filter, refl, sym, ap, subst, ◌∙◌}
use Rattle.std.specs.Bool.{⊤}
use Rattle.std.specs.List.{AllByRecursion, AllZip, find, filter_map, cons_option}
use Rattle.std.specs.Option.{option_map}
use Rattle.std.proofs.lemmas.Bool.{true≢false}
use Rattle.std.proofs.lemmas.Option.{same_Some, none-some}

-- ## What holds for each element

-- what follows from two facts about each element holds for each
pub all-both : {X : Type 0} (P Q S : X → Type 0) → ((x : X) → P x → Q x → S x) → (xs : List X) → AllByRecursion P xs → AllByRecursion Q xs
    → AllByRecursion S xs
all-both P Q S step [] ps qs = tt
all-both P Q S step (x ∷ xs) ps qs = (step x ps.0 qs.0, all-both P Q S step xs ps.1 qs.1)

-- what follows from a fact about each element holds for each
pub all-weaker : {X : Type 0} (P S : X → Type 0) → ((x : X) → P x → S x) → (xs : List X) → AllByRecursion P xs → AllByRecursion S xs
all-weaker P S step [] ps = tt
all-weaker P S step (x ∷ xs) ps = (step x ps.0, all-weaker P S step xs ps.1)

-- what holds for each element and for one more holds for the longer list
pub all-push : {X : Type 0} (P : X → Type 0) (xs : List X) (x : X) → AllByRecursion P xs → P x → AllByRecursion P (xs ++ x ∷ [])
all-push P [] x ps p = (p, tt)
all-push P (y ∷ ys) x ps p = (ps.0, all-push P ys x ps.1 p)

-- what holds for each element holds for those that a filter keeps
pub all-filter : {X : Type 0} (P : X → Type 0) (q : X → Bool) (xs : List X) → AllByRecursion P xs → AllByRecursion P (filter q xs)
all-filter P q [] ps = tt
all-filter P q (x ∷ xs) ps = elim (q x) as (λ b. AllByRecursion P (cond b (x ∷ filter q xs) (filter q xs))) [
  | true ↦ (ps.0, all-filter P q xs ps.1)
  | false ↦ all-filter P q xs ps.1
]

-- what holds for each image holds for each element's image
pub all-unmap : {X Y : Type 0} (P : Y → Type 0) (g : X → Y) (xs : List X) → AllByRecursion P (map g xs) → AllByRecursion (λ x. P (g x)) xs
all-unmap P g [] ps = tt
all-unmap P g (x ∷ xs) ps = (ps.0, all-unmap P g xs ps.1)

-- what holds for each element holds for the one that a search finds
pub find-holds : {X : Type 0} (P : X → Type 0) (p : X → Bool) (x : X) (xs : List X) → AllByRecursion P xs → find p xs ≡ Some x → P x
find-holds P p x [] all found = absurd (none-some x found)
find-holds {X = X} P p x (y ∷ ys) all found = by (p y) (find-holds P p x ys all.1) found
  where
    by : (b : Bool) → (find p ys ≡ Some x → P x) → cond b (Some y) (find p ys) ≡ Some x → P x
    by true rest is = subst P (same_Some y x is) all.0
    by false rest is = rest is

-- ## A search

-- a search also finds its element among those that a filter keeps, if the filter keeps it
pub find-filter : {X : Type 0} (p q : X → Bool) (x : X) (xs : List X) → find p xs ≡ Some x → q x ≡ true → find p (filter q xs) ≡ Some x
find-filter p q x [] found kept = found
find-filter {X = X} p q x (y ∷ ys) found kept = by (p y) (q y) refl refl (λ later. find-filter p q x ys later kept) found
  where
    by : (b c : Bool) → p y ≡ b → q y ≡ c → (find p ys ≡ Some x → find p (filter q ys) ≡ Some x) → cond b (Some y) (find p ys) ≡ Some x
        → find p (cond c (y ∷ filter q ys) (filter q ys)) ≡ Some x
    by true true passes keeps rest is = ap (λ d. cond d (Some y) (find p (filter q ys))) passes ∙ is
    by true false passes drops rest is = absurd (true≢false (sym kept ∙ ap q (sym (same_Some y x is)) ∙ drops))
    by false true fails keeps rest is = ap (λ d. cond d (Some y) (find p (filter q ys))) fails ∙ rest is
    by false false fails drops rest is = rest is

-- a search among images is a search by their tests
pub find-map : {X Y : Type 0} (p : Y → Bool) (g : X → Y) (xs : List X) → find p (map g xs) ≡ option_map g (find (λ x. p (g x)) xs)
find-map p g [] = refl
find-map p g (x ∷ xs) = elim (p (g x)) as
    (λ b. cond b (Some (g x)) (find p (map g xs)) ≡ option_map g (cond b (Some x) (find (λ y. p (g y)) xs))) [
      | true ↦ refl
      | false ↦ find-map p g xs
    ]

-- ## What a function returns for each element

-- a function returns for the elements that a filter keeps what another returns for all, if that returns nothing for those
-- dropped
pub filter_map-filter : {X Y : Type 0} (h k : X → Option Y) (q : X → Bool) (xs : List X)
    → AllByRecursion (λ x. cond (q x) (h x) None ≡ k x) xs → filter_map h (filter q xs) ≡ filter_map k xs
filter_map-filter h k q [] alike = refl
filter_map-filter {X = X} {Y = Y} h k q (x ∷ xs) alike = by (q x) alike.0 (filter_map-filter h k q xs alike.1)
  where
    by : (b : Bool) → cond b (h x) None ≡ k x → filter_map h (filter q xs) ≡ filter_map k xs
        → filter_map h (cond b (x ∷ filter q xs) (filter q xs)) ≡ cons_option (k x) (filter_map k xs)
    by true here rest = λ i. cons_option (here i) (rest i)
    by false here rest = λ i. cons_option (here i) (rest i)

-- two functions that return the same for each pair of images return the same for all
pub filter_map-alike : {X A B Y : Type 0} (h : A → Option Y) (k : B → Option Y) (f : X → A) (g : X → B) (xs : List X)
    → AllByRecursion (λ x. h (f x) ≡ k (g x)) xs → filter_map h (map f xs) ≡ filter_map k (map g xs)
filter_map-alike h k f g [] alike = refl
filter_map-alike h k f g (x ∷ xs) alike = λ i. cons_option (alike.0 i) (filter_map-alike h k f g xs alike.1 i)

-- ## Two lists, element by element

-- two values are both missing, or both present and related
abbrev pub BothOrNone : {A B : Type 0} → (A → B → Type 0) → Option A → Option B → Type 0
BothOrNone R None None = ⊤
BothOrNone R None (Some b) = ⊥
BothOrNone R (Some a) None = ⊥
BothOrNone R (Some a) (Some b) = R a b

-- if what two functions return for each pair of images is related, so is what they return for all
pub filter_map-zip : {X A B C D : Type 0} (R : C → D → Type 0) (h : A → Option C) (k : B → Option D) (f : X → A) (g : X → B) (xs : List X)
    → AllByRecursion (λ x. BothOrNone R (h (f x)) (k (g x))) xs → AllZip R (filter_map h (map f xs)) (filter_map k (map g xs))
filter_map-zip R h k f g [] alike = tt
filter_map-zip {C = C} {D = D} R h k f g (x ∷ xs) alike =
    by (h (f x)) (k (g x)) (filter_map h (map f xs)) (filter_map k (map g xs)) alike.0 (filter_map-zip R h k f g xs alike.1)
  where
    by : (c : Option C) (d : Option D) (cs : List C) (ds : List D) → BothOrNone R c d → AllZip R cs ds → AllZip R (cons_option c cs) (cons_option d ds)
    by None None cs ds here rest = rest
    by None (Some d) cs ds here rest = absurd here
    by (Some c) None cs ds here rest = absurd here
    by (Some c) (Some d) cs ds here rest = (here, rest)

-- the images of related elements are related
pub map-zip : {A B C D : Type 0} (R : A → B → Type 0) (S : C → D → Type 0) (f : A → C) (g : B → D) → ((a : A) (b : B) → R a b → S (f a) (g b))
    → (xs : List A) (ys : List B) → AllZip R xs ys → AllZip S (map f xs) (map g ys)
map-zip R S f g step [] [] related = tt
map-zip R S f g step [] (y ∷ ys) related = absurd related
map-zip R S f g step (x ∷ xs) [] related = absurd related
map-zip R S f g step (x ∷ xs) (y ∷ ys) related = (step x y related.0, map-zip R S f g step xs ys related.1)

-- tests that agree on related elements keep related elements
pub filter-zip : {A B : Type 0} (R : A → B → Type 0) (p : A → Bool) (q : B → Bool) → ((a : A) (b : B) → R a b → p a ≡ q b)
    → (xs : List A) (ys : List B) → AllZip R xs ys → AllZip R (filter p xs) (filter q ys)
filter-zip R p q agree [] [] related = tt
filter-zip R p q agree [] (y ∷ ys) related = absurd related
filter-zip R p q agree (x ∷ xs) [] related = absurd related
filter-zip R p q agree (x ∷ xs) (y ∷ ys) related =
    subst (λ c. AllZip R (filter p (x ∷ xs)) (cond c (y ∷ filter q ys) (filter q ys))) (agree x y related.0)
    (elim (p x) as (λ b. AllZip R (cond b (x ∷ filter p xs) (filter p xs)) (cond b (y ∷ filter q ys) (filter q ys))) [
      | true ↦ (related.0, filter-zip R p q agree xs ys related.1)
      | false ↦ filter-zip R p q agree xs ys related.1
    ])
