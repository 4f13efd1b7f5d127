-- The first names of a text decide its listing: a listing has fewer.
use Rattle.std.proofs.Common.{◌≡◌, ◌<◌, ◌≤◌, ◌==◌, ◌+◌, ◌↔◌, ◌∷◌, ◌++◌, ◌||◌, [], ℕ, List, Bool, true, false, Option, Some, None, Result, Ok, Err, IsOk, OnOk, OnErr, refl, ap, sym, append_assoc, arith, inl, inr, length, nat_lt, take}
use Rattle.std.proofs.lemmas.Bool.{cases_Bool}
use Rattle.std.proofs.lemmas.Bool.Decides.{nat_tests}
use Rattle.std.proofs.lemmas.List.{append-nil, length-take-le, take_all, take_at}
use Rattle.std.specs.Option.{option_map}
use Rattle.arrayvec.specs.ArrayVec.{ArrayVec}
use Rattle.tape_types.specs.Header.{all_named, listing_by_fault, listing_of, name_texts, names_listing, participant_named, pieces_of}
use Rattle.tape_types.specs.Names.{Names, first_fault, is_nil, symbol_named}
use Rattle.tape_types.specs.Ranges.{PARTICIPANTS_MOST, SYMBOLS_MOST}
use Rattle.tape_types.specs.declared.listing_fault.ListingFault.TheVariants.{Empty, Repeated, TooMany}

-- how many names of a text are kept
abbrev KEPT : ℕ
KEPT = 4097

-- ## Name by name

-- the first of the names so far and of all that the texts left name
abbrev pub kept_with : {A : Type 0} → (List ℕ → Option A) → List A → List (List ℕ) → Option (List A)
kept_with named names texts = option_map (λ more. take KEPT (names ++ more)) (all_named named texts)

-- one more text, whose name is kept
kept_with-more : {A : Type 0} (named : List ℕ → Option A) (names new : List A) (text : List ℕ) (texts : List (List ℕ)) (name : A)
    → Some name ≡ named text → new ≡ names ++ name ∷ [] → kept_with named new texts ≡ kept_with named names (text ∷ texts)
kept_with-more {A} named names new text texts name is pushed = rw (← is, pushed) (shifted (all_named named texts))
  where
    shifted : (more : Option (List A))
        → option_map (λ m. take KEPT ((names ++ name ∷ []) ++ m)) more ≡ option_map (λ m. take KEPT (names ++ m)) (option_map (λ m. name ∷ m) more)
    shifted None = refl
    shifted (Some m) = ap (λ (l : List A). Some (take KEPT l)) (append_assoc names (name ∷ []) m)

-- one more text, for whose name there is no room
kept_with-full : {A : Type 0} (named : List ℕ → Option A) (names : List A) (text : List ℕ) (texts : List (List ℕ)) (name : A)
    → Some name ≡ named text → length names ≡ KEPT → kept_with named names texts ≡ kept_with named names (text ∷ texts)
kept_with-full {A} named names text texts name is full = rw (← is) (shifted (all_named named texts))
  where
    shifted : (more : Option (List A))
        → option_map (λ m. take KEPT (names ++ m)) more ≡ option_map (λ m. take KEPT (names ++ m)) (option_map (λ m. name ∷ m) more)
    shifted None = refl
    shifted (Some m) = rw (take_at names m KEPT full, take_at names (name ∷ m) KEPT full) refl

-- one more text, whose name is kept if there is room
pub kept_with-next : {A E : Type 0} (named : List ℕ → Option A) (names new : ArrayVec A) (text : List ℕ) (texts : List (List ℕ)) (name : A)
    (tried : Result (Unit {0}) E) → Some name ≡ named text → OnOk tried (new.items ≡ names.items ++ name ∷ []) → OnErr tried (new ≡ names)
    → OnErr tried (length names.items ≡ KEPT) → kept_with named new.items texts ≡ kept_with named names.items (text ∷ texts)
kept_with-next named names new text texts name (Ok done) is pushed same full = kept_with-more named names.items new.items text texts name is pushed
kept_with-next named names new text texts name (Err refused) is pushed same full =
    rw same (kept_with-full named names.items text texts name is full)

-- there are no more names than have room
pub few_kept : {A E : Type 0} (names new : ArrayVec A) (tried : Result (Unit {0}) E) → length names.items ≤ KEPT → IsOk tried ↔ (length names.items < KEPT)
    → OnOk tried (length new.items ≡ length names.items + 1) → OnErr tried (new ≡ names) → length new.items ≤ KEPT
few_kept names new (Ok done) few room more same = let low = room.0 refl in omega (arith, low, more)
few_kept names new (Err refused) few room more same = rw same few

-- a text that names nothing
pub kept_with-none : {A : Type 0} (named : List ℕ → Option A) (names : List A) (text : List ℕ) (texts : List (List ℕ))
    → None ≡ named text → kept_with named names (text ∷ texts) ≡ None
kept_with-none named names text texts none = rw (← none) refl

-- no text is left
pub kept_with-all : {A : Type 0} (names : List A) → length names ≤ KEPT → take KEPT (names ++ []) ≡ names
kept_with-all names few = rw (append-nil names) (take_all KEPT names few)

-- a text that has bytes has the names of its pieces
pub name_texts-some : (separator : ℕ) (text : List ℕ) → false ≡ (length text == 0) → name_texts separator text ≡ pieces_of separator text
name_texts-some separator [] some = cc
name_texts-some separator (byte ∷ bytes) some = refl

-- ## The listing

-- the first names of some are some
is_nil-kept : {A : Type 0} (names : List A) → is_nil (take KEPT names) ≡ is_nil names
is_nil-kept [] = refl
is_nil-kept (name ∷ names) = refl

-- more names than are kept are more than any listing has, and so are those that are kept
many_kept : {A : Type 0} (names : List A) (most : ℕ) → most < KEPT → nat_lt KEPT (length names) ≡ true
    → (nat_lt most (length (take KEPT names)) ≡ true) × (nat_lt most (length names) ≡ true)
many_kept names most low many =
    let more : KEPT < length names = grind (arith, nat_tests, many) in
    let kept : length (take KEPT names) ≡ KEPT = length-take-le KEPT names (omega (arith, more)) in
    (rw kept (grind (arith, nat_tests, low)), grind (arith, nat_tests, low, more))

-- either test is true
or_right : (b : Bool) → (b || true) ≡ true
or_right true = refl
or_right false = refl

-- with too many names the fault does not depend on which they are
too_many : (empty many many_too repeats repeats_too : Bool) (names names_too : Names) → many ≡ true → many_too ≡ true
    → listing_by_fault (first_fault ((empty, Empty) ∷ (many, TooMany) ∷ (repeats, Repeated) ∷ [])) names
    ≡ listing_by_fault (first_fault ((empty, Empty) ∷ (many_too, TooMany) ∷ (repeats_too, Repeated) ∷ [])) names_too
too_many true many many_too repeats repeats_too names names_too is is_too = refl
too_many false many many_too repeats repeats_too names names_too is is_too = rw (is, is_too) refl

-- the first names make the listing of all
listing_kept : (symbols : Option (List (List ℕ))) (participants : Option (List ℕ))
    → listing_of (option_map (take KEPT) symbols) (option_map (take KEPT) participants) ≡ listing_of symbols participants
listing_kept None participants = refl
listing_kept (Some symbols) None = refl
listing_kept (Some symbols) (Some participants) = elim (cases_Bool (nat_lt KEPT (length symbols))) [
  | inl many ↦
      let both = many_kept symbols SYMBOLS_MOST (omega arith) many in
      rw (is_nil-kept symbols, is_nil-kept participants) (too_many _ _ _ _ _ _ _ (rw both.0 refl) (rw both.1 refl))
  | inr few ↦ elim (cases_Bool (nat_lt KEPT (length participants))) [
    | inl many ↦
        let both = many_kept participants PARTICIPANTS_MOST (omega arith) many in
        rw (is_nil-kept symbols, is_nil-kept participants) (too_many _ _ _ _ _ _ _ (rw both.0 (or_right _)) (rw both.1 (or_right _)))
    | inr few_too ↦
        rw (take_all KEPT symbols (grind (arith, nat_tests, few)), take_all KEPT participants (grind (arith, nat_tests, few_too))) refl
  ]
]

-- the first names of two texts make their listing
pub names_kept : (separator : ℕ) (first second : List ℕ) (symbols : Option (List (List ℕ))) (participants : Option (List ℕ))
    → symbols ≡ option_map (take KEPT) (all_named symbol_named (name_texts separator first))
    → participants ≡ option_map (take KEPT) (all_named participant_named (name_texts separator second))
    → names_listing separator first second ≡ listing_of symbols participants
unfolding names_listing
names_kept separator first second symbols participants is is_too =
    rw (is, is_too) (sym (listing_kept (all_named symbol_named (name_texts separator first)) (all_named participant_named (name_texts separator second))))
