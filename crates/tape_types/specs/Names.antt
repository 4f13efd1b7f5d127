-- The listing of a day: two lists of distinct names, in order.
use Rattle.std.specs.Prelude.{ℕ, ◌-◌, Bool, cond, true, false, ◌||◌, ◌&&◌, nat_le, nat_lt, nat_eq, List, [], ◌∷◌, ◌++◌, length, replicate, Option, Some, None, if◌then◌else◌}
use Rattle.std.specs.List.{list_all, list_any}
use Rattle.std.specs.Str.{bytes_eq}
use Rattle.tape_types.specs.declared.listing_fault.ListingFault.{ListingFault}
use Rattle.tape_types.specs.declared.listing_fault.ListingFault.TheVariants.{Empty, TooMany, Repeated}
use Rattle.tape_types.specs.Ranges.{SYMBOLS_MOST, PARTICIPANTS_MOST, is_name_byte}

-- a listing as contracts see it
pub record Names : Type 0 where
  pub symbols : List (List ℕ)
  pub participants : List ℕ

-- `==` of two symbols
abbrev pub symbol_eq : List ℕ → List ℕ → Bool
symbol_eq a b = bytes_eq a b

-- a symbol by its name: one to eight bytes that may stand in one, with spaces to the end
abbrev pub symbol_named : List ℕ → Option (List ℕ)
symbol_named name =
    if nat_lt 0 (length name) && (nat_le (length name) 8 && list_all is_name_byte name)
    then Some (name ++ replicate (8 - length name) 32)
    else None

-- some element equals one before it
abbrev pub has_repeat : {A : Type 0} → (A → A → Bool) → List A → Bool
has_repeat eq [] = false
has_repeat eq (x ∷ xs) = list_any (λ y. eq y x) xs || has_repeat eq xs

-- the first fault whose test holds
abbrev pub first_fault : {F : Type 0} → List (Bool × F) → Option F
first_fault [] = None
first_fault (c ∷ cases) = cond c.0 (Some c.1) (first_fault cases)

-- whether a list is empty
abbrev pub is_nil : {A : Type 0} → List A → Bool
is_nil [] = true
is_nil (x ∷ xs) = false

-- the fault of two lists of names, out of memory aside
abbrev pub names_fault : List (List ℕ) → List ℕ → Option ListingFault
names_fault symbols participants = first_fault (
    (is_nil symbols || is_nil participants, Empty) ∷
    (nat_lt SYMBOLS_MOST (length symbols) || nat_lt PARTICIPANTS_MOST (length participants), TooMany) ∷
    (has_repeat symbol_eq symbols || has_repeat nat_eq participants, Repeated) ∷ [])
