-- Names that lack memory alone have no other fault.
use Rattle.std.proofs.Common.{◌≡◌, ◌∷◌, [], ℕ, Bool, true, false, List, Option, Some, None, refl, sym, ap}
use Rattle.std.specs.Prelude.{unwrap_or}
use Rattle.std.specs.Result.{result_err}
use Rattle.tape_types.specs.Names.{Names, first_fault, names_fault, symbol_named}
use Rattle.tape_types.specs.declared.listing_fault.ListingFault.{ListingFault}
use Rattle.tape_types.specs.declared.listing_fault.ListingFault.TheVariants.{Empty, TooMany, Repeated, OutOfMemory}
use Rattle.tape_types.specs.Header.{all_named, listing_by_fault, listing_of, name_texts, names_listing, participant_named}
use Rattle.tape_types.specs.declared.header_fault.HeaderFault.TheVariants.{BadListing}

-- out of memory is no fault of the names
never_memory : (a b c : Bool) → first_fault ((a, Empty) ∷ (b, TooMany) ∷ (c, Repeated) ∷ []) ≡ Some OutOfMemory → ⊥
never_memory true b c is = cc is
never_memory false true c is = cc is
never_memory false false true is = cc is
never_memory false false false is = cc is

-- names that lacked memory alone have no fault
pub memory_alone : (separator : ℕ) (first second : List ℕ)
    → BadListing OutOfMemory ≡ unwrap_or (result_err (names_listing separator first second)) (BadListing OutOfMemory)
    → result_err (names_listing separator first second) ≡ None
unfolding names_listing
memory_alone separator first second is = of_lists (all_named symbol_named (name_texts separator first)) (all_named participant_named (name_texts separator second)) is
  where
    by_fault : (fault : Option ListingFault) (names : Names) → (fault ≡ Some OutOfMemory → ⊥)
        → BadListing OutOfMemory ≡ unwrap_or (result_err (listing_by_fault fault names)) (BadListing OutOfMemory)
        → result_err (listing_by_fault fault names) ≡ None
    by_fault None names never told = refl
    by_fault (Some fault) names never told = let same : OutOfMemory ≡ fault = cc told in absurd (never (ap Some (sym same)))

    of_lists : (symbols : Option (List (List ℕ))) (participants : Option (List ℕ))
        → BadListing OutOfMemory ≡ unwrap_or (result_err (listing_of symbols participants)) (BadListing OutOfMemory)
        → result_err (listing_of symbols participants) ≡ None
    of_lists None participants told = cc told
    of_lists (Some symbols) None told = cc told
    of_lists (Some symbols) (Some participants) told =
        by_fault (names_fault symbols participants) _ (never_memory _ _ _) told
