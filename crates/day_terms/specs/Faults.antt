-- What can be wrong with a day's file, and how a result relates to what the file says.
use Rattle.std.specs.Prelude.{◌≡◌, ℕ, List, IfSome, Option, Some, None, Result, Ok, Err, string_bytes}
use Rattle.tape_types.specs.declared.listing_fault.ListingFault.{ListingFault}
use Rattle.day_terms.specs.declared.day_fault.DayFault.{DayFault}
use Rattle.day_terms.specs.declared.day_fault.DayFault.TheVariants as told
use Rattle.day_terms.specs.declared.day_key.DayKey.{DayKey}
use Rattle.day_terms.specs.declared.kind.ValueKind.{ValueKind}
use Rattle.day_terms.specs.declared.place.FilePlace.{FilePlace}

-- what can be wrong with a day's file
pub data Fault : Type 0 where
  syntax : Fault
  unknown : List ℕ → Fault
  missing : DayKey → Fault
  other_kind : FilePlace → ValueKind → Fault
  out_of_range : FilePlace → Fault
  empty : DayKey → Fault
  uneven : Fault
  port_twice : Fault
  port_past_last : Fault
  names : ListingFault → Fault
  no_follower : ℕ → ℕ → Fault

infixl 10 ◌>>=◌
abbrev pub ◌>>=◌ : {A B : Type 0} → Result A Fault → (A → Result B Fault) → Result B Fault
(Ok value) >>= next = next value
(Err fault) >>= next = Err fault

-- the fault that is returned, or none if memory ran out
abbrev pub fault_of : DayFault → Option Fault
fault_of (told.Syntax fault) = Some syntax
fault_of (told.Unknown name) = Some (unknown (string_bytes name))
fault_of (told.Missing key) = Some (missing key)
fault_of (told.OtherKind place kind) = Some (other_kind place kind)
fault_of (told.OutOfRange place) = Some (out_of_range place)
fault_of (told.Empty key) = Some (empty key)
fault_of told.Uneven = Some uneven
fault_of told.PortTwice = Some port_twice
fault_of told.PortPastLast = Some port_past_last
fault_of (told.Names fault) = Some (names fault)
fault_of (told.NoFollower follower places) = Some (no_follower follower places)
fault_of told.OutOfMemory = None

-- the fault that is returned is the one that was found; memory can run out at any time
abbrev pub Fails : {A : Type 0} → DayFault → Result A Fault → Type 0
Fails fault found = IfSome (fault_of fault) (λ told. found ≡ Err told)

-- what a function returned, seen by view, is what the file says, unless memory ran out
abbrev pub Gives : {A B : Type 0} → (A → B) → Result A DayFault → Result B Fault → Type 0
Gives view (Ok value) says = says ≡ Ok (view value)
Gives view (Err fault) says = Fails fault says
