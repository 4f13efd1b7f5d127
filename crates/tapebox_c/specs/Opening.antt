-- Defines how a tape and a subscriber are made from another language's values.
use Rattle.std.specs.Prelude.{◌≡◌, ◌⊎◌, ◌==◌, ◌&&◌, ℕ, nat_le, Bool, Option, None, Some, Result, Ok, Err, if◌then◌else◌}
use Rattle.tape_types.specs.declared.header_fault.HeaderFault.{HeaderFault}
use Rattle.tape_types.specs.declared.header_fault.HeaderFault.TheVariants.{BadListing}
use Rattle.sale_matrix.specs.declared.matrix.Matrix.{Matrix}
use Rattle.sale_matrix.specs.declared.matrix.Matrix.TheVariants.{One, Two}
use Rattle.subscriber.specs.Subscribers.{SubscriberState, new_subscriber}
use Rattle.tape_core.specs.Tape.{TapeState, empty_tape}
use Rattle.tape_core.specs.declared.tape_fault.TapeFault.TheVariants.{BadLimit, OutOfMemory as NoRoom}
use Rattle.tape_types.specs.Names.{Names}
use Rattle.tape_types.specs.Ranges.{TAPE_MOST}
use Rattle.tape_types.specs.declared.listing_fault.ListingFault.TheVariants.{OutOfMemory}
use Rattle.tapebox_c.specs.declared.fault.CallFault.{CallFault}
use Rattle.tapebox_c.specs.declared.fault.CallFault.TheVariants.{BadMatrix, NoListing, NotMade}

-- the matrix of a number
abbrev pub matrix_numbered : ℕ → Option Matrix
matrix_numbered n = if n == 1 then Some One else if n == 2 then Some Two else None

-- whether a tape can have this limit
abbrev pub is_limit : ℕ → Bool
is_limit limit = nat_le 1 limit && nat_le limit TAPE_MOST

-- what is made of a listing, or its fault
abbrev pub of_listing : {X : Type 0} → (Names → X) → Result Names HeaderFault → Result X CallFault
of_listing make (Err fault) = Err (NoListing fault)
of_listing make (Ok names) = Ok (make names)

-- what is made by a matrix, a limit and a listing, or the first thing wrong with them
abbrev pub opened : {X : Type 0} → (Matrix → Names → X) → Option Matrix → ℕ → Result Names HeaderFault → Result X CallFault
opened make None limit listing = Err BadMatrix
opened make (Some matrix) limit listing = if is_limit limit then of_listing (make matrix) listing else Err (NotMade BadLimit)

-- an empty open tape, or the first thing wrong with what it is to be made from
abbrev pub tape_opened : Option Matrix → ℕ → Result Names HeaderFault → Result TapeState CallFault
tape_opened matrix limit listing = opened (λ m names. empty_tape names limit m) matrix limit listing

-- a subscriber that holds nothing, or the first thing wrong
abbrev pub subscriber_opened : Option Matrix → ℕ → ℕ → Result Names HeaderFault → Result SubscriberState CallFault
subscriber_opened matrix limit session listing = opened (λ m names. new_subscriber names limit session m) matrix limit listing

-- a fault is the one that is due, or out of memory if none is
abbrev pub IsFaultOf : {X : Type 0} → CallFault → Result X CallFault → Type 0
IsFaultOf fault (Err due) = fault ≡ due
IsFaultOf fault (Ok made) = (fault ≡ NoListing (BadListing OutOfMemory)) ⊎ (fault ≡ NotMade NoRoom)
