-- Shows that an input read up to one byte beyond the limit is read whole, or is too large.
use Rattle.std.proofs.Common.{◌≡◌, ◌≤◌, ◌<◌, ◌+◌, ◌==◌, [], ℕ, List, Option, Some, None, IfSome, refl, arith, length, length-take, take, take_all}
use Rattle.std.proofs.Common.{if◌then◌else◌}
use Rattle.std.specs.Io.KnownBytes.{prepend_known}
use Rattle.std.specs.Option.{option_map}
use Rattle.sale_matrix.specs.declared.matrix.Matrix.{Matrix}
use Rattle.batch.specs.Batch.{INPUT_MOST}
use Rattle.batch.specs.BatchEnds.{EndsAt}
use Rattle.batch.specs.Ends.{end_of_reading}
use Rattle.batch.specs.Reading.{IsReadEnd, ReadsBatch}
use Rattle.batch.specs.declared.batch.TheConstants.{READ_PIECE}
use Rattle.batch.specs.declared.read_end.ReadEnd.{ReadEnd}
use Rattle.batch.specs.declared.read_end.ReadEnd.TheVariants.{TooLarge, ReadFault, OutOfMemory}
use Rattle.batch.specs.declared.reading.ReadInput.{ReadInput}

-- an input that is at most as long as the limit is its front up to a bound beyond it
whole : (most : ℕ) (x : List ℕ) → INPUT_MOST < most → length (take most x) ≤ INPUT_MOST → take most x ≡ x
whole most x beyond fits =
    let short : length x ≤ most = omega (arith, length-take most x, beyond, fits) in
    take_all most x short

-- what a buffered and limited reader has left before its first read
pub left_known : (most : ℕ) (known inner : Option (List ℕ)) (buffer : List ℕ) (capacity limit : ℕ) → capacity ≡ READ_PIECE → buffer ≡ [] → limit ≡ most
    → inner ≡ known → (if capacity == 0 then None else prepend_known buffer (option_map (take limit) inner)) ≡ option_map (take most) known
left_known most known inner buffer capacity limit room none is same = rw (room, none, is, same) (at known)
  where
    at : (known : Option (List ℕ)) → prepend_known [] (option_map (take most) known) ≡ option_map (take most) known
    at None = refl
    at (Some x) = refl

-- what was read of all that was left was read of the input
pub read_whole : (matrix : Matrix) (most : ℕ) (known left : Option (List ℕ)) (read : ReadInput) → left ≡ option_map (take most) known → INPUT_MOST < most
    → IfSome left (λ bytes. 0 + length bytes ≤ INPUT_MOST) → IfSome left (ReadsBatch matrix read)
    → IfSome known (λ input. (length input ≤ INPUT_MOST) × ReadsBatch matrix read input)
read_whole matrix most None left read is beyond fits reads = tt
read_whole matrix most (Some x) left read is beyond fits reads =
    let known : 0 + length (take most x) ≤ INPUT_MOST = rw is at fits in
    let fits_now : length (take most x) ≤ INPUT_MOST = omega (arith, known) in
    let same = whole most x beyond fits_now in
    (rw same at fits_now, rw same at (rw is at reads))

-- the end of reading is right for the input
pub ends_whole : (most : ℕ) (known left : Option (List ℕ)) (end : ReadEnd) → left ≡ option_map (take most) known
    → IfSome left (λ bytes. IsReadEnd end (0 + length bytes)) → IfSome known (EndsAt (end_of_reading end))
ends_whole most None left end is ends = tt
ends_whole most (Some x) left TooLarge is ends =
    let over : INPUT_MOST < 0 + length (take most x) = rw is at ends in
    omega (arith, over, length-take most x)
ends_whole most (Some x) left ReadFault is ends = tt
ends_whole most (Some x) left OutOfMemory is ends = tt
