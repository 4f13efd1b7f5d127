-- Shows that the first two lines taken of an input are its header.
use Rattle.std.proofs.Common.{◌≡◌, ◌+◌, ◌∷◌, ◌∙◌, [], ℕ, List, Option, Some, None, IfSome, Bool, true, false, Ok, refl, sym, ap, length, drop, slice_index_or}
use Rattle.std.proofs.Common.{if◌then◌else◌}
use Rattle.std.specs.Io.KnownBytes.{IsAtEnd}
use Rattle.tape_types.specs.Names.{Names}
use Rattle.sale_matrix.specs.declared.matrix.Matrix.{Matrix}
use Rattle.batch.specs.Batch.{batch_tape, input_listing, message_lines}
use Rattle.batch.specs.Day.{HasAnswered}
use Rattle.batch.specs.Header.{header_listing}
use Rattle.batch.specs.Input.{TakesLines}
use Rattle.batch.specs.Lines.{lines_of}
use Rattle.batch.specs.Reading.{ReadsBatch}
use Rattle.batch.specs.declared.day.BatchDay.{BatchDay}
use Rattle.batch.specs.declared.reading.ReadInput.TheVariants.{Answered}

-- the next line was taken from known bytes, or an empty one if there was none
record LineTaken (bytes : List ℕ) (left : Option (List ℕ)) (taken taken_now : ℕ) (line : List ℕ) : Type 0 where
  rest : List ℕ
  known : left ≡ Some rest
  is : line ≡ slice_index_or (lines_of bytes) 0 []
  behind : lines_of rest ≡ drop 1 (lines_of bytes)
  count : taken_now + length rest ≡ taken + length bytes

-- a line that was taken from known bytes is their first, and an empty one stands for it at their end
line_taken : (x : List ℕ) (b : Option (List ℕ)) (t t1 : ℕ) (some : Bool) (line : List ℕ)
    → TakesLines (Some x) b t t1 (if some then line ∷ [] else []) → (some ≡ false → IsAtEnd (Some x) × (line ≡ [])) → LineTaken x b t t1 line
line_taken x None t t1 some line took none = absurd took
line_taken x (Some y) t t1 true line took none = record {
  rest = y;
  known = refl;
  is = rw took.0 refl;
  behind = rw took.0 refl;
  count = took.1;
}
line_taken x (Some y) t t1 false line took none =
    let end = none refl in
    record {
      rest = y;
      known = refl;
      is = rw end.0 end.1;
      behind = sym took.0 ∙ rw end.0 refl;
      count = took.1;
    }

-- both lines of the header were taken from known bytes
pub record HeaderTaken (left : Option (List ℕ)) (taken taken_now : ℕ) (first second bytes : List ℕ) : Type 0 where
  pub rest : List ℕ
  pub known : left ≡ Some rest
  pub listing : input_listing bytes ≡ header_listing first second
  pub lines : message_lines bytes ≡ lines_of rest
  pub count : taken_now + length rest ≡ taken + length bytes

-- the second line is the first of those behind the first
second_line : (lines : List (List ℕ)) → slice_index_or lines 1 [] ≡ slice_index_or (drop 1 lines) 0 []
second_line [] = refl
second_line (first ∷ lines) = refl

-- the lines behind the second are those behind the first of the rest
other_lines : (lines : List (List ℕ)) → drop 2 lines ≡ drop 1 (drop 1 lines)
other_lines [] = refl
other_lines (first ∷ lines) = refl

-- two lines that were taken one after the other from known bytes are the header
pub header_taken : (a b c : Option (List ℕ)) (t t1 t2 : ℕ) (some1 some2 : Bool) (first second : List ℕ)
    → TakesLines a b t t1 (if some1 then first ∷ [] else []) → (some1 ≡ false → IsAtEnd a × (first ≡ []))
    → TakesLines b c t1 t2 (if some2 then second ∷ [] else []) → (some2 ≡ false → IsAtEnd b × (second ≡ []))
    → IfSome a (HeaderTaken c t t2 first second)
header_taken None b c t t1 t2 some1 some2 first second took1 none1 took2 none2 = tt
header_taken (Some x) None c t t1 t2 some1 some2 first second took1 none1 took2 none2 = absurd took1
header_taken (Some x) (Some y) c t t1 t2 some1 some2 first second took1 none1 took2 none2 =
    let one = line_taken x (Some y) t t1 some1 first took1 none1 in
    let two = line_taken y c t1 t2 some2 second took2 none2 in
    let lines : lines_of y ≡ drop 1 (lines_of x) = took_lines x y t t1 some1 first took1 none1 in
    record {
      rest = two.rest;
      known = two.known;
      listing = rw (one.is, two.is, lines, second_line (lines_of x)) refl;
      lines = other_lines (lines_of x) ∙ ap (drop 1) (sym lines) ∙ sym two.behind;
      count = two.count ∙ took1.1;
    }
  where
    took_lines : (x y : List ℕ) (t t1 : ℕ) (some : Bool) (line : List ℕ)
        → TakesLines (Some x) (Some y) t t1 (if some then line ∷ [] else []) → (some ≡ false → IsAtEnd (Some x) × (line ≡ []))
        → lines_of y ≡ drop 1 (lines_of x)
    took_lines x y t t1 true line took none = rw took.0 refl
    took_lines x y t t1 false line took none = sym took.0 ∙ rw (none refl).0 refl

-- the day of an input whose header gives a listing, and whose other lines were answered
pub ReadsBatch-day : (matrix : Matrix) (a c : Option (List ℕ)) (t t2 : ℕ) (first second : List ℕ) (names : Names) (day : BatchDay)
    → IfSome a (HeaderTaken c t t2 first second) → header_listing first second ≡ Ok names
    → IfSome c (λ bytes. HasAnswered (batch_tape matrix names) (lines_of bytes) day) → IfSome a (ReadsBatch matrix (Answered day))
ReadsBatch-day matrix None c t t2 first second names day header is answered = tt
ReadsBatch-day matrix (Some x) c t t2 first second names day header is answered = (names, header.listing ∙ is, rw header.lines (rw header.known at answered))
