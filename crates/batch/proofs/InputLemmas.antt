-- Shows which lines an input loses while it is read.
use Rattle.std.proofs.Common.{◌≡◌, ◌≤◌, ◌<◌, ◌+◌, ◌++◌, ◌-◌, ◌==◌, ◌∷◌, ◌∙◌, [], ℕ, suc, List, true, nat_lt, Option, Some, None, IfSome, if◌then◌else◌}
use Rattle.std.proofs.Common.{length-append, ap, arith, length, sym, refl, append_assoc, get_or, inl, inr, subst}
use Rattle.std.proofs.lemmas.Bool.{cases_Bool, lt-ltb}
use Rattle.std.specs.Io.BufRead.{take_through, drop_through, strip_last, DropsThrough}
use Rattle.std.specs.Io.Iter.{u64_saturate}
use Rattle.std.specs.Io.KnownBytes.{Consumes, IsAtEnd, Keeps}
use Rattle.std.specs.List.{onto_first}
use Rattle.batch.specs.Batch.{INPUT_MOST}
use Rattle.batch.specs.Ends.{end_of_line}
use Rattle.batch.specs.Input.{TakesLines}
use Rattle.batch.specs.Lines.{ends_a_line, lines_of}
use Rattle.batch.specs.Reading.{EndsReading, IsReadEnd}
use Rattle.whole_io.specs.declared.reading.ReadFault.{ReadFault}
use Rattle.whole_io.specs.declared.reading.ReadFault.TheVariants.{Failed, OutOfMemory}
use Rattle.batch.specs.declared.read_end.ReadEnd.{ReadEnd}
use Rattle.batch.specs.declared.read_end.ReadEnd.TheVariants.{TooLarge}
use Rattle.batch.proofs.LineLemmas.{lines_of-cons, lines_of-whole}

-- lines taken in two steps
pub TakesLines-both : (a b c : Option (List ℕ)) (t t1 t2 : ℕ) (l1 l2 : List (List ℕ)) → TakesLines a b t t1 l1 → TakesLines b c t1 t2 l2
    → TakesLines a c t t2 (l1 ++ l2)
TakesLines-both None b c t t1 t2 l1 l2 first second = tt
TakesLines-both (Some x) None c t t1 t2 l1 l2 first second = absurd first
TakesLines-both (Some x) (Some y) None t t1 t2 l1 l2 first second = absurd second
TakesLines-both (Some x) (Some y) (Some z) t t1 t2 l1 l2 first second =
    (first.0 ∙ ap (λ (l : List (List ℕ)). l1 ++ l) second.0 ∙ sym (append_assoc l1 l2 _), omega (arith, first.1, second.1))

-- the bytes through the first line feed, and the bytes after it, are all bytes
length-through : (bytes : List ℕ) → length (take_through 10 bytes) + length (drop_through 10 bytes) ≡ length bytes
length-through [] = refl
length-through (byte ∷ bytes) =
    let rest = length-through bytes in
    elim (cases_Bool (byte == 10)) [ inl is ↦ rw is (omega arith) | inr is ↦ rw is (omega (arith, rest)) ]

-- the first line of some bytes has a byte at least
take_through-some : (byte : ℕ) (bytes : List ℕ) → 0 < length (take_through 10 (byte ∷ bytes))
take_through-some byte bytes = elim (cases_Bool (byte == 10)) [ inl is ↦ rw is (omega arith) | inr is ↦ rw is (omega arith) ]

-- a byte in front of others does not change how they lose a last line feed
strip_last-cons : (x : ℕ) (xs : List ℕ) → 0 < length xs → strip_last 10 (x ∷ xs) ≡ x ∷ strip_last 10 xs
strip_last-cons x [] none = absurd (omega arith)
strip_last-cons x (y ∷ ys) behind =
    let one : suc (length ys) - 1 ≡ length ys = omega arith in
    let two : suc (suc (length ys)) - 1 ≡ suc (length ys) = omega arith in
    let some : nat_lt 0 (suc (length ys)) ≡ true = lt-ltb 0 _ (omega arith) in
    let more : nat_lt 0 (suc (suc (length ys))) ≡ true = lt-ltb 0 _ (omega arith) in
    rw (one, two, some, more) (elim (cases_Bool (get_or (y ∷ ys) (length ys) 0 == 10)) [ inl is ↦ rw is refl | inr is ↦ rw is refl ])

-- the first line ends at the first line feed
lines_of-through : (byte : ℕ) (bytes : List ℕ)
    → lines_of (byte ∷ bytes) ≡ strip_last 10 (take_through 10 (byte ∷ bytes)) ∷ lines_of (drop_through 10 (byte ∷ bytes))
lines_of-through byte [] = elim (cases_Bool (byte == 10)) [ inl is ↦ rw is (rw is refl) | inr is ↦ rw is (rw is refl) ]
lines_of-through byte (next ∷ bytes) =
    let rest = lines_of-through next bytes in
    let cut = strip_last-cons byte (take_through 10 (next ∷ bytes)) (take_through-some next bytes) in
    lines_of-cons byte (next ∷ bytes) ∙ elim (cases_Bool (byte == 10)) [
      | inl is ↦ rw is (rw is refl)
      | inr is ↦ rw is (ap (onto_first byte) rest ∙ ap (λ (l : List ℕ). l ∷ lines_of (drop_through 10 (next ∷ bytes))) (sym cut))
    ]

-- what is read up to a line feed is the first line of what was left, if there was one
pub TakesLines-through : (known left : Option (List ℕ)) (old read line : List ℕ) (len : ℕ) → old ≡ []
    → IfSome known (λ bytes. read ≡ old ++ take_through 10 bytes) → DropsThrough known left 10
    → length read ≡ length old + len → line ≡ strip_last 10 read
    → TakesLines known left 0 len (if nat_lt 0 len then line ∷ [] else [])
TakesLines-through None left old read line len none took drops count is = tt
TakesLines-through (Some []) left old read line len none took drops count is =
    let zero : len ≡ 0 = omega (arith, ap length took, ap length none, length-append old []) in
    rw (drops, zero) (refl, omega arith)
TakesLines-through (Some (byte ∷ bytes)) left old read line len none took drops count is =
    let all : read ≡ take_through 10 (byte ∷ bytes) = took ∙ ap (λ (l : List ℕ). l ++ take_through 10 (byte ∷ bytes)) none in
    let sum = length-through (byte ∷ bytes) in
    let same : length (take_through 10 (byte ∷ bytes)) ≡ len = omega (arith, ap length all, ap length none) in
    let some : 0 < len = omega (arith, take_through-some byte bytes) in
    rw (drops, lt-ltb 0 len some) (
      lines_of-through byte bytes ∙ ap (λ (l : List ℕ). strip_last 10 l ∷ lines_of (drop_through 10 (byte ∷ bytes))) (sym all)
          ∙ ap (λ (l : List ℕ). l ∷ lines_of (drop_through 10 (byte ∷ bytes))) (sym is),
      omega arith,
    )

-- bytes that were taken are counted after those that were taken before
pub TakesLines-counted : (known left : Option (List ℕ)) (taken taken_now len : ℕ) (lines : List (List ℕ)) → TakesLines known left 0 len lines
    → taken_now ≡ taken + len → TakesLines known left taken taken_now lines
TakesLines-counted None left taken taken_now len lines took now = tt
TakesLines-counted (Some x) None taken taken_now len lines took now = absurd took
TakesLines-counted (Some x) (Some y) taken taken_now len lines took now = (took.0, omega (arith, took.1, now))

-- bytes that were taken are no more than there were
pub taken-too_large : (known left : Option (List ℕ)) (taken len : ℕ) (lines : List (List ℕ)) (end : ReadEnd) → TakesLines known left 0 len lines
    → (end ≡ TooLarge) × (INPUT_MOST < taken + len) → EndsReading known taken end
taken-too_large None left taken len lines end took over = tt
taken-too_large (Some x) None taken len lines end took over = absurd took
taken-too_large (Some x) (Some y) taken len lines end took over = rw over.0 (omega (arith, over.1, took.1))

-- reading may end at a line that cannot be taken, however much was taken before
pub EndsReading-line : (known : Option (List ℕ)) (taken : ℕ) (fault : ReadFault) (end : ReadEnd) → end ≡ end_of_line fault → EndsReading known taken end
EndsReading-line None taken fault end is = tt
EndsReading-line (Some bytes) taken Failed end is = rw is tt
EndsReading-line (Some bytes) taken OutOfMemory end is = rw is tt

-- an input of which nothing is left was no longer than what was taken
pub TakesLines-fits : (a b c : Option (List ℕ)) (t t1 t2 most : ℕ) (lines : List (List ℕ)) → TakesLines a b t t1 lines → IsAtEnd b → TakesLines b c t1 t2 []
    → t2 ≤ most → IfSome a (λ bytes. t + length bytes ≤ most)
TakesLines-fits None b c t t1 t2 most lines first none second fits = tt
TakesLines-fits (Some x) None c t t1 t2 most lines first none second fits = absurd first
TakesLines-fits (Some x) (Some y) None t t1 t2 most lines first none second fits = absurd second
TakesLines-fits (Some x) (Some y) (Some []) t t1 t2 most lines first none second fits = omega (arith, first.1, second.1, ap length none, fits)
TakesLines-fits (Some x) (Some y) (Some (byte ∷ bytes)) t t1 t2 most lines first none second fits =
    let empty : [] ≡ lines_of (byte ∷ bytes) = ap lines_of (sym none) ∙ second.0 in
    let some = lines_of-through byte bytes in
    absurd (cc)

-- whole lines were taken
pub TakesLines-whole : (bytes left : Option (List ℕ)) (front : List ℕ) (taken taken_now : ℕ)
    → ends_a_line front ≡ true → Consumes bytes left front → taken_now ≡ taken + length front → TakesLines bytes left taken taken_now (lines_of front)
TakesLines-whole None left front taken taken_now whole lost counted = tt
TakesLines-whole (Some x) None front taken taken_now whole lost counted = absurd lost
TakesLines-whole (Some x) (Some y) front taken taken_now whole lost counted =
    (ap lines_of lost ∙ lines_of-whole front y whole, omega (arith, counted, ap length lost, length-append front y))

-- if the bytes are kept, no line was taken and the count stays
pub TakesLines-kept : (bytes left : Option (List ℕ)) (taken : ℕ) → Keeps bytes left → TakesLines bytes left taken taken []
TakesLines-kept None left taken kept = tt
TakesLines-kept (Some x) None taken kept = absurd kept
TakesLines-kept (Some x) (Some y) taken kept = (ap lines_of (sym kept), ap (λ (l : List ℕ). taken + length l) kept)

-- a line was taken and not kept
pub TakesLines-skipped : (known left : Option (List ℕ)) (taken taken_now len : ℕ) → DropsThrough known left 10
    → IfSome known (λ bytes. len ≡ u64_saturate (length (take_through 10 bytes)))
    → taken_now ≡ taken + len → taken_now ≤ INPUT_MOST → (lines : List (List ℕ)) × TakesLines known left taken taken_now lines
TakesLines-skipped None left taken taken_now len drops count now fits = ([], tt)
TakesLines-skipped (Some []) left taken taken_now len drops count now fits =
    let zero : len ≡ 0 = omega (arith, count) in
    ([], rw drops (refl, omega (arith, now, zero)))
TakesLines-skipped (Some (byte ∷ bytes)) left taken taken_now len drops count now fits =
    let sum = length-through (byte ∷ bytes) in
    let same : length (take_through 10 (byte ∷ bytes)) ≡ len = omega (arith, count, now, fits) in
    (strip_last 10 (take_through 10 (byte ∷ bytes)) ∷ [], rw drops (lines_of-through byte bytes, omega (arith, sum, same, now)))

-- an input that was taken to its end within the limit has no more bytes than that
pub TakesLines-within : (a b : Option (List ℕ)) (t t1 : ℕ) (lines : List (List ℕ)) → TakesLines a b t t1 lines → IsAtEnd b → t1 ≤ INPUT_MOST
    → IfSome a (λ bytes. t + length bytes ≤ INPUT_MOST)
TakesLines-within None b t t1 lines took end fits = tt
TakesLines-within (Some x) None t t1 lines took end fits = absurd took
TakesLines-within (Some x) (Some y) t t1 lines took end fits = omega (arith, took.1, ap length end, fits)

-- what was taken and not kept is no longer than what was left
pub skipped-too_large : (known : Option (List ℕ)) (taken len : ℕ) (end : ReadEnd) → (end ≡ TooLarge) × (INPUT_MOST < taken + len)
    → IfSome known (λ bytes. len ≡ u64_saturate (length (take_through 10 bytes))) → IfSome known (λ bytes. IsReadEnd end (taken + length bytes))
skipped-too_large None taken len end over count = tt
skipped-too_large (Some bytes) taken len end over count = rw over.0 (omega (arith, over.1, count, length-through bytes))

-- the end of reading what is left of an input is the end of reading the input
pub EndsReading-before : (a b : Option (List ℕ)) (t t1 : ℕ) (lines : List (List ℕ)) (end : ReadEnd) → TakesLines a b t t1 lines → EndsReading b t1 end
    → EndsReading a t end
EndsReading-before None b t t1 lines end took ended = tt
EndsReading-before (Some x) None t t1 lines end took ended = absurd took
EndsReading-before (Some x) (Some y) t t1 lines end took ended = subst (λ (n : ℕ). IsReadEnd end n) took.1 ended
