-- The bytes spell the summary that is read from them, and each spelled summary is read again.
use Rattle.std.proofs.Common.{◌≡◌, ◌≢◌, ℕ, ◌+◌, ◌*◌, ◌/◌, ◌%◌, ◌^◌, ◌<◌, ◌≤◌, Bool, true, false, ltb, List, ◌++◌, ◌==◌, length}
use Rattle.std.proofs.Common.{length-append, lit<, Option, Some, None, Ok, refl, sym, ap, subst, ◌∙◌, append_assoc, arith, inl, inr}
use Rattle.std.specs.Prelude.{is_some}
use Rattle.std.specs.Int.{w8, w32, w64, to_be_bytes}
use Rattle.std.proofs.lemmas.Bool.{cases_Bool, eqb-true, eqb-false, false≢true, le-ltb}
use Rattle.std.proofs.lemmas.Slice.Eq.{bytes_eq-Decides}
use Rattle.tape_types.specs.Ranges.{FIRST_PARTICIPANT, LAST_PARTICIPANT, IsParticipant, IsPrice, PRICE_MOST}
use Rattle.scratch_fold.specs.declared.summary.Mark.{Mark}
use Rattle.scratch_fold.specs.declared.summary.Summary.{Summary}
use Rattle.reports.specs.Fields.{number_at, ranged_at, text_at}
use Rattle.reports.specs.Lemmas.Fields.{IsReader, Takes, Takes-then, first_taken, number_reader, ok_is, passed, ranged_reader, text_reader}
use Rattle.reports.specs.Lemmas.Fields.{wide8, wide32, wide64}
use Rattle.tape_frames.specs.declared.packet_fault.PacketFault.TheVariants.{Short, BadEntry}
use Rattle.tape_frames.specs.declared.version.Version.{Version}
use Rattle.tape_frames.specs.Limits.{MARK_LENGTH, ALL_MARKS, SUMMARY_LENGTH}
use Rattle.tape_frames.specs.Versions.{IsNumberIn, number_most}
use Rattle.tape_frames.specs.Lemmas.Versions.{number_most-within}
use Rattle.tape_frames.specs.Spelling.{IsFigure, IsMark, IsSummary, bit, figure_text, mark_text, marks_text, no_mark_text, presence, summary_text}
use Rattle.tape_frames.specs.Reading.{Marks, figure_at, figures_at, has_bit, is_no_mark, mark_at, marks_at, summary_field_at}

-- ---- marks

-- the price of a mark
price_reader : IsReader (ranged_at BadEntry w64 1 PRICE_MOST BadEntry) (to_be_bytes w64) IsPrice
price_reader = ranged_reader BadEntry wide64 1 PRICE_MOST BadEntry (lit< tt)

-- the place of a mark
place_reader : (version : Version) → IsReader (ranged_at BadEntry w32 1 (number_most version) BadEntry) (to_be_bytes w32) (IsNumberIn version)
place_reader version = ranged_reader BadEntry wide32 1 (number_most version) BadEntry (omega (arith, number_most-within version))

-- the participant of a mark
who_reader : IsReader (ranged_at BadEntry w8 FIRST_PARTICIPANT LAST_PARTICIPANT BadEntry) (to_be_bytes w8) IsParticipant
who_reader = ranged_reader BadEntry wide8 FIRST_PARTICIPANT LAST_PARTICIPANT BadEntry (lit< tt)

-- a mark: its three fields in a row
mark_reader : (version : Version) → IsReader (mark_at version) mark_text (IsMark version)
unfolding mark_at
mark_reader version = record {
  takes = λ bytes x fits e.
      let a = first_taken price_reader bytes _ x fits e in
      let b = first_taken (place_reader version) a.0.1 _ x a.1.rest_fits a.3 in
      let c = first_taken who_reader b.0.1 _ x b.1.rest_fits b.3 in
      let made : Mark × List ℕ = (record { price = a.0.0; place = b.0.0; who = c.0.0 }, c.0.1) in
      subst (λ (y : Mark × List ℕ). Takes bytes (mark_text y.0) y.1 × IsMark version y.0) {x = made} (ok_is BadEntry made x c.3)
      (Takes-then a.1 (Takes-then b.1 c.1), record { price = a.2; place = b.2; who = c.2 });
  again = λ m rest fits.
      let p = to_be_bytes w64 m.price in
      let q = to_be_bytes w32 m.place in
      let w = to_be_bytes w8 m.who in
      let regrouped : mark_text m ++ rest ≡ p ++ (q ++ (w ++ rest)) = simp append_assoc in
      let first = price_reader.again m.price (q ++ (w ++ rest)) fits.price in
      let second = (place_reader version).again m.place (w ++ rest) fits.place in
      let third = who_reader.again m.who rest fits.who in
      ap (mark_at version) regrouped ∙ rw (first, second, third) refl;
}

-- the zeros in place of an absent mark
no_mark_reader : IsReader (text_at BadEntry MARK_LENGTH is_no_mark BadEntry) (λ text. text) (λ text. text ≡ no_mark_text)
no_mark_reader =
    text_reader BadEntry MARK_LENGTH is_no_mark BadEntry (λ text. text ≡ no_mark_text) (λ text. bytes_eq-Decides text no_mark_text)
    (λ text is. ap length is)

-- a present mark, or none
abbrev IsFigureThere : Version → Bool → Option Mark → Type 0
IsFigureThere version is_there figure = IsFigure version figure × (is_some figure ≡ is_there)

-- a present mark is read again
figure_there : (version : Version) (figure : Option Mark) (rest : List ℕ) → IsFigureThere version true figure
    → figure_at version true (figure_text figure ++ rest) ≡ Ok (figure, rest)
unfolding figure_at
figure_there version None rest fits = absurd (false≢true fits.1)
figure_there version (Some m) rest fits = rw ((mark_reader version).again m rest fits.0) refl

-- the zeros in place of an absent mark are read again
figure_gone : (version : Version) (figure : Option Mark) (rest : List ℕ) → IsFigureThere version false figure
    → figure_at version false (figure_text figure ++ rest) ≡ Ok (figure, rest)
unfolding figure_at
figure_gone version None rest fits = rw (no_mark_reader.again no_mark_text rest refl) refl
figure_gone version (Some m) rest fits = absurd (false≢true (sym fits.1))

-- a mark if it is present, otherwise zeros
figure_reader : (version : Version) (is_there : Bool) → IsReader (figure_at version is_there) figure_text (IsFigureThere version is_there)
unfolding figure_at
figure_reader version true = record {
  takes = λ bytes x fits e.
      let a = first_taken (mark_reader version) bytes _ x fits e in
      let made : Option Mark × List ℕ = (Some a.0.0, a.0.1) in
      subst (λ (y : Option Mark × List ℕ). Takes bytes (figure_text y.0) y.1 × IsFigureThere version true y.0) {x = made} (ok_is BadEntry made x a.3)
      (a.1, (a.2, refl));
  again = figure_there version;
}
figure_reader version false = record {
  takes = λ bytes x fits e.
      let a = first_taken no_mark_reader bytes _ x fits e in
      let zeros : Takes bytes no_mark_text a.0.1 = subst (λ (t : List ℕ). Takes bytes t a.0.1) a.2 a.1 in
      let made : Option Mark × List ℕ = (None, a.0.1) in
      subst (λ (y : Option Mark × List ℕ). Takes bytes (figure_text y.0) y.1 × IsFigureThere version false y.0) {x = made} (ok_is BadEntry made x a.3)
      (zeros, (tt, refl));
  again = figure_gone version;
}

-- ---- the presence byte

-- a bit that was read is the bit
bit_read : (n : ℕ) → bit (n % 2 == 1) ≡ n % 2
bit_read n = elim (cases_Bool (n % 2 == 1)) [
  | inl is ↦ rw is (sym (eqb-true (n % 2) 1 is))
  | inr is_not ↦ rw is_not (let other : n % 2 ≢ 1 = eqb-false (n % 2) 1 is_not in omega arith)
]

-- a bit that was written is read again
bit_again : (b : Bool) → (bit b == 1) ≡ b
bit_again true = refl
bit_again false = refl

-- a bit is 0 or 1
bit-low : (b : Bool) → bit b ≤ 1
bit-low true = omega arith
bit-low false = omega arith

-- the byte that was read is the byte of its bits
presence_read : (p : ℕ) → p ≤ ALL_MARKS → bit (has_bit p 1) + 2 * bit (has_bit p 2) + 4 * bit (has_bit p 4) + 8 * bit (has_bit p 8) ≡ p
presence_read p low = omega (arith, bit_read (p / 1), bit_read (p / 2), bit_read (p / 4), bit_read (p / 8))

-- the bits of the byte that was written are read again
abbrev presence_of : Bool → Bool → Bool → Bool → ℕ
presence_of a b c d = bit a + 2 * bit b + 4 * bit c + 8 * bit d

module _ (a b c d : Bool) where
  -- no byte of bits is above the byte of all four
  presence-low : presence_of a b c d ≤ ALL_MARKS
  presence-low = omega (arith, bit-low a, bit-low b, bit-low c, bit-low d)

  -- its lowest bit is the first
  has_bit_1 : has_bit (presence_of a b c d) 1 ≡ a
  has_bit_1 =
      let digit : (presence_of a b c d / 1) % 2 ≡ bit a = omega (arith, bit-low a, bit-low b, bit-low c, bit-low d) in
      ap (λ (n : ℕ). n == 1) digit ∙ bit_again a

  -- the next bit is the second
  has_bit_2 : has_bit (presence_of a b c d) 2 ≡ b
  has_bit_2 =
      let digit : (presence_of a b c d / 2) % 2 ≡ bit b = omega (arith, bit-low a, bit-low b, bit-low c, bit-low d) in
      ap (λ (n : ℕ). n == 1) digit ∙ bit_again b

  -- the next bit is the third
  has_bit_4 : has_bit (presence_of a b c d) 4 ≡ c
  has_bit_4 =
      let digit : (presence_of a b c d / 4) % 2 ≡ bit c = omega (arith, bit-low a, bit-low b, bit-low c, bit-low d) in
      ap (λ (n : ℕ). n == 1) digit ∙ bit_again c

  -- its highest bit is the fourth
  has_bit_8 : has_bit (presence_of a b c d) 8 ≡ d
  has_bit_8 =
      let digit : (presence_of a b c d / 8) % 2 ≡ bit d = omega (arith, bit-low a, bit-low b, bit-low c, bit-low d) in
      ap (λ (n : ℕ). n == 1) digit ∙ bit_again d

-- ---- summaries

-- the presence byte is read from its spelling alone
presence_reader : IsReader (ranged_at BadEntry w8 0 ALL_MARKS BadEntry) (to_be_bytes w8) (λ n. (0 ≤ n) × (n ≤ ALL_MARKS))
presence_reader = ranged_reader BadEntry wide8 0 ALL_MARKS BadEntry (lit< tt)

-- the volume is read from its spelling alone
volume_reader : IsReader (number_at BadEntry w64) (to_be_bytes w64) (λ n. n < 2 ^ 64)
volume_reader = number_reader BadEntry wide64

-- the number of trades is read from its spelling alone
trades_reader : IsReader (number_at BadEntry w32) (to_be_bytes w32) (λ n. n < 2 ^ 32)
trades_reader = number_reader BadEntry wide32

-- the four marks one after the other
abbrev four_text : Marks → List ℕ
four_text m = figure_text m.0 ++ (figure_text m.1 ++ (figure_text m.2 ++ figure_text m.3))

-- each mark is present if the byte has its bit
record AreThere (version : Version) (presence : ℕ) (m : Marks) : Type 0 where
  opening : IsFigureThere version (has_bit presence 1) m.0
  high : IsFigureThere version (has_bit presence 2) m.1
  low : IsFigureThere version (has_bit presence 4) m.2
  last : IsFigureThere version (has_bit presence 8) m.3

-- the four marks, each present if the byte has its bit
marks_reader : (version : Version) (presence : ℕ) → IsReader (marks_at version presence) four_text (AreThere version presence)
unfolding marks_at
marks_reader version presence = record {
  takes = λ bytes x fits e.
      let a = first_taken (figure_reader version (has_bit presence 1)) bytes _ x fits e in
      let b = first_taken (figure_reader version (has_bit presence 2)) a.0.1 _ x a.1.rest_fits a.3 in
      let c = first_taken (figure_reader version (has_bit presence 4)) b.0.1 _ x b.1.rest_fits b.3 in
      let d = first_taken (figure_reader version (has_bit presence 8)) c.0.1 _ x c.1.rest_fits c.3 in
      let made : Marks × List ℕ = ((a.0.0, b.0.0, c.0.0, d.0.0), d.0.1) in
      subst (λ (y : Marks × List ℕ). Takes bytes (four_text y.0) y.1 × AreThere version presence y.0) {x = made} (ok_is BadEntry made x d.3)
      (Takes-then a.1 (Takes-then b.1 (Takes-then c.1 d.1)), record { opening = a.2; high = b.2; low = c.2; last = d.2 });
  again = λ m rest fits.
      let a = figure_text m.0 in
      let b = figure_text m.1 in
      let c = figure_text m.2 in
      let d = figure_text m.3 in
      let regrouped : four_text m ++ rest ≡ a ++ (b ++ (c ++ (d ++ rest))) = simp append_assoc in
      let first = (figure_reader version (has_bit presence 1)).again m.0 (b ++ (c ++ (d ++ rest))) fits.opening in
      let second = (figure_reader version (has_bit presence 2)).again m.1 (c ++ (d ++ rest)) fits.high in
      let third = (figure_reader version (has_bit presence 4)).again m.2 (d ++ rest) fits.low in
      let fourth = (figure_reader version (has_bit presence 8)).again m.3 rest fits.last in
      ap (marks_at version presence) regrouped ∙ rw (first, second, third, fourth) refl;
}

-- the byte of the present marks, by its bits
presence_is : (version : Version) (p : ℕ) (m : Marks) → p ≤ ALL_MARKS → AreThere version p m → presence_of (is_some m.0) (is_some m.1) (is_some m.2) (is_some m.3) ≡ p
presence_is version p m low there = rw (there.opening.1, there.high.1, there.low.1, there.last.1) (presence_read p low)

-- the marks of a summary are present by the bits of its byte
marks_there : (version : Version) (z : Summary) → IsSummary version z → AreThere version (presence z) (z.opening, z.high, z.low, z.last)
marks_there version z fits =
    let a = is_some z.opening in
    let b = is_some z.high in
    let c = is_some z.low in
    let d = is_some z.last in
    record {
      opening = (fits.opening, sym (has_bit_1 a b c d));
      high = (fits.high, sym (has_bit_2 a b c d));
      low = (fits.low, sym (has_bit_4 a b c d));
      last = (fits.last, sym (has_bit_8 a b c d));
    }

-- the fields of a summary in a row
figures_reader : (version : Version) → IsReader (figures_at version) summary_text (IsSummary version)
unfolding figures_at
figures_reader version = record {
  takes = λ bytes x fits e.
      let p = first_taken presence_reader bytes _ x fits e in
      let m = first_taken (marks_reader version p.0.0) p.0.1 _ x p.1.rest_fits p.3 in
      let v = first_taken volume_reader m.0.1 _ x m.1.rest_fits m.3 in
      let t = first_taken trades_reader v.0.1 _ x v.1.rest_fits v.3 in
      let made : Summary × List ℕ =
      (record { opening = m.0.0.0; high = m.0.0.1; low = m.0.0.2; last = m.0.0.3; volume = v.0.0; trades = t.0.0 }, t.0.1) in
      let is = presence_is version p.0.0 m.0.0 p.2.1 m.2 in
      let front : Takes bytes (to_be_bytes w8 (presence made.0)) p.0.1 = subst (λ (n : ℕ). Takes bytes (to_be_bytes w8 n) p.0.1) (sym is) p.1 in
      subst (λ (y : Summary × List ℕ). Takes bytes (summary_text y.0) y.1 × IsSummary version y.0) {x = made} (ok_is BadEntry made x t.3) (
        Takes-then front (Takes-then m.1 (Takes-then v.1 t.1)),
        record { opening = m.2.opening.0; high = m.2.high.0; low = m.2.low.0; last = m.2.last.0; volume = v.2; trades = t.2 },
      );
  again = λ z rest fits.
      let p = to_be_bytes w8 (presence z) in
      let m = marks_text z in
      let v = to_be_bytes w64 z.volume in
      let t = to_be_bytes w32 z.trades in
      let regrouped : summary_text z ++ rest ≡ p ++ (m ++ (v ++ (t ++ rest))) =
      append_assoc p (m ++ (v ++ t)) rest ∙ ap (λ (l : List ℕ). p ++ l) (append_assoc m (v ++ t) rest) in
      let low = presence-low (is_some z.opening) (is_some z.high) (is_some z.low) (is_some z.last) in
      let first = presence_reader.again (presence z) (m ++ (v ++ (t ++ rest))) (omega arith, low) in
      let second = (marks_reader version (presence z)).again (z.opening, z.high, z.low, z.last) (v ++ (t ++ rest)) (marks_there version z fits) in
      let third = volume_reader.again z.volume (t ++ rest) fits.volume in
      let fourth = trades_reader.again z.trades rest fits.trades in
      ap (figures_at version) regrouped ∙ rw (first, second, third, fourth) refl;
}

-- a mark has thirteen bytes, as its zeros have
pub length-figure_text : (figure : Option Mark) → length (figure_text figure) ≡ MARK_LENGTH
length-figure_text None = refl
length-figure_text (Some m) = refl

-- a summary has all its bytes, whichever marks are present
pub length-summary_text : (z : Summary) → length (summary_text z) ≡ SUMMARY_LENGTH
length-summary_text z =
    let a = figure_text z.opening in
    let b = figure_text z.high in
    let c = figure_text z.low in
    let d = figure_text z.last in
    omega (
      arith,
      length-append (marks_text z) (to_be_bytes w64 z.volume ++ to_be_bytes w32 z.trades),
      length-append a (b ++ (c ++ d)),
      length-append b (c ++ d),
      length-append c d,
      length-figure_text z.opening,
      length-figure_text z.high,
      length-figure_text z.low,
      length-figure_text z.last,
    )

-- a summary is read from its spelling alone
pub summary_reader : (version : Version) → IsReader (summary_field_at version) summary_text (IsSummary version)
unfolding summary_field_at
summary_reader version = record {
  takes = λ bytes x fits e. let went = passed (ltb (length bytes) SUMMARY_LENGTH) Short (figures_at version bytes) x e in
      (figures_reader version).takes bytes x fits went.1;
  again = λ z rest fits.
      let long : ltb (length (summary_text z ++ rest)) SUMMARY_LENGTH ≡ false =
      le-ltb _ _ (omega (arith, length-append (summary_text z) rest, length-summary_text z)) in
      rw long ((figures_reader version).again z rest fits);
}
