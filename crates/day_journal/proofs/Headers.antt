-- Reads back a header.
use Rattle.std.proofs.Common.{◌≡◌, ℕ, suc, ◌+◌, ◌-◌, ◌<◌, ◌≤◌, ◌^◌, Bool, true, false, cond, Option, List, [], ◌∷◌, ◌++◌, length, take, lit<}
use Rattle.std.proofs.Common.{Result, Ok, Err, Some, None, append-nil, append_assoc, refl, sym, ap, ◌∙◌, arith}
use Rattle.std.specs.Prelude.{All, flat_map, bytes_eq, nat_lt, ◌||◌}
use Rattle.std.proofs.lemmas.Bool.{ltb-false, or_parts}
use Rattle.std.specs.Int.{w8, w16, w32, w64, to_be_bytes}
use Rattle.std.specs.Option.{ok_or}
use Rattle.std.proofs.lemmas.List.{length-append, take_at}
use Rattle.std.proofs.lemmas.List.Elements.{All-head, All-tail}
use Rattle.std.proofs.lemmas.Slice.Eq.{bytes_eq-Decides}
use Rattle.reports.specs.Lemmas.Fields.{number_reader, ranged_reader, text_reader, wide8, wide16, wide32, wide64}
use Rattle.reports.specs.Lemmas.Texts.{symbol_decided}
use Rattle.reports.specs.Texts.{is_symbol}
use Rattle.sale_matrix.specs.declared.matrix.Matrix.{Matrix}
use Rattle.sale_matrix.specs.declared.matrix.Matrix.TheVariants as matrix
use Rattle.sha2.proofs.Facts256.{length-sha256}
use Rattle.tape_types.specs.Names.{is_nil, names_fault}
use Rattle.tape_types.specs.declared.listing_fault.ListingFault.{ListingFault}
use Rattle.tape_types.specs.Ranges.{FIRST_PARTICIPANT, LAST_PARTICIPANT, IsParticipant, IsSymbol, PARTICIPANTS_MOST, SYMBOLS_MOST, TAPE_MOST}
use Rattle.days.specs.declared.day.Day.{Day}
use Rattle.day_journal.specs.declared.header_fault.JournalHeaderFault.{JournalHeaderFault}
use Rattle.day_journal.specs.declared.header_fault.JournalHeaderFault.TheVariants.{NoJournal, Short, Damaged}
use Rattle.day_journal.specs.Headers.{AreTerms, HeadersAreRead, JOURNAL_VERSION, MAGIC, header_at, header_digest}
use Rattle.day_journal.specs.Headers.{magic_at, matrix_at, matrix_byte, matrix_of, participant_at, participants_at, participants_text, symbol_at}
use Rattle.day_journal.specs.Headers.{symbols_at, symbols_text, terms_at, terms_text, values_at, version_at}
use Rattle.day_journal.proofs.Lists.{bytes_there}

-- values that are spelled one after the other are read again
values_again : {A : Type 0} (read : List ℕ → Result (A × List ℕ) JournalHeaderFault) (text : A → List ℕ) (Fits : A → Type 0)
    → ((x : A) (rest : List ℕ) → Fits x → read (text x ++ rest) ≡ Ok (x, rest))
    → (xs before : List A) (rest : List ℕ) → All Fits xs → values_at read (length xs) before (flat_map text xs ++ rest) ≡ Ok (before ++ xs, rest)
unfolding values_at
values_again read text Fits again [] before rest all = ap (λ xs. Ok (xs, rest)) (sym (append-nil before))
values_again {A} read text Fits again (x ∷ xs) before rest all =
    let others = flat_map text xs ++ rest in
    let regrouped : flat_map text (x ∷ xs) ++ rest ≡ text x ++ others = append_assoc (text x) (flat_map text xs) rest in
    let first = again x others (All-head Fits x xs all) in
    let more = values_again read text Fits again xs (before ++ x ∷ []) rest (All-tail Fits x xs all) in
    ap (values_at read (length (x ∷ xs)) before) regrouped
    ∙ rw first (more ∙ ap (λ (ys : List A). Ok (ys, rest)) (append_assoc before (x ∷ []) xs))

-- the first bytes are read again
magic_again : (rest : List ℕ) → magic_at (MAGIC ++ rest) ≡ Ok (MAGIC, rest)
unfolding magic_at
magic_again rest = rw (bytes_there NoJournal 8 MAGIC rest refl) refl

-- the version is read again
version_again : (rest : List ℕ) → version_at (to_be_bytes w8 JOURNAL_VERSION ++ rest) ≡ Ok (JOURNAL_VERSION, rest)
unfolding version_at
version_again rest = rw ((number_reader Short wide8).again JOURNAL_VERSION rest (lit< tt)) refl

-- the byte of a matrix fits into 8 bits
byte_fits : (m : Matrix) → matrix_byte m < 2 ^ 8
byte_fits matrix.One = lit< tt
byte_fits matrix.Two = lit< tt

-- the byte of a matrix is read as that matrix
byte_again : (m : Matrix) → ok_or (matrix_of (matrix_byte m)) Damaged ≡ Ok m
byte_again matrix.One = refl
byte_again matrix.Two = refl

-- the matrix is read again
matrix_again : (m : Matrix) (rest : List ℕ) → matrix_at (to_be_bytes w8 (matrix_byte m) ++ rest) ≡ Ok (m, rest)
unfolding matrix_at
matrix_again m rest = rw ((number_reader Short wide8).again (matrix_byte m) rest (byte_fits m), byte_again m) refl

-- the symbols are read again
symbols_again : (symbols : List (List ℕ)) (rest : List ℕ) → length symbols < 2 ^ 16 → All IsSymbol symbols
    → symbols_at (symbols_text symbols ++ rest) ≡ Ok (symbols, rest)
unfolding symbols_at
symbols_again symbols rest few all =
    let size = to_be_bytes w16 (length symbols) in
    let texts = flat_map (λ (s : List ℕ). s) symbols in
    let first = (number_reader Short wide16).again (length symbols) (texts ++ rest) few in
    let reader = text_reader Short 8 is_symbol Damaged IsSymbol symbol_decided (λ text fits. fits.eight) in
    let more = values_again symbol_at (λ (s : List ℕ). s) IsSymbol reader.again symbols [] rest all in
    ap symbols_at (append_assoc size texts rest) ∙ rw first more

-- the participants are read again
participants_again : (participants rest : List ℕ) → length participants < 2 ^ 8 → All IsParticipant participants
    → participants_at (participants_text participants ++ rest) ≡ Ok (participants, rest)
unfolding participants_at
participants_again participants rest few all =
    let size = to_be_bytes w8 (length participants) in
    let texts = flat_map (λ (p : ℕ). to_be_bytes w8 p) participants in
    let first = (number_reader Short wide8).again (length participants) (texts ++ rest) few in
    let reader = ranged_reader Short wide8 FIRST_PARTICIPANT LAST_PARTICIPANT Damaged (lit< tt) in
    let more = values_again participant_at (λ (p : ℕ). to_be_bytes w8 p) IsParticipant reader.again participants [] rest all in
    ap participants_at (append_assoc size texts rest) ∙ rw first more

-- the names of a listing are few enough for their counts
pub few_names : (symbols : List (List ℕ)) (participants : List ℕ) → names_fault symbols participants ≡ None
    → (length symbols ≤ SYMBOLS_MOST) × (length participants ≤ PARTICIPANTS_MOST)
few_names symbols participants none =
    let some = no_fault (is_nil symbols || is_nil participants) _ _ none in
    let few = no_fault (nat_lt SYMBOLS_MOST (length symbols) || nat_lt PARTICIPANTS_MOST (length participants)) _ _ some.1 in
    let both = or_parts (nat_lt SYMBOLS_MOST (length symbols)) (nat_lt PARTICIPANTS_MOST (length participants)) few.0 in
    (ltb-false SYMBOLS_MOST (length symbols) both.0, ltb-false PARTICIPANTS_MOST (length participants) both.1)
  where
    no_fault : (b : Bool) (f : ListingFault) (rest : Option ListingFault) → cond b (Some f) rest ≡ None → (b ≡ false) × (rest ≡ None)
    no_fault true f rest e = absurd cc
    no_fault false f rest e = (refl, e)

-- the terms are read again
terms_again : (t : Day) (rest : List ℕ) → AreTerms t → terms_at (terms_text t ++ rest) ≡ Ok (t, rest)
unfolding terms_at
terms_again t rest are =
    let few = few_names t.listing.symbols t.listing.participants are.listing in
    let version = to_be_bytes w8 JOURNAL_VERSION in
    let session = to_be_bytes w64 t.session in
    let matrix = to_be_bytes w8 (matrix_byte t.matrix) in
    let limit = to_be_bytes w32 t.limit in
    let symbols = symbols_text t.listing.symbols in
    let participants = participants_text t.listing.participants in
    let sixth = participants ++ rest in
    let fifth = symbols ++ sixth in
    let fourth = limit ++ fifth in
    let third = matrix ++ fourth in
    let second = session ++ third in
    let regrouped : terms_text t ++ rest ≡ MAGIC ++ (version ++ second) = simp append_assoc in
    let a = magic_again (version ++ second) in
    let b = version_again second in
    let c = (number_reader Short wide64).again t.session third are.session in
    let d = matrix_again t.matrix fourth in
    let e = (ranged_reader Short wide32 1 TAPE_MOST Damaged (lit< tt)).again t.limit fifth are.limit in
    let f = symbols_again t.listing.symbols sixth (omega (arith, few.0)) are.symbols in
    let g = participants_again t.listing.participants rest (omega (arith, few.1)) are.participants in
    ap terms_at regrouped ∙ rw (a, b, c, d, e, f, g) refl

-- a header is read again, whatever follows it
pub headers_again : HeadersAreRead
unfolding header_at
headers_again t rest are =
    let body = terms_text t in
    let digest = header_digest t in
    let bytes = body ++ (digest ++ rest) in
    let first = terms_again t (digest ++ rest) are in
    let second = bytes_there Short 32 digest rest (length-sha256 body) in
    let size : length bytes - length (digest ++ rest) ≡ length body = omega (arith, length-append body (digest ++ rest)) in
    let front : take (length bytes - length (digest ++ rest)) bytes ≡ body =
    ap (λ (n : ℕ). take n bytes) size ∙ take_at body (digest ++ rest) (length body) refl in
    let same : bytes_eq digest digest ≡ true = (bytes_eq-Decides digest digest).1 refl in
    ap header_at (append_assoc body digest rest) ∙ rw (first, second, front, same, are.listing) refl

-- ---- values read one after the other

-- one more value is read
pub value_next : {A : Type 0} (read : List ℕ → Result (A × List ℕ) JournalHeaderFault) (count place : ℕ) (before : List A) (bytes rest : List ℕ) (x : A)
    → place < count → read bytes ≡ Ok (x, rest) → values_at read (count - (place + 1)) (before ++ x ∷ []) rest ≡ values_at read (count - place) before bytes
unfolding values_at
value_next read count place before bytes rest x more is =
    let left = count - (place + 1) in
    let one : count - place ≡ suc left = omega (arith, more) in
    rw (one, is) refl

-- a value that can't be read ends the list
pub value_stops : {A : Type 0} (read : List ℕ → Result (A × List ℕ) JournalHeaderFault) (count place : ℕ) (before : List A) (bytes : List ℕ) (f : JournalHeaderFault)
    → place < count → read bytes ≡ Err f → values_at read (count - place) before bytes ≡ Err f
unfolding values_at
value_stops read count place before bytes f more is =
    let one : count - place ≡ suc (count - (place + 1)) = omega (arith, more) in
    rw (one, is) refl

-- all values were read
pub values_end : {A : Type 0} (read : List ℕ → Result (A × List ℕ) JournalHeaderFault) (count place : ℕ) (before : List A) (bytes : List ℕ)
    → count ≤ place → values_at read (count - place) before bytes ≡ Ok (before, bytes)
unfolding values_at
values_end read count place before bytes all =
    let none : count - place ≡ 0 = omega (arith, all) in
    rw none refl
