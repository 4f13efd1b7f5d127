-- Shows that the text of messages reads back as those messages.
use Rattle.std.proofs.Common.{◌≡◌, ◌<◌, ◌≤◌, ◌+◌, ◌*◌, ◌/◌, ◌%◌, ◌==◌, ◌||◌, nat_le, nat_lt, nat_eq, ◌∷◌, ◌++◌, ◌∙◌, [], ℕ, List, Bool, true, false, All, Some, None, Result, Ok}
use Rattle.std.proofs.Common.{ap, append-nil, append_assoc, arith, fold, inl, inr, length, length-append, map, refl, slice_index, sym}
use Rattle.std.proofs.lemmas.Bool.{cases_Bool, ne_eqb}
use Rattle.std.proofs.lemmas.Bool.Decides.{nat_tests}
use Rattle.std.proofs.lemmas.List.Elements.{All-append, All-cons, All-head, All-nil, All-push, All-tail}
use Rattle.std.proofs.lemmas.List.Splits.{length-slice_split, slice_split_at, slice_split_none}
use Rattle.std.specs.List.{flat_map, join_with_byte, list_all, list_any, slice_split}
use Rattle.hex.specs.Hex.{encode_lower, encode_with, hex_digit_value, lower_digits}
use Rattle.hex.proofs.HexLemmas.{IsDigits, IsDigits-lower_digits, length-encode_with}
use Rattle.indexmap.specs.IndexSet.{insert_all, insert_key}
use Rattle.memchr.specs.Find.{is_byte}
use Rattle.tape_types.specs.Header.{all_named, name_texts, names_listing, participant_named, pieces_of}
use Rattle.batch.specs.Lines.{lines_of, without_empty_last}
use Rattle.tape_types.specs.Header.{is_capital}
use Rattle.batch.specs.MessageLine.{hex_bytes, line_message}
use Rattle.reports.specs.Lemmas.Messages.{message_at-spelling}
use Rattle.reports.specs.Messages.{header_of}
use Rattle.reports.specs.Reading.{message_at}
use Rattle.reports.specs.Spelling.{IsHeader, IsMessage, spelling}
use Rattle.reports.specs.declared.message.Message.{Message}
use Rattle.reports.specs.declared.message.Message.TheVariants.{Report, Cancel, Correct, Reinstate}
use Rattle.csv_days.specs.Days.{participants_of, symbols_of}
use Rattle.message_texts.proofs.SpelledBytes.{AreBytes, spelling-bytes}
use Rattle.message_texts.specs.DecodedTexts.{header_fault, text_messages, with_line}
use Rattle.message_texts.specs.EncodedTexts.{encoded_text, header_text, message_line}
use Rattle.message_texts.specs.Laws.{EncodedReadsBack}
use Rattle.message_texts.specs.declared.text_end.TextEnd.{TextEnd}
use Rattle.tape_types.specs.Lemmas.Symbols.{list_all-name_of, symbol_named-name}
use Rattle.tape_types.specs.Names.{first_fault, has_repeat, is_nil, names_fault, symbol_eq, symbol_named}
use Rattle.tape_types.specs.Ranges.{IsParticipant, IsSymbol, PARTICIPANTS_MOST, SYMBOLS_MOST, is_name_byte, name_of}
use Rattle.tape_types.specs.declared.listing_fault.ListingFault.TheVariants.{Empty, TooMany, Repeated}

-- ## Lines

-- no byte of a text is this one
abbrev Lacks : ℕ → List ℕ → Type 0
Lacks byte text = All (λ b. is_byte byte b ≡ false) text

-- a part with others after it stays
without_empty_last-cons : (part : List ℕ) (parts : List (List ℕ)) → 0 < length parts → without_empty_last (part ∷ parts) ≡ part ∷ without_empty_last parts
without_empty_last-cons part [] some = absurd (omega arith)
without_empty_last-cons part (next ∷ parts) some = refl

-- a line in front of a text
lines_of-line : (line rest : List ℕ) → Lacks 10 line → lines_of (line ++ 10 ∷ rest) ≡ line ∷ lines_of rest
lines_of-line line rest none =
    ap without_empty_last (slice_split_at (is_byte 10) line 10 rest none refl)
    ∙ without_empty_last-cons line (slice_split (is_byte 10) rest) (omega (arith, length-slice_split (is_byte 10) rest))

-- ## Digits

-- a digit is no byte that is none
digit-other : (stop digit value : ℕ) → hex_digit_value stop ≡ None → hex_digit_value digit ≡ Some value → is_byte stop digit ≡ false
digit-other stop digit value none some = ne_eqb digit stop (λ e. cc (ap hex_digit_value e, none, some))

-- digits have no line feed
digits-lack : (t : List ℕ) → IsDigits t → (bytes : List ℕ) → AreBytes bytes → Lacks 10 (encode_with t bytes)
unfolding encode_with
digits-lack t digits [] fit = All-nil (λ b. is_byte 10 b ≡ false)
digits-lack t digits (b ∷ bytes) fit =
    let fits : b < 256 = All-head (λ b. b < 256) b bytes fit in
    let high : b / 16 < 16 = omega arith in
    let low : b % 16 < 16 = omega arith in
    All-cons (λ b. is_byte 10 b ≡ false) (slice_index t (b / 16)) (slice_index t (b % 16) ∷ encode_with t bytes) (digit-other 10 _ (b / 16) refl (digits (b / 16) high))
    (All-cons (λ b. is_byte 10 b ≡ false) (slice_index t (b % 16)) (encode_with t bytes) (digit-other 10 _ (b % 16) refl (digits (b % 16) low))
    (digits-lack t digits bytes (All-tail (λ b. b < 256) b bytes fit)))

-- digits read back as their bytes
digits-read : (t : List ℕ) → IsDigits t → (bytes : List ℕ) → AreBytes bytes → hex_bytes (encode_with t bytes) ≡ Some bytes
unfolding encode_with hex_bytes
digits-read t digits [] fit = refl
digits-read t digits (b ∷ bytes) fit =
    let fits : b < 256 = All-head (λ b. b < 256) b bytes fit in
    let high : b / 16 < 16 = omega arith in
    let low : b % 16 < 16 = omega arith in
    let whole : b / 16 * 16 + b % 16 ≡ b = omega arith in
    let rest = digits-read t digits bytes (All-tail (λ b. b < 256) b bytes fit) in
    rw (digits (b / 16) high, digits (b % 16) low, rest) (ap (λ (n : ℕ). Some (n ∷ bytes)) whole)

-- ## A message's line

-- a message's line without its line feed
abbrev bare : Message → List ℕ
bare m = (header_of m).participant ∷ 32 ∷ encode_lower (spelling m)

-- a message's line in front of a text
bare-line : (m : Message) (rest : List ℕ) → message_line m ++ rest ≡ bare m ++ 10 ∷ rest
unfolding message_line
bare-line m rest = ap (λ (l : List ℕ). (header_of m).participant ∷ 32 ∷ l) (append_assoc (encode_lower (spelling m)) (10 ∷ []) rest)

-- every message has a header
header-is : (m : Message) → IsMessage m → IsHeader (header_of m)
header-is (Report h c) is = is.0
header-is (Cancel h target) is = is.0
header-is (Correct h target c) is = is.0
header-is (Reinstate h target) is = is.0

-- a message's line is one
bare-lacks : (m : Message) → IsMessage m → Lacks 10 (bare m)
bare-lacks m is =
    let who = (header-is m is).participant in
    All-cons (λ b. is_byte 10 b ≡ false) (header_of m).participant (32 ∷ encode_lower (spelling m)) (ne_eqb (header_of m).participant 10 (λ e. omega (arith, e, who.0)))
    (All-cons (λ b. is_byte 10 b ≡ false) 32 (encode_lower (spelling m)) refl (digits-lack lower_digits IsDigits-lower_digits (spelling m) (spelling-bytes m is)))

-- a participant is a capital letter
capital : (letter : ℕ) → 65 ≤ letter → letter ≤ 90 → is_capital letter ≡ true
capital letter low high =
    let above : nat_le 65 letter ≡ true = grind (arith, nat_tests) in
    let below : nat_le letter 90 ≡ true = grind (arith, nat_tests) in
    rw (above, below) refl

-- a number is itself
same : (n : ℕ) → (n == n) ≡ true
same n = grind (arith, nat_tests)

-- there are two digits a byte
two_each : (bytes digits : ℕ) → digits ≡ 2 * bytes → (bytes == digits / 2) ≡ true
two_each bytes digits twice = let half : digits / 2 ≡ bytes = omega (arith, twice) in rw half (same bytes)

-- a message's line is read as the message
bare-message : (m : Message) → IsMessage m → line_message (bare m) ≡ Ok m
unfolding line_message
bare-message m is =
    let who = (header-is m is).participant in
    let letter : is_capital (header_of m).participant ≡ true = capital (header_of m).participant who.0 who.1 in
    let read : hex_bytes (encode_lower (spelling m)) ≡ Some (spelling m) =
    digits-read lower_digits IsDigits-lower_digits (spelling m) (spelling-bytes m is) in
    let found : message_at (spelling m) ≡ Ok (m, length (spelling m)) = ap message_at (sym (append-nil (spelling m))) ∙ message_at-spelling m [] is in
    let count : (length (spelling m) == length (encode_lower (spelling m)) / 2) ≡ true =
    two_each (length (spelling m)) (length (encode_lower (spelling m))) (length-encode_with lower_digits (spelling m)) in
    let own : ((header_of m).participant == (header_of m).participant) ≡ true = same (header_of m).participant in
    rw (letter, read, found, count, own) refl

-- ## The lines of messages

-- the lines of messages' lines
message_lines-are : (messages : List Message) → All IsMessage messages → lines_of (flat_map message_line messages) ≡ map bare messages
message_lines-are [] all = refl
message_lines-are (m ∷ messages) all =
    ap lines_of (bare-line m (flat_map message_line messages))
    ∙ lines_of-line (bare m) (flat_map message_line messages) (bare-lacks m (All-head IsMessage m messages all))
    ∙ ap (λ (l : List (List ℕ)). bare m ∷ l) (message_lines-are messages (All-tail IsMessage m messages all))

-- the lines of messages read back after those that were read
read_back : (done messages : List Message) → All IsMessage messages → fold with_line (Ok done) (map bare messages) ≡ Ok (done ++ messages)
unfolding with_line
read_back done [] all = ap (λ (l : List Message). Ok l) (sym (append-nil done))
read_back done (m ∷ messages) all =
    let first : with_line (Ok done) (bare m) ≡ Ok (done ++ m ∷ []) = rw (bare-message m (All-head IsMessage m messages all)) refl in
    ap (λ (r : Result (List Message) TextEnd). fold with_line r (map bare messages)) first
    ∙ read_back (done ++ m ∷ []) messages (All-tail IsMessage m messages all)
    ∙ ap (λ (l : List Message). Ok l) (append_assoc done (m ∷ []) messages)

-- ## Names between single spaces

-- a name has a byte, and neither a space nor a line feed
record IsName (name : List ℕ) : Type 0 where
  some : 0 < length name
  spaceless : Lacks 32 name
  feedless : Lacks 10 name

-- names between spaces are split into them
pieces-joined : (first : List ℕ) (names : List (List ℕ)) → All IsName (first ∷ names) → pieces_of 32 (join_with_byte 32 (first ∷ names)) ≡ first ∷ names
pieces-joined first [] all = slice_split_none (is_byte 32) first ((All-head IsName first [] all).spaceless)
pieces-joined first (next ∷ names) all =
    slice_split_at (is_byte 32) first 32 (join_with_byte 32 (next ∷ names)) ((All-head IsName first (next ∷ names) all).spaceless) refl
    ∙ ap (λ (l : List (List ℕ)). first ∷ l) (pieces-joined next names (All-tail IsName first (next ∷ names) all))

-- names between spaces are bytes
joined-some : (first : List ℕ) (names : List (List ℕ)) → IsName first → 0 < length (join_with_byte 32 (first ∷ names))
joined-some first [] is = is.some
joined-some first (next ∷ names) is = omega (arith, is.some, length-append first (32 ∷ join_with_byte 32 (next ∷ names)))

-- names between spaces have no line feed
joined-lacks : (names : List (List ℕ)) → All IsName names → Lacks 10 (join_with_byte 32 names)
joined-lacks [] all = All-nil (λ b. is_byte 10 b ≡ false)
joined-lacks (first ∷ []) all = (All-head IsName first [] all).feedless
joined-lacks (first ∷ next ∷ names) all =
    All-append (λ b. is_byte 10 b ≡ false) first (32 ∷ join_with_byte 32 (next ∷ names)) ((All-head IsName first (next ∷ names) all).feedless)
    (All-cons (λ b. is_byte 10 b ≡ false) 32 (join_with_byte 32 (next ∷ names)) refl (joined-lacks (next ∷ names) (All-tail IsName first (next ∷ names) all)))

-- a line with a byte has pieces
texts-pieces : (line : List ℕ) → 0 < length line → name_texts 32 line ≡ pieces_of 32 line
texts-pieces [] some = absurd (omega arith)
texts-pieces (byte ∷ line) some = refl

-- the names of a line of names
texts-joined : (names : List (List ℕ)) → is_nil names ≡ false → All IsName names → name_texts 32 (join_with_byte 32 names) ≡ names
texts-joined [] some all = cc
texts-joined (first ∷ names) some all =
    texts-pieces (join_with_byte 32 (first ∷ names)) (joined-some first names (All-head IsName first names all)) ∙ pieces-joined first names all

-- ## Symbols and participants by their names

-- bytes that may stand in a name are none that may not
name-lacks : (stop : ℕ) (name : List ℕ) → is_name_byte stop ≡ false → list_all is_name_byte name ≡ true → Lacks stop name
name-lacks stop [] never all = All-nil (λ b. is_byte stop b ≡ false)
name-lacks stop (b ∷ name) never all = elim (cases_Bool (is_name_byte b)) [
  | inl here ↦ All-cons (λ b. is_byte stop b ≡ false) b name (ne_eqb b stop (λ e. cc (ap is_name_byte e, never, here))) (name-lacks stop name never (rw here at all))
  | inr other ↦ let none = rw other at all in absurd (cc none)
]

-- symbols by their names
all-symbols : (symbols : List (List ℕ)) → All IsSymbol symbols → all_named symbol_named (map name_of symbols) ≡ Some symbols
all-symbols [] all = refl
all-symbols (symbol ∷ symbols) all =
    rw (symbol_named-name symbol (All-head IsSymbol symbol symbols all), all-symbols symbols (All-tail IsSymbol symbol symbols all)) refl

-- a participant by its name
participant-named : (letter : ℕ) → IsParticipant letter → participant_named (letter ∷ []) ≡ Some letter
participant-named letter is = rw (capital letter is.0 is.1) refl

-- participants by their names
all-participants : (participants : List ℕ) → All IsParticipant participants
    → all_named participant_named (map (λ (p : ℕ). p ∷ []) participants) ≡ Some participants
all-participants [] all = refl
all-participants (p ∷ participants) all =
    rw (participant-named p (All-head IsParticipant p participants all), all-participants participants (All-tail IsParticipant p participants all)) refl

-- a symbol's name is one
symbol-name : (symbol : List ℕ) → IsSymbol symbol → IsName (name_of symbol)
symbol-name symbol is = record {
  some = is.named;
  spaceless = name-lacks 32 (name_of symbol) refl (list_all-name_of symbol);
  feedless = name-lacks 10 (name_of symbol) refl (list_all-name_of symbol);
}

-- a participant's name is one
participant-name : (letter : ℕ) → IsParticipant letter → IsName (letter ∷ [])
participant-name letter is = record {
  some = omega arith;
  spaceless = All-cons (λ b. is_byte 32 b ≡ false) letter [] (ne_eqb letter 32 (λ e. omega (arith, e, is.0))) (All-nil (λ b. is_byte 32 b ≡ false));
  feedless = All-cons (λ b. is_byte 10 b ≡ false) letter [] (ne_eqb letter 10 (λ e. omega (arith, e, is.0))) (All-nil (λ b. is_byte 10 b ≡ false));
}

-- what holds of all holds of what they are mapped to
map-all : {A B : Type 0} (P : A → Type 0) (Q : B → Type 0) (f : A → B) → ((x : A) → P x → Q (f x)) → (xs : List A) → All P xs → All Q (map f xs)
map-all P Q f each [] all = All-nil Q
map-all P Q f each (x ∷ xs) all = All-cons Q (f x) (map f xs) (each x (All-head P x xs all)) (map-all P Q f each xs (All-tail P x xs all))

-- ## The names of messages

-- what holds of all holds of those that are inserted
insert_all-all : {A : Type 0} (P : A → Type 0) (eq : A → A → Bool) (keys xs : List A) → All P keys → All P xs → All P (insert_all eq keys xs)
insert_all-all P eq keys [] had all = had
insert_all-all P eq keys (x ∷ xs) had all =
    insert_all-all P eq (insert_key eq keys x) xs (one (All-head P x xs all)) (All-tail P x xs all)
  where
    one : P x → All P (insert_key eq keys x)
    one here = elim (cases_Bool (list_any (eq x) keys)) [ inl there ↦ rw there had | inr new ↦ rw new (All-push P keys x had here) ]

-- the symbols of messages are symbols
symbols-are : (messages : List Message) → All IsMessage messages → All IsSymbol (symbols_of messages)
symbols-are messages all =
    insert_all-all IsSymbol symbol_eq [] _ (All-nil IsSymbol) (map-all IsMessage IsSymbol (λ m. (header_of m).symbol) (λ m is. (header-is m is).symbol) messages all)

-- the participants of messages are participants
participants-are : (messages : List Message) → All IsMessage messages → All IsParticipant (participants_of messages)
participants-are messages all =
    insert_all-all IsParticipant nat_eq [] _ (All-nil IsParticipant)
    (map-all IsMessage IsParticipant (λ m. (header_of m).participant) (λ m is. (header-is m is).participant) messages all)

-- ## The header

-- if nothing is wrong with two lists, nothing is wrong with either of them
each_fine : (a b c x y z : Bool) → first_fault ((a || x, Empty) ∷ (b || y, TooMany) ∷ (c || z, Repeated) ∷ []) ≡ None
    → (a ≡ false) × (b ≡ false) × (c ≡ false) × (x ≡ false)
each_fine true b c x y z none = absurd (cc none)
each_fine false b c true y z none = absurd (cc none)
each_fine false true c false y z none = absurd (cc none)
each_fine false false c false true z none = absurd (cc none)
each_fine false false true false false z none = absurd (cc none)
each_fine false false false false false z none = (refl, refl, refl, refl)

-- a header of two lists of names with nothing wrong has no fault
header-fine : (symbols : List (List ℕ)) (participants : List ℕ) → All IsSymbol symbols → All IsParticipant participants → names_fault symbols participants ≡ None
    → header_fault (join_with_byte 32 (map name_of symbols)) (join_with_byte 32 (map (λ (p : ℕ). p ∷ []) participants)) ≡ None
unfolding header_fault names_listing
header-fine symbols participants are who fine =
    let (a, b, c, x) = each_fine (is_nil symbols) (nat_lt SYMBOLS_MOST (length symbols)) (has_repeat symbol_eq symbols) (is_nil participants)
    (nat_lt PARTICIPANTS_MOST (length participants)) (has_repeat nat_eq participants) fine in
    let beside : names_fault symbols (65 ∷ []) ≡ None = rw (a, b, c) refl in
    let first : name_texts 32 (join_with_byte 32 (map name_of symbols)) ≡ map name_of symbols =
    texts-joined (map name_of symbols) (map-some name_of symbols a) (map-all IsSymbol IsName name_of symbol-name symbols are) in
    let second : name_texts 32 (join_with_byte 32 (map (λ (p : ℕ). p ∷ []) participants)) ≡ map (λ (p : ℕ). p ∷ []) participants =
    texts-joined (map (λ (p : ℕ). p ∷ []) participants) (map-some (λ (p : ℕ). p ∷ []) participants x)
    (map-all IsParticipant IsName (λ (p : ℕ). p ∷ []) participant-name participants who) in
    rw (first, second, all-symbols symbols are, all-participants participants who, beside, fine) refl
  where
    map-some : {A B : Type 0} (f : A → B) (xs : List A) → is_nil xs ≡ false → is_nil (map f xs) ≡ false
    map-some f [] none = cc
    map-some f (x ∷ xs) some = refl

-- ## The whole text

-- the lines of the text of messages
encoded-lines : (messages : List Message) → All IsMessage messages
    → lines_of (encoded_text messages)
    ≡ join_with_byte 32 (map name_of (symbols_of messages)) ∷ join_with_byte 32 (map (λ (p : ℕ). p ∷ []) (participants_of messages)) ∷ map bare messages
unfolding encoded_text header_text
encoded-lines messages all =
    let first = join_with_byte 32 (map name_of (symbols_of messages)) in
    let second = join_with_byte 32 (map (λ (p : ℕ). p ∷ []) (participants_of messages)) in
    let rest = flat_map message_line messages in
    let parts : ((first ++ 10 ∷ []) ++ (second ++ 10 ∷ [])) ++ rest ≡ first ++ 10 ∷ (second ++ 10 ∷ rest) = in_parts first second rest in
    let feedless = joined-lacks (map name_of (symbols_of messages)) (map-all IsSymbol IsName name_of symbol-name (symbols_of messages) (symbols-are messages all)) in
    let feedless_too = joined-lacks (map (λ (p : ℕ). p ∷ []) (participants_of messages))
    (map-all IsParticipant IsName (λ (p : ℕ). p ∷ []) participant-name (participants_of messages) (participants-are messages all)) in
    ap lines_of parts ∙ lines_of-line first (second ++ 10 ∷ rest) feedless
    ∙ ap (λ (l : List (List ℕ)). first ∷ l) (lines_of-line second rest feedless_too ∙ ap (λ (l : List (List ℕ)). second ∷ l) (message_lines-are messages all))
  where
    in_parts : (first second rest : List ℕ) → ((first ++ 10 ∷ []) ++ (second ++ 10 ∷ [])) ++ rest ≡ first ++ 10 ∷ (second ++ 10 ∷ rest)
    in_parts first second rest = simp append_assoc

-- the text of messages whose names make a listing reads back as those messages
pub encoded_reads_back : EncodedReadsBack
unfolding text_messages
encoded_reads_back messages all fine =
    let lines = encoded-lines messages all in
    let header = header-fine (symbols_of messages) (participants_of messages) (symbols-are messages all) (participants-are messages all) fine in
    rw (lines, header) (read_back [] messages all)
