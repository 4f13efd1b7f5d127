-- A table's tape lists the symbols of all messages of the table.
use Rattle.std.proofs.Common.{◌≡◌, ◌++◌, ◌∷◌, ◌∙◌, ◌<◌, ◌||◌, ◌&&◌, [], ℕ, List, Bool, Option, None, Some, true, false, ap, arith, cond, fold, get_or, is_some, length, map, nat_eq, refl, sym, take, true≢false}
use Rattle.std.specs.List.{list_all, list_any, position, position_or_len}
use Rattle.std.proofs.lemmas.Bool.{eq-eqb, lt-ltb}
use Rattle.std.proofs.lemmas.List.Folds.{list_all-append, list_all_at, list_any-append}
use Rattle.std.proofs.lemmas.Slice.Eq.{bytes_eq-Decides}
use Rattle.indexmap.specs.IndexSet.{insert_all, insert_key}
use Rattle.sale_matrix.specs.declared.matrix.Matrix.{Matrix}
use Rattle.tape_types.specs.Names.{Names, symbol_eq}
use Rattle.reports.specs.Messages.{header_of}
use Rattle.reports.specs.declared.message.Message.{Message}
use Rattle.tape_core.specs.Ending.{ListsNames}
use Rattle.tape_core.specs.Tape.{TapeState, lists_participant, lists_symbol, refusal}
use Rattle.tape_core.specs.declared.refusal.Refusal.{Refusal}
use Rattle.tape_core.specs.Answers.{tape_after, tape_by}
use Rattle.csv_days.specs.Days.{first_tape, lists_all, names_of, participants_of, symbol_of, symbols_of}
use Rattle.csv_days.specs.EndDays.{ListsAll}

-- ## Lists

-- of two tests that both pass each passes
both : (a b : Bool) → (a && b) ≡ true → (a ≡ true) × (b ≡ true)
both true b is = (refl, is)
both false b is = absurd (true≢false (sym is))

-- an element passes what all pass
pub all-at : {X : Type 0} (test : X → Bool) (xs : List X) (i : ℕ) (x : X) → list_all test xs ≡ true → i < length xs → get_or xs i x ≡ x → test x ≡ true
all-at test xs i x all within is = by (test x) refl
  where
    by : (b : Bool) → test x ≡ b → test x ≡ true
    by true passes = passes
    by false fails = absurd (true≢false (sym all ∙ list_all_at test xs i x within (ap test is ∙ fails)))

-- a list in two parts, all of whose elements pass
pub all-parts : {X : Type 0} (test : X → Bool) (xs front back : List X) → xs ≡ front ++ back → list_all test xs ≡ true
    → (list_all test front ≡ true) × (list_all test back ≡ true)
all-parts test xs front back split all =
    both (list_all test front) (list_all test back) (sym (list_all-append test front back) ∙ ap (list_all test) (sym split) ∙ all)

-- ## A listing

-- what is found has a place within the list
place-within : (test : List ℕ → Bool) (xs : List (List ℕ)) → list_any test xs ≡ true → position_or_len test xs < length xs
place-within test [] found = absurd (true≢false (sym found))
place-within test (x ∷ xs) found = by (test x) refl (place-within test xs)
  where
    by : (b : Bool) → test x ≡ b → (list_any test xs ≡ true → position_or_len test xs < length xs) → position_or_len test (x ∷ xs) < length (x ∷ xs)
    by true passes behind = rw passes (omega arith)
    by false fails behind = let within = behind (rw fails at found) in rw fails (omega (arith, within))

-- so it is found by its place
position-found : (test : List ℕ → Bool) (xs : List (List ℕ)) → list_any test xs ≡ true → is_some (position test xs) ≡ true
position-found test xs found =
    ap (λ (b : Bool). is_some (cond b (Some (position_or_len test xs)) None)) (lt-ltb (position_or_len test xs) (length xs) (place-within test xs found))

module _ {A : Type 0} (eq : A → A → Bool) (itself : (k : A) → eq k k ≡ true) (name : Message → A) where
  -- a name that is there stays
  name-kept : (k x : A) (ks : List A) → list_any (eq k) ks ≡ true → list_any (eq k) (insert_key eq ks x) ≡ true
  name-kept k x ks found = by (list_any (eq x) ks) refl
    where
      by : (b : Bool) → list_any (eq x) ks ≡ b → list_any (eq k) (insert_key eq ks x) ≡ true
      by true there = rw there found
      by false new = rw new (list_any-append (eq k) ks (x ∷ []) ∙ ap (λ (b : Bool). b || list_any (eq k) (x ∷ [])) found)

  -- a name that is put in is there
  name-put : (k : A) (ks : List A) → list_any (eq k) (insert_key eq ks k) ≡ true
  name-put k ks = by (list_any (eq k) ks) refl
    where
      by : (b : Bool) → list_any (eq k) ks ≡ b → list_any (eq k) (insert_key eq ks k) ≡ true
      by true there = rw there there
      by false new = rw new (list_any-append (eq k) ks (k ∷ []) ∙ rw (new, itself k) refl)

  -- a name that is there stays while others are put in
  names-kept : (k : A) (ks xs : List A) → list_any (eq k) ks ≡ true → list_any (eq k) (insert_all eq ks xs) ≡ true
  names-kept k ks [] found = found
  names-kept k ks (x ∷ xs) found = names-kept k (insert_key eq ks x) xs (name-kept k x ks found)

  -- the names of messages are all in a list that they are put into
  names-put : (names : List A) (ks : List A) (messages : List Message) → names ≡ insert_all eq ks (map name messages)
      → list_all (λ m. list_any (eq (name m)) names) messages ≡ true
  names-put names ks [] is = refl
  names-put names ks (m ∷ messages) is =
      let first : list_any (eq (name m)) names ≡ true =
      ap (list_any (eq (name m))) is ∙ names-kept (name m) (insert_key eq ks (name m)) (map name messages) (name-put (name m) ks) in
      rw first (names-put names (insert_key eq ks (name m)) messages is)

-- a symbol is itself
symbol-itself : (k : List ℕ) → symbol_eq k k ≡ true
symbol-itself k = (bytes_eq-Decides k k).1 refl

-- what all pass, all pass by a test that follows from it
all-follow : (test other : Message → Bool) (messages : List Message) → ((m : Message) → test m ≡ true → other m ≡ true)
    → list_all test messages ≡ true → list_all other messages ≡ true
all-follow test other [] follows all = refl
all-follow test other (m ∷ messages) follows all =
    let parts = both (test m) (list_all test messages) all in
    rw (follows m parts.0) (all-follow test other messages follows parts.1)

-- a listing with the symbols of messages lists them all
symbols-listed : (participants : List ℕ) (messages : List Message)
    → list_all (λ m. lists_symbol (record { symbols = symbols_of messages; participants = participants }) (symbol_of m)) messages ≡ true
symbols-listed participants messages =
    let names = symbols_of messages in
    all-follow (λ m. list_any (symbol_eq (symbol_of m)) names)
    (λ m. lists_symbol (record { symbols = names; participants = participants }) (symbol_of m)) messages
    (λ m found. position-found (symbol_eq (symbol_of m)) names found) (names-put symbol_eq symbol-itself symbol_of names [] messages refl)

-- the first tape lists the symbols of all messages
pub first-lists : (matrix : Matrix) (messages : List Message) → lists_all (first_tape matrix messages) messages ≡ true
first-lists matrix messages = symbols-listed (participants_of messages) messages

-- ## All names

-- the listing of messages has all their names
pub ListsAll-names : (messages : List Message) → ListsAll (names_of messages) messages
ListsAll-names messages = record {
  symbols = symbols-listed (participants_of messages) messages;
  participants = names-put nat_eq (λ k. eq-eqb k k refl) (λ m. (header_of m).participant) (participants_of messages) [] messages refl;
}

-- a listing that has the names of messages has those of a front and a back of them
pub ListsAll-parts : (listing : Names) (front back : List Message) → ListsAll listing (front ++ back) → ListsAll listing front × ListsAll listing back
ListsAll-parts listing front back all =
    let symbols = all-parts (λ m. lists_symbol listing (symbol_of m)) (front ++ back) front back refl all.symbols in
    let participants = all-parts (λ m. lists_participant listing (header_of m).participant) (front ++ back) front back refl all.participants in
    (record { symbols = symbols.0; participants = participants.0 }, record { symbols = symbols.1; participants = participants.1 })

-- and those of one
pub ListsAll-one : (listing : Names) (m : Message) → ListsAll listing (m ∷ []) → ListsNames listing m
ListsAll-one listing m all = record {
  participant = (both (lists_participant listing (header_of m).participant) true all.participants).0;
  symbol = (both (lists_symbol listing (symbol_of m)) true all.symbols).0;
}

-- ## Tapes

-- the listing stays
pub listing-after : (t : TapeState) (m : Message) → (tape_after t m).listing ≡ t.listing
unfolding tape_after
listing-after t m = cases (refusal t m)
  where
    cases : (o : Option Refusal) → (tape_by t m o).listing ≡ t.listing
    cases None = refl
    cases (Some refused) = refl

-- and so it does over messages
pub listing-kept : (t : TapeState) (messages : List Message) → (fold tape_after t messages).listing ≡ t.listing
listing-kept t [] = refl
listing-kept t (m ∷ messages) = listing-kept (tape_after t m) messages ∙ listing-after t m

-- a tape that lists all symbols lists those of a later part
pub part-listed : (t now : TapeState) (messages done rest : List Message) → messages ≡ done ++ rest → now ≡ fold tape_after t done
    → lists_all t messages ≡ true → lists_all now rest ≡ true
part-listed t now messages done rest split is all =
    let part = (all-parts (λ m. lists_symbol t.listing (symbol_of m)) messages done rest split all).1 in
    rw (is, listing-kept t done) part

-- and it lists the symbol of the next message
pub next-listed : (t now : TapeState) (messages : List Message) (i : ℕ) (m : Message) → i < length messages → get_or messages i m ≡ m
    → now ≡ fold tape_after t (take i messages) → lists_all t messages ≡ true → lists_symbol now.listing (symbol_of m) ≡ true
next-listed t now messages i m within at is all =
    rw (is, listing-kept t (take i messages)) (all-at (λ m. lists_symbol t.listing (symbol_of m)) messages i m all within at)
