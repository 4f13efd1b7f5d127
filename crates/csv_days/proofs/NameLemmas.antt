-- The names of messages that come one after another, as far as a listing takes them.
use Rattle.std.proofs.Common.{◌≡◌, ◌≤◌, ◌<◌, ◌∷◌, ◌++◌, ◌∙◌, [], ℕ, List, Bool, IfErr, IfOk, OnOk, Option, Some, None, Result, Ok, Err, true, false, ap, arith, inl, inr, length, length-append, map, nat_eq, refl, subst, sym, unwrap_or}
use Rattle.std.proofs.lemmas.Bool.{lt-ltb}
use Rattle.std.proofs.lemmas.List.{map-append}
use Rattle.std.proofs.lemmas.List.Sums.{fold_push}
use Rattle.std.specs.List.{list_any}
use Rattle.indexmap.specs.IndexSet.{insert_all, insert_key}
use Rattle.reports.specs.Messages.{header_of}
use Rattle.reports.specs.declared.message.Header.{Header}
use Rattle.reports.specs.declared.message.Message.{Message}
use Rattle.tape_types.specs.Names.{Names, names_fault, symbol_eq}
use Rattle.tape_types.specs.Ranges.{SYMBOLS_MOST}
use Rattle.tape_types.specs.declared.listing_fault.ListingFault.{ListingFault}
use Rattle.tape_types.specs.declared.listing_fault.ListingFault.TheVariants.{TooMany, OutOfMemory}
use Rattle.csv_days.specs.Checks.{names_wrong}
use Rattle.csv_days.specs.EndDays.{AreAllOrTooMany, AreNames}
use Rattle.csv_days.specs.Days.{IsListingFault, MakeListing, names_of, participants_of, symbol_of, symbols_of}
use Rattle.csv_days.specs.declared.day_names.DayNames.{DayNames}

-- the names of one message more
names-more : {A : Type 0} (eq : A → A → Bool) (name : Message → A) (messages : List Message) (m : Message)
    → insert_all eq [] (map name (messages ++ m ∷ [])) ≡ insert_key eq (insert_all eq [] (map name messages)) (name m)
names-more eq name messages m =
    ap (insert_all eq []) (map-append name messages (m ∷ [])) ∙ fold_push (insert_key eq) [] (map name messages) (name m)

-- the symbols of one message more
pub symbols-more : (messages : List Message) (m : Message) → symbols_of (messages ++ m ∷ []) ≡ insert_key symbol_eq (symbols_of messages) (symbol_of m)
symbols-more messages m = names-more symbol_eq symbol_of messages m

-- the participants of one message more
pub participants-more : (messages : List Message) (m : Message)
    → participants_of (messages ++ m ∷ []) ≡ insert_key nat_eq (participants_of messages) (header_of m).participant
participants-more messages m = names-more nat_eq (λ m. (header_of m).participant) messages m

-- names do not become fewer by more
all-grow : {A : Type 0} (eq : A → A → Bool) (ks xs : List A) → length ks ≤ length (insert_all eq ks xs)
all-grow eq ks [] = omega arith
all-grow {A} eq ks (x ∷ xs) = by (list_any (eq x) ks) refl (λ l. all-grow eq l xs)
  where
    by : (b : Bool) → list_any (eq x) ks ≡ b → ((l : List A) → length l ≤ length (insert_all eq l xs)) → length ks ≤ length (insert_all eq (insert_key eq ks x) xs)
    by true there behind = rw there (behind ks)
    by false new behind = rw new (omega (arith, behind (ks ++ x ∷ []), length-append ks (x ∷ [])))

-- a message has names
some-names : {A : Type 0} (eq : A → A → Bool) (name : Message → A) (m : Message) (ms : List Message) → 0 < length (insert_all eq [] (map name (m ∷ ms)))
some-names eq name m ms = omega (arith, all-grow eq (name m ∷ []) (map name ms))

-- symbols that are more than a listing takes, of which there are participants, are its fault
too-many : (symbols : List (List ℕ)) (participants : List ℕ) → SYMBOLS_MOST < length symbols → 0 < length participants
    → names_fault symbols participants ≡ Some TooMany
too-many [] participants over some = absurd (omega (arith, over))
too-many (s ∷ symbols) [] over some = absurd (omega (arith, some))
too-many (s ∷ symbols) (p ∷ participants) over some = rw (lt-ltb SYMBOLS_MOST (length (s ∷ symbols)) over) refl

-- what is wrong with the names that are kept is wrong with all
pub kept-fault : (messages : List Message) (names : DayNames) → AreNames messages names
    → names_fault names.symbols.keys names.participants.keys ≡ names_fault (symbols_of messages) (participants_of messages)
kept-fault messages names are = elim are.symbols [
  | inl same ↦ rw (same, are.participants) refl
  | inr over ↦ over-fault messages are over.0 over.1
]
  where
    over-fault : (messages : List Message) → AreNames messages names → SYMBOLS_MOST < length names.symbols.keys → SYMBOLS_MOST < length (symbols_of messages)
        → names_fault names.symbols.keys names.participants.keys ≡ names_fault (symbols_of messages) (participants_of messages)
    over-fault [] are some all = absurd (omega (arith, all))
    over-fault (m ∷ ms) are some all =
        let who = some-names nat_eq (λ m. (header_of m).participant) m ms in
        too-many names.symbols.keys names.participants.keys some (omega (arith, who, ap length are.participants))
        ∙ sym (too-many (symbols_of (m ∷ ms)) (participants_of (m ∷ ms)) all who)

-- so those of a listing are all
pub kept-all : (messages : List Message) (names : DayNames) → AreNames messages names → names_fault names.symbols.keys names.participants.keys ≡ None
    → names.symbols.keys ≡ symbols_of messages
kept-all messages names are fine = elim are.symbols [
  | inl same ↦ same
  | inr over ↦ absurd (never messages are over.1)
]
  where
    never : (messages : List Message) → AreNames messages names → SYMBOLS_MOST < length (symbols_of messages) → ⊥
    never [] are all = omega (arith, all)
    never (m ∷ ms) are all =
        cc (sym fine ∙ kept-fault (m ∷ ms) names are ∙ too-many (symbols_of (m ∷ ms)) (participants_of (m ∷ ms)) all (some-names nat_eq (λ m. (header_of m).participant) m ms))

-- if no symbol is kept there is no message
pub names-none : (messages : List Message) (names : DayNames) → AreNames messages names → length names.symbols.keys ≡ 0 → None ≡ names_wrong messages
names-none [] names had none = refl
names-none (m ∷ ms) names had none = elim had.symbols [
  | inl same ↦ absurd (omega (arith, none, ap length same, some-names symbol_eq symbol_of m ms))
  | inr over ↦ absurd (omega (arith, none, over.0))
]

-- the names of one message more
pub AreNames-more : (messages : List Message) (m : Message) (old new : DayNames) (header : Header) → header ≡ header_of m
    → AreAllOrTooMany new.symbols.keys (insert_key symbol_eq (symbols_of messages) header.symbol)
    → new.participants.keys ≡ insert_key nat_eq old.participants.keys header.participant → AreNames messages old → AreNames (messages ++ m ∷ []) new
AreNames-more messages m old new header same symbols participants had = record {
  symbols = subst (λ (l : List (List ℕ)). AreAllOrTooMany new.symbols.keys l) (sym (symbols-more messages m))
      (subst (λ (h : Header). AreAllOrTooMany new.symbols.keys (insert_key symbol_eq (symbols_of messages) h.symbol)) same symbols);
  participants = participants ∙ ap (λ (l : List ℕ). insert_key nat_eq l header.participant) had.participants
      ∙ ap (λ (h : Header). insert_key nat_eq (participants_of messages) h.participant) same ∙ sym (participants-more messages m);
}

-- ## The listing of the names that are kept

module _ (names : DayNames) (symbols : List (List ℕ)) (participants : List ℕ) (same : symbols ≡ names.symbols.keys) (who : participants ≡ names.participants.keys) where
  -- what is wrong with it is wrong with all names
  all-fault : (messages : List Message) → AreNames messages names → names_fault symbols participants ≡ names_fault (symbols_of messages) (participants_of messages)
  all-fault messages are = rw (same, who) (kept-fault messages names are)

  -- it has all names
  pub listing-names : (made : Result Names ListingFault) → OnOk made (names_fault symbols participants ≡ None)
      → IfOk made (λ l. l ≡ record { symbols = symbols; participants = participants })
      → IfOk made (λ l. (messages : List Message) → AreNames messages names → l ≡ names_of messages)
  listing-names (Err fault) fine is = tt
  listing-names (Ok l) fine is = λ messages are.
      is ∙ rw (same, who, kept-all messages names are (rw (← same, ← who) fine), are.participants) refl

  -- they make a listing
  pub listing-made : (made : Result Names ListingFault) → OnOk made (names_fault symbols participants ≡ None)
      → OnOk made ((messages : List Message) → AreNames messages names → MakeListing messages)
  listing-made (Err fault) fine = tt
  listing-made (Ok l) fine = λ messages are. sym (all-fault messages are) ∙ fine

  -- or they make none
  pub listing-fails : (made : Result Names ListingFault) → IfErr made (λ e. e ≡ unwrap_or (names_fault symbols participants) OutOfMemory)
      → IfErr made (λ fault. (messages : List Message) → AreNames messages names → IsListingFault messages fault)
  listing-fails (Ok l) is = tt
  listing-fails (Err fault) is = λ messages are. inr (is ∙ ap (λ (f : Option ListingFault). unwrap_or f OutOfMemory) (all-fault messages are))
