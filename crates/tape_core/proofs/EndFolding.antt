-- Shows the figures of all symbols, one message after another.
use Rattle.std.proofs.Common.{◌≡◌, ℕ, ◌+◌, ◌<◌, ◌==◌, ◌&&◌, Bool, true, false, cond, not, if◌then◌else◌, List, [], ◌∷◌, ◌++◌, length, take, drop, get_or, slice_get, slice_set, Option, Some, None, IsSome, IfSome, is_some}
use Rattle.std.proofs.Common.{refl, ap, ◌∙◌, sym, subst, arith}
use Rattle.std.specs.FinMap as map
use Rattle.std.specs.List.{All, cons_option, filter_map, position}
use Rattle.std.specs.Option.{option_map}
use Rattle.std.proofs.lemmas.Bool.Decides.{nat_tests}
use Rattle.std.proofs.lemmas.List.{append-nil, length-map, take-append-drop, take-map, take_more}
use Rattle.std.proofs.lemmas.List.Elements.{filter_map-append}
use Rattle.std.proofs.lemmas.List.Quantifiers.{position-Some}
use Rattle.std.proofs.lemmas.Option.{none-some, same_Some, slice_get-get_or, slice_get-map, slice_get_within, get_or_from_slice_get}
use Rattle.std.proofs.lemmas.Slice.Eq.{bytes_eq-Decides}
use Rattle.tape_types.specs.Names.{Names, symbol_eq}
use Rattle.sale_matrix.specs.Matrix.{is_within}
use Rattle.sale_matrix.specs.declared.content.Content.{Content}
use Rattle.corrections.specs.RegisterState.{targets_of}
use Rattle.corrections.specs.declared.target.Target.{Target}
use Rattle.corrections.specs.declared.target.Standing.{Standing as Stands}
use Rattle.corrections.specs.declared.target.Standing.TheVariants.{Standing, Cancelled}
use Rattle.reports.specs.Messages.{header_of, reported_content}
use Rattle.tape_core.specs.declared.end_figures.SymbolFigures.{SymbolFigures}
use Rattle.tape_core.specs.declared.end_tape.EndTape.{EndTape}
use Rattle.tape_core.specs.declared.end_tape.Sent.{Sent}
use Rattle.tape_core.specs.declared.entry.Entry.{Entry}
use Rattle.tape_core.specs.Books.{latest_content, target_of}
use Rattle.tape_core.specs.Ending.{AreFigures, AreFiguresOf, AreTableOf, CountsMessage, IsSentOf, KeepsEnd, sent_of}
use Rattle.tape_core.specs.Standing.{NumberedMessage, StandingReport, is_cancelled, is_of, is_report_of, last_number, named_report, standing_content, standing_report}
use Rattle.tape_core.specs.Tape.{TapeState, messages_of, numbered_message, refusal, tape_before}
use Rattle.tape_core.specs.Lemmas.LegalNext.{admissible}
use Rattle.tape_core.proofs.Cells.{get-set_other, get-set_same}
use Rattle.tape_core.proofs.list.Contents.{latest-within}
use Rattle.tape_core.proofs.list.Named.{named_report-append, named_report-first}
use Rattle.tape_core.proofs.list.Names.{named_report-above}
use Rattle.tape_core.proofs.list.Premises.{IsLegal-within}
use Rattle.tape_core.proofs.list.Reinstatements.{latest-there}

-- ## What a message is on the whole tape

-- a message that is no report, is of another symbol or is cancelled gives nothing
standing-if : (reported of_symbol gone : Bool) (now : Option Content) (place who : ℕ) → (reported && (of_symbol && not gone)) ≡ false
    → ◌≡◌ {A = Option StandingReport} (if reported && (of_symbol && not gone) then option_map (λ c. record { place = place; who = who; content = c }) now else None) None
standing-if reported of_symbol gone now place who is =
    ap (λ (b : Bool). cond b (option_map {U = StandingReport} (λ c. record { place = place; who = who; content = c }) now) None) is

module _ (tape : List NumberedMessage) (symbol : List ℕ) (n : NumberedMessage) where
  -- a message of another kind gives nothing
  pub standing-kind : is_some (reported_content n.1) ≡ false → standing_report tape symbol n ≡ None
  standing-kind is = standing-if (is_some (reported_content n.1)) (symbol_eq (header_of n.1).symbol symbol) (is_cancelled tape n.0) (standing_content tape n.0)
      n.0 (header_of n.1).participant (ap (λ b. b && (symbol_eq (header_of n.1).symbol symbol && not (is_cancelled tape n.0))) is)

  -- nor does a report of another symbol
  pub standing-other : symbol_eq (header_of n.1).symbol symbol ≡ false → standing_report tape symbol n ≡ None
  standing-other is = standing-if (is_some (reported_content n.1)) (symbol_eq (header_of n.1).symbol symbol) (is_cancelled tape n.0) (standing_content tape n.0)
      n.0 (header_of n.1).participant (ap (λ b. is_some (reported_content n.1) && (b && not (is_cancelled tape n.0))) is ∙ nothing (is_some (reported_content n.1)))
    where
      nothing : (b : Bool) → (b && false) ≡ false
      nothing true = refl
      nothing false = refl

  -- nor one that is cancelled
  pub standing-gone : is_cancelled tape n.0 ≡ true → standing_report tape symbol n ≡ None
  standing-gone is = standing-if (is_some (reported_content n.1)) (symbol_eq (header_of n.1).symbol symbol) (is_cancelled tape n.0) (standing_content tape n.0)
      n.0 (header_of n.1).participant (ap (λ b. is_some (reported_content n.1) && (symbol_eq (header_of n.1).symbol symbol && not b)) is
      ∙ nothing (is_some (reported_content n.1)) (symbol_eq (header_of n.1).symbol symbol))
    where
      nothing : (a b : Bool) → (a && (b && false)) ≡ false
      nothing true true = refl
      nothing true false = refl
      nothing false b = refl

  -- a report of the symbol that stands gives itself with its content
  pub standing-here : (content : Content) → is_some (reported_content n.1) ≡ true → symbol_eq (header_of n.1).symbol symbol ≡ true
      → is_cancelled tape n.0 ≡ false → standing_content tape n.0 ≡ Some content
      → standing_report tape symbol n ≡ Some (record { place = n.0; who = (header_of n.1).participant; content = content })
  standing-here content reported of_symbol stands now =
      λ i. cond (reported i && (of_symbol i && not (stands i)))
      (option_map {U = StandingReport} (λ c. record { place = n.0; who = (header_of n.1).participant; content = c }) (now i)) None

-- ## One message more

-- the reports of a symbol among messages, with those of one more message
more-reports : (tape : List NumberedMessage) (symbol : List ℕ) (first : List NumberedMessage) (n : NumberedMessage) (o : Option StandingReport)
    → standing_report tape symbol n ≡ o
    → filter_map (standing_report tape symbol) (first ++ n ∷ []) ≡ filter_map (standing_report tape symbol) first ++ cons_option o []
more-reports tape symbol first n o is =
    filter_map-append (standing_report tape symbol) first (n ∷ []) ∙ ap (λ o. filter_map (standing_report tape symbol) first ++ cons_option o []) is

module _ (t : TapeState) (first : List NumberedMessage) (n : NumberedMessage) where
  -- the messages of the tape
  abbrev tape : List NumberedMessage
  tape = messages_of t.entries

  -- figures stay those of a symbol for which the message gives nothing
  figures-skip : (symbol : List ℕ) (figures : Option SymbolFigures) → standing_report tape symbol n ≡ None → IfSome figures (AreFiguresOf t first symbol)
      → IfSome figures (AreFiguresOf t (first ++ n ∷ []) symbol)
  figures-skip symbol figures none was =
      subst (λ l. IfSome figures (AreFigures t.matrix l)) (sym (more-reports tape symbol first n None none ∙ append-nil (filter_map (standing_report tape symbol) first))) was

  -- a message that gives nothing for any symbol changes nothing
  pub table-skip : (table : List SymbolFigures) → ((symbol : List ℕ) → standing_report tape symbol n ≡ None) → AreTableOf t first table
      → AreTableOf t (first ++ n ∷ []) table
  table-skip table none was symbol index at = figures-skip symbol (slice_get table index) (none symbol) (was symbol index at)

  -- a message changes the figures of its symbol alone
  pub table-step : (old new : List SymbolFigures)
      → ((symbol : List ℕ) (index : ℕ) → position (symbol_eq symbol) t.listing.symbols ≡ Some index → (header_of n.1).symbol ≡ symbol
      → IfSome (slice_get new index) (AreFiguresOf t (first ++ n ∷ []) symbol))
      → ((symbol : List ℕ) (index : ℕ) → position (symbol_eq symbol) t.listing.symbols ≡ Some index → symbol_eq (header_of n.1).symbol symbol ≡ false
      → slice_get new index ≡ slice_get old index)
      → AreTableOf t first old → AreTableOf t (first ++ n ∷ []) new
  table-step old new here others was symbol index at =
      elim (symbol_eq (header_of n.1).symbol symbol) as (λ b. symbol_eq (header_of n.1).symbol symbol ≡ b
      → IfSome (slice_get new index) (AreFiguresOf t (first ++ n ∷ []) symbol)) [
        | true ↦ λ is. here symbol index at ((bytes_eq-Decides (header_of n.1).symbol symbol).0 is)
        | false ↦ λ is. subst (λ o. IfSome o (AreFiguresOf t (first ++ n ∷ []) symbol)) (sym (others symbol index at is))
            (figures-skip symbol (slice_get old index) (standing-other tape symbol n is) (was symbol index at))
      ] refl

  -- so nothing changes if its symbol has no figures
  pub table-unlisted : (table : List SymbolFigures) → ((index : ℕ) → position (symbol_eq (header_of n.1).symbol) t.listing.symbols ≡ Some index
      → slice_get table index ≡ None) → AreTableOf t first table → AreTableOf t (first ++ n ∷ []) table
  table-unlisted table none was = table-step table table
      (λ symbol index at is. subst (λ o. IfSome o (AreFiguresOf t (first ++ n ∷ []) symbol))
      (sym (none index (ap (λ s. position (symbol_eq s) t.listing.symbols) is ∙ at))) tt)
      (λ symbol index at other. refl) was

-- two symbols that are listed at one index are equal
one_symbol : (a b : List ℕ) (symbols : List (List ℕ)) (index : ℕ) → position (symbol_eq a) symbols ≡ Some index → position (symbol_eq b) symbols ≡ Some index
    → symbol_eq a b ≡ true
one_symbol a b symbols index at also =
    let of_a = (bytes_eq-Decides a (get_or symbols index a)).0 (position-Some (symbol_eq a) symbols index a at).1 in
    let of_b = (bytes_eq-Decides b (get_or symbols index a)).0 (position-Some (symbol_eq b) symbols index a also).1 in
    (bytes_eq-Decides a b).1 (of_a ∙ sym of_b)

-- a report that stands is counted at its symbol's index
module _ (t : TapeState) (first : List NumberedMessage) (n : NumberedMessage) (old : List SymbolFigures) (at : ℕ) (figures new : SymbolFigures)
    (found : position (symbol_eq (header_of n.1).symbol) t.listing.symbols ≡ Some at) (held : slice_get old at ≡ Some figures) (r : StandingReport)
    (gives : (symbol : List ℕ) → (header_of n.1).symbol ≡ symbol → standing_report (messages_of t.entries) symbol n ≡ Some r)
    (counted : (reports : List StandingReport) → AreFigures t.matrix reports figures → AreFigures t.matrix (reports ++ r ∷ []) new) where
  pub table-count : AreTableOf t first old → AreTableOf t (first ++ n ∷ []) (slice_set old at new)
  table-count was = table-step t first n old (slice_set old at new)
      (λ symbol index listed is.
      let same : index ≡ at = same_Some index at (sym listed ∙ ap (λ s. position (symbol_eq s) t.listing.symbols) (sym is) ∙ found) in
      let there : slice_get old index ≡ Some figures = ap (slice_get old) same ∙ held in
      let before : AreFiguresOf t first symbol figures = subst (λ o. IfSome o (AreFiguresOf t first symbol)) there (was symbol index listed) in
      let now : slice_get (slice_set old at new) index ≡ Some new = ap (slice_get (slice_set old at new)) same ∙ get-set_same old at new (slice_get_within old at figures held) in
      subst (λ o. IfSome o (AreFiguresOf t (first ++ n ∷ []) symbol)) (sym now)
      (subst (λ l. AreFigures t.matrix l new) (sym (more-reports (messages_of t.entries) symbol first n (Some r) (gives symbol is)))
      (counted (filter_map (standing_report (messages_of t.entries) symbol) first) before)))
      (λ symbol index listed other. get-set_other old at index new
      (λ same. let one = one_symbol (header_of n.1).symbol symbol t.listing.symbols at found (listed ∙ ap Some same) in absurd (cc (sym one ∙ other))))
      was

-- ## What is kept of a message

module _ (t : TapeState) (e : EndTape) (keeps : KeepsEnd t e) where
  -- the register has the report that a message is
  pub registered : (n : NumberedMessage) (s : Sent) (target : Option Target) → named_report (messages_of t.entries) s.who s.number ≡ Some n
      → map.get (targets_of e.register) (s.who, s.number) ≡ target → target ≡ Some (target_of (messages_of t.entries) n)
  registered n s target named there = sym there ∙ keeps.targets s.who s.number ∙ ap (option_map (target_of (messages_of t.entries))) named

  -- so the register has that report for what is kept of the message
  pub target-is : (n : NumberedMessage) (s : Sent) (sent : Option Sent) → sent ≡ Some s → IsSentOf t n sent → (target : Target)
      → map.get (targets_of e.register) (s.who, s.number) ≡ Some target → target ≡ target_of (messages_of t.entries) n
  target-is n s sent some is target there = same_Some target (target_of (messages_of t.entries) n)
      (registered n s (Some target) (subst (λ o. IfSome o (λ x. named_report (messages_of t.entries) x.who x.number ≡ Some n)) some is.1) there)

  -- a report in the register is of the matrix
  pub kept-within : (who number : ℕ) (target : Target) → map.get (targets_of e.register) (who, number) ≡ Some target
      → is_within e.matrix target.content.condition ≡ true
  kept-within who number target there = by (named_report (messages_of t.entries) who number) refl (sym (keeps.targets who number) ∙ there)
    where
      by : (o : Option NumberedMessage) → named_report (messages_of t.entries) who number ≡ o → option_map (target_of (messages_of t.entries)) o ≡ Some target
          → is_within e.matrix target.content.condition ≡ true
      by None named is = absurd (none-some target is)
      by (Some n) named is =
          let same : target_of (messages_of t.entries) n ≡ target = same_Some _ _ is in
          (λ i. is_within (sym keeps.matrix i) (sym same i).content.condition)
          ∙ latest-within t.matrix (messages_of t.entries) n.0 (latest_content (messages_of t.entries) n.0) (IsLegal-within t keeps.tape.legal)
          (latest-there (messages_of t.entries) who number n named)

-- if a report is kept of a message, the message is a report of that participant
pub sent-is : (n : NumberedMessage) (s : Sent) → Some s ≡ sent_of n → (is_some (reported_content n.1) ≡ true) × (s.who ≡ (header_of n.1).participant)
sent-is n s is = by (reported_content n.1) is
  where
    by : (o : Option Content) → Some s ≡ option_map (λ _. record { who = (header_of n.1).participant; number = (header_of n.1).number }) o
        → (is_some o ≡ true) × (s.who ≡ (header_of n.1).participant)
    by None is = absurd (cc)
    by (Some content) is = (refl, ap (λ (x : Sent). x.who) (same_Some s _ is))

-- nothing is kept of a message of another kind
pub sent-none : (n : NumberedMessage) → None ≡ sent_of n → is_some (reported_content n.1) ≡ false
sent-none n is = by (reported_content n.1) is
  where
    by : (o : Option Content) → None ≡ option_map {U = Sent} (λ _. record { who = (header_of n.1).participant; number = (header_of n.1).number }) o → is_some o ≡ false
    by None is = refl
    by (Some content) is = absurd (cc)

-- whether a report stands, as the register keeps it
pub stands-as : (gone : Bool) → (◌≡◌ {A = Stands} (if gone then Cancelled else Standing) Cancelled → gone ≡ true)
    × ((◌≡◌ {A = Stands} (if gone then Cancelled else Standing) Cancelled → ⊥) → gone ≡ false)
stands-as true = (λ _. refl, λ other. absurd (other refl))
stands-as false = (λ is. absurd (cc), λ _. refl)

-- ## Each message is its own

module _ (t : TapeState) (e : EndTape) (keeps : KeepsEnd t e) (k : ℕ) (n : NumberedMessage) (at : slice_get (messages_of t.entries) k ≡ Some n) where
  -- the messages of the tape
  abbrev whole : List NumberedMessage
  whole = messages_of t.entries

  -- its number is above those of its participant before it
  number-above : last_number (messages_of (take k t.entries)) (header_of n.1).participant < (header_of n.1).number
  number-above = by (slice_get t.entries k) refl (sym (slice_get-map numbered_message t.entries k) ∙ at)
    where
      by : (o : Option Entry) → slice_get t.entries k ≡ o → option_map numbered_message o ≡ Some n
          → last_number (messages_of (take k t.entries)) (header_of n.1).participant < (header_of n.1).number
      by None there is = absurd (none-some n is)
      by (Some x) there is =
          let same : x.message ≡ n.1 = ap (λ (p : NumberedMessage). p.1) (same_Some (numbered_message x) n is) in
          let none : refusal (tape_before t k) n.1 ≡ None = subst (λ m. refusal (tape_before t k) m ≡ None) same (keeps.tape.legal k x there).0 in
          let fact = (admissible (tape_before t k) n.1 none).above in
          grind (arith, nat_tests)

  -- so no other message has its name
  named-itself : is_some (reported_content n.1) ≡ true → named_report whole (header_of n.1).participant (header_of n.1).number ≡ Some n
  named-itself reported =
      let who = (header_of n.1).participant in
      let number = (header_of n.1).number in
      let name : is_report_of who number n.1 ≡ true = its_name (is_some (reported_content n.1)) reported in
      let fresh : named_report (take k whole) who number ≡ None =
      ap (λ ns. named_report ns who number) (take-map numbered_message k t.entries) ∙ named_report-above (messages_of (take k t.entries)) who number number-above in
      let front : take (k + 1) whole ≡ take k whole ++ n ∷ [] = take_more whole k n (slice_get_within whole k n at)
      ∙ ap (λ x. take k whole ++ x ∷ []) (get_or_from_slice_get whole k n n at) in
      let here : named_report (take (k + 1) whole) who number ≡ Some n =
      ap (λ ns. named_report ns who number) front ∙ named_report-first (take k whole) n who number fresh name in
      ap (λ ns. named_report ns who number) (sym (take-append-drop (k + 1) whole))
      ∙ named_report-append (take (k + 1) whole) (drop (k + 1) whole) who number (subst (λ o. IsSome o) (sym here) refl) ∙ here
    where
      its_name : (b : Bool) → b ≡ true
          → (b && (is_of (header_of n.1).participant n.1 && (header_of n.1).number == (header_of n.1).number)) ≡ true
      its_name b is = grind (arith, nat_tests)

  -- so what is kept of it names it
  pub IsSentOf-itself : IsSentOf t n (sent_of n)
  IsSentOf-itself = (refl, by (reported_content n.1) (λ reported. named-itself reported))
    where
      by : (o : Option Content) → (is_some o ≡ true → named_report whole (header_of n.1).participant (header_of n.1).number ≡ Some n)
          → IfSome (option_map {U = Sent} (λ _. record { who = (header_of n.1).participant; number = (header_of n.1).number }) o)
          (λ s. named_report whole s.who s.number ≡ Some n)
      by None named = tt
      by (Some content) named = named refl

-- what is kept at an index is what is kept of the message there
pub sent-at : (t : TapeState) (e : EndTape) → KeepsEnd t e → (k : ℕ) (n : NumberedMessage) → slice_get (messages_of t.entries) k ≡ Some n
    → (sent : Option Sent) → sent ≡ get_or e.reports.items k sent → sent ≡ sent_of n
sent-at t e keeps k n at sent is =
    is ∙ get_or_from_slice_get e.reports.items k (sent_of n) sent
    (ap (λ l. slice_get l k) keeps.reports ∙ slice_get-map sent_of (messages_of t.entries) k ∙ ap (option_map sent_of) at)

-- the messages so far with the next
module _ (t : TapeState) (e : EndTape) (listing : Names) (keeps : KeepsEnd t e) (names : t.listing ≡ listing) (k : ℕ) (sent : Option Sent)
    (old new : List SymbolFigures) where
  pub table-next : k < length e.reports.items → sent ≡ get_or e.reports.items k sent → CountsMessage e listing sent old new
      → AreTableOf t (take k (messages_of t.entries)) old → AreTableOf t (take (k + 1) (messages_of t.entries)) new
  table-next inside is counts was = by (slice_get (messages_of t.entries) k) refl
    where
      count : length e.reports.items ≡ length (messages_of t.entries)
      count = ap length keeps.reports ∙ length-map (messages_of t.entries) sent_of

      by : (o : Option NumberedMessage) → slice_get (messages_of t.entries) k ≡ o → AreTableOf t (take (k + 1) (messages_of t.entries)) new
      by None none = absurd (beyond none)
        where
          beyond : slice_get (messages_of t.entries) k ≡ None → ⊥
          beyond none =
              let gone : slice_get e.reports.items k ≡ None =
              ap (λ l. slice_get l k) keeps.reports ∙ slice_get-map sent_of (messages_of t.entries) k ∙ ap (option_map sent_of) none in
              none-some _ (sym gone ∙ slice_get-get_or e.reports.items k sent inside)
      by (Some n) at =
          let itself = subst (IsSentOf t n) (sym (sent-at t e keeps k n at sent is)) (IsSentOf-itself t e keeps k n at) in
          subst (λ ns. AreTableOf t ns new)
          (sym (take_more (messages_of t.entries) k n (slice_get_within (messages_of t.entries) k n at)
          ∙ ap (λ x. take k (messages_of t.entries) ++ x ∷ []) (get_or_from_slice_get (messages_of t.entries) k n n at)))
          (counts t (take k (messages_of t.entries)) n keeps names itself was)

-- figures of no report are those of no message
pub table-first : (t : TapeState) (table : List SymbolFigures) → All (AreFigures t.matrix []) table → AreTableOf t [] table
table-first t table none symbol index at = by (slice_get table index) refl
  where
    by : (o : Option SymbolFigures) → slice_get table index ≡ o → IfSome o (AreFiguresOf t [] symbol)
    by None there = tt
    by (Some figures) there =
        subst (AreFigures t.matrix []) (get_or_from_slice_get table index figures figures there) (none index figures (slice_get_within table index figures there))
