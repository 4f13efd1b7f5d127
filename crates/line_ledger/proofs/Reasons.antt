-- What a refusal under the lock tells the seat's holder.
use Rattle.std.proofs.Common.{◌≡◌, ◌≢◌, ◌<◌, ◌≤◌, ◌==◌, ℕ, Bool, true, false, not, nat_le, List, [], ◌∷◌, length, refl, ap, subst, ◌∙◌, sym, arith, Option, Some}
use Rattle.std.proofs.Common.{None, unwrap_or, true≢false}
use Rattle.std.specs.Option.{option_map}
use Rattle.std.proofs.lemmas.Bool.Decides.{nat_tests}
use Rattle.reports.specs.declared.message.Message.{Message}
use Rattle.reports.specs.Messages.{header_of}
use Rattle.tape_core.specs.declared.refusal.Refusal.{Refusal}
use Rattle.tape_core.specs.declared.refusal.Refusal.TheVariants.{WrongLine, OutOfMemory}
use Rattle.tape_core.specs.Refusals.{refusal_code}
use Rattle.tape_core.specs.Standing.{last_number}
use Rattle.tape_core.specs.Tape.{TapeState, refusal, messages_of, lists_participant, lists_symbol, is_in_matrix}
use Rattle.tape_core.specs.Lemmas.RefusalCases.{EachCase, of_refusal}
use Rattle.line_ledger.specs.declared.line_refusal.LineRefusal.{LineRefusal}
use Rattle.line_ledger.specs.declared.line_refusal.LineRefusal.TheVariants.{Behind, Refused}
use Rattle.line_ledger.specs.Faults.{line_refusal_code}
use Rattle.line_ledger.specs.Days.{Terms, IsDay}
use Rattle.line_ledger.specs.Admissions.{line_refusal, Refuses, TellsWhy}
use Rattle.line_ledger.specs.Seats.{SeatState, agrees, last_told}

-- what a refusal by a tape says of it
pub record Says (t : TapeState) (m : Message) (r : Refusal) : Type 0 where
  pub wrong_line : refusal_code r ≡ 33 → ⊥
  pub closed : refusal_code r ≡ 31 → t.closed ≡ true
  pub unknown : refusal_code r ≡ 34 → not (lists_participant t.listing (header_of m).participant) ≡ true
  pub stale : refusal_code r ≡ 35 → nat_le (header_of m).number (last_number (messages_of t.entries) (header_of m).participant) ≡ true
  pub unlisted : refusal_code r ≡ 36 → not (lists_symbol t.listing (header_of m).symbol) ≡ true
  pub not_within : refusal_code r ≡ 44 → not (is_in_matrix t.matrix m) ≡ true

module _ (t : TapeState) (m : Message) where
  -- a refusal of another number says nothing
  other-says : (r : Refusal) → 37 ≤ refusal_code r → refusal_code r < 44 → Says t m r
  other-says r high low = record {
    wrong_line = λ e. omega arith;
    closed = λ e. absurd (omega arith);
    unknown = λ e. absurd (omega arith);
    stale = λ e. absurd (omega arith);
    unlisted = λ e. absurd (omega arith);
    not_within = λ e. absurd (omega arith);
  }

  -- a refusal by the tape says so
  refusal-says : (r : Refusal) → refusal t m ≡ Some r → Says t m r
  refusal-says r is = of_refusal (Says t m) t m r (record {
    closed = λ b. record {
      wrong_line = λ e. omega arith;
      closed = λ e. b;
      unknown = λ e. absurd (omega arith);
      stale = λ e. absurd (omega arith);
      unlisted = λ e. absurd (omega arith);
      not_within = λ e. absurd (omega arith);
    };
    full = λ b. record {
      wrong_line = λ e. omega arith;
      closed = λ e. absurd (omega arith);
      unknown = λ e. absurd (omega arith);
      stale = λ e. absurd (omega arith);
      unlisted = λ e. absurd (omega arith);
      not_within = λ e. absurd (omega arith);
    };
    unknown = λ b. record {
      wrong_line = λ e. omega arith;
      closed = λ e. absurd (omega arith);
      unknown = λ e. b;
      stale = λ e. absurd (omega arith);
      unlisted = λ e. absurd (omega arith);
      not_within = λ e. absurd (omega arith);
    };
    stale = λ b. record {
      wrong_line = λ e. omega arith;
      closed = λ e. absurd (omega arith);
      unknown = λ e. absurd (omega arith);
      stale = λ e. b;
      unlisted = λ e. absurd (omega arith);
      not_within = λ e. absurd (omega arith);
    };
    unlisted = λ b. record {
      wrong_line = λ e. omega arith;
      closed = λ e. absurd (omega arith);
      unknown = λ e. absurd (omega arith);
      stale = λ e. absurd (omega arith);
      unlisted = λ e. b;
      not_within = λ e. absurd (omega arith);
    };
    not_within = λ b. record {
      wrong_line = λ e. omega arith;
      closed = λ e. absurd (omega arith);
      unknown = λ e. absurd (omega arith);
      stale = λ e. absurd (omega arith);
      unlisted = λ e. absurd (omega arith);
      not_within = λ e. b;
    };
    unnamed = other-says _ (omega arith) (omega arith);
    of_other = other-says _ (omega arith) (omega arith);
    cancelled = other-says _ (omega arith) (omega arith);
    standing = other-says _ (omega arith) (omega arith);
  }) is

  -- the answer of the tape, out of memory included
  answer-says : (o : Option Refusal) → refusal t m ≡ o → Says t m (unwrap_or o OutOfMemory)
  answer-says None is = other-says OutOfMemory (omega arith) (omega arith)
  answer-says (Some r) is = refusal-says r is

-- the last number that a seat was told is the last on a tape that agrees with it
pub agrees-last : (t : TapeState) (s : SeatState) → agrees t s ≡ true → last_number (messages_of t.entries) s.who ≡ last_told 0 s.told
agrees-last t s same = grind (arith, nat_tests)

-- the reason, by whose message it is and by whether the tape has what the seat was told
pub record IsWhy (t : TapeState) (s : SeatState) (m : Message) (why : LineRefusal) : Type 0 where
  pub wrong_line : (header_of m).participant ≢ s.who → why ≡ Refused WrongLine
  pub behind : (header_of m).participant ≡ s.who → agrees t s ≡ false → why ≡ Behind
  pub tape : (header_of m).participant ≡ s.who → agrees t s ≡ true → why ≡ Refused (unwrap_or (refusal t m) OutOfMemory)

-- a line refuses as the tape does, or as out of memory if the tape has no reason
unwrap-map : (o : Option Refusal) → unwrap_or (option_map Refused o) (Refused OutOfMemory) ≡ Refused (unwrap_or o OutOfMemory)
unwrap-map None = refl
unwrap-map (Some r) = refl

-- a message of another participant is refused as on the wrong line
refuses_other : (t : TapeState) (s : SeatState) (m : Message) → (header_of m).participant ≢ s.who → line_refusal t s m ≡ Some (Refused WrongLine)
refuses_other t s m other = grind (arith, nat_tests, other)

-- a message of the seat's own is refused as behind if the tape does not have what the seat was told
refuses_behind : (t : TapeState) (s : SeatState) (m : Message) → (header_of m).participant ≡ s.who → agrees t s ≡ false → line_refusal t s m ≡ Some Behind
refuses_behind t s m own late = grind (arith, nat_tests, own, late)

-- a message of the seat's own is refused as the tape refuses it if the tape has what the seat was told
refuses_as_tape : (t : TapeState) (s : SeatState) (m : Message) → (header_of m).participant ≡ s.who → agrees t s ≡ true
    → line_refusal t s m ≡ option_map Refused (refusal t m)
refuses_as_tape t s m own same = grind (arith, nat_tests, own, same)

-- the reason of a line, or out of memory, is the one that applies
is_why : (t : TapeState) (s : SeatState) (m : Message) (why : LineRefusal) → why ≡ unwrap_or (line_refusal t s m) (Refused OutOfMemory) → IsWhy t s m why
is_why t s m why is = record {
  wrong_line = λ other. is ∙ ap (λ o. unwrap_or o (Refused OutOfMemory)) (refuses_other t s m other);
  behind = λ own late. is ∙ ap (λ o. unwrap_or o (Refused OutOfMemory)) (refuses_behind t s m own late);
  tape = λ own same. is ∙ ap (λ o. unwrap_or o (Refused OutOfMemory)) (refuses_as_tape t s m own same) ∙ unwrap-map (refusal t m);
}

-- if the message is the seat's own and the tape has what the seat was told, the reason is the tape's
pub why_as_tape : (t : TapeState) (s : SeatState) (m : Message) (r : Refusal) → (header_of m).participant ≡ s.who → agrees t s ≡ true
    → r ≡ unwrap_or (refusal t m) OutOfMemory → Refused r ≡ unwrap_or (line_refusal t s m) (Refused OutOfMemory)
why_as_tape t s m r own same is =
    ap Refused is ∙ sym (ap (λ o. unwrap_or o (Refused OutOfMemory)) (refuses_as_tape t s m own same) ∙ unwrap-map (refusal t m))

-- what each reason is, by its number
pub record Learns (terms : Terms) (s : SeatState) (m : Message) (code : ℕ) : Type 0 where
  pub wrong_line : code ≡ 33 → (header_of m).participant ≢ s.who
  pub stale : code ≡ 35 → (header_of m).number ≤ last_told 0 s.told
  pub unlisted : code ≡ 36 → lists_symbol terms.listing (header_of m).symbol ≡ false
  pub not_within : code ≡ 44 → is_in_matrix terms.matrix m ≡ false
  pub never_closed : code ≡ 31 → ⊥
  pub never_unknown : code ≡ 34 → ⊥

-- a boolean whose negation is true is false
not-true : (b : Bool) → not b ≡ true → b ≡ false
not-true true is = absurd (true≢false (sym is))
not-true false is = refl

-- on a tape of the day, the number of a reason tells a listed seat's holder what is wrong
learns : (terms : Terms) (t : TapeState) (s : SeatState) (m : Message) (why : LineRefusal) → IsDay terms t → lists_participant terms.listing s.who ≡ true
    → IsWhy t s m why → Learns terms s m (line_refusal_code why)
learns terms t s m why day listed reasons = elim ((header_of m).participant == s.who) as
    (λ b. ((header_of m).participant == s.who) ≡ b → Learns terms s m (line_refusal_code why)) [
      | false ↦ λ e. other (neq e)
      | true ↦ λ e. elim (agrees t s) as (λ b. agrees t s ≡ b → Learns terms s m (line_refusal_code why)) [
        | false ↦ λ late. behind (eq e) late
        | true ↦ λ same. tape (eq e) same
      ] refl
    ] refl
  where
    neq : ((header_of m).participant == s.who) ≡ false → (header_of m).participant ≢ s.who
    neq e = grind (arith, nat_tests, e)

    eq : ((header_of m).participant == s.who) ≡ true → (header_of m).participant ≡ s.who
    eq e = grind (arith, nat_tests, e)

    other : (header_of m).participant ≢ s.who → Learns terms s m (line_refusal_code why)
    other not_own = subst (λ x. Learns terms s m (line_refusal_code x)) (sym (reasons.wrong_line not_own))
        (record {
          wrong_line = λ e. not_own;
          stale = λ e. omega arith;
          unlisted = λ e. absurd (omega arith);
          not_within = λ e. absurd (omega arith);
          never_closed = λ e. omega arith;
          never_unknown = λ e. omega arith;
        })

    behind : (header_of m).participant ≡ s.who → agrees t s ≡ false → Learns terms s m (line_refusal_code why)
    behind own late = subst (λ x. Learns terms s m (line_refusal_code x)) (sym (reasons.behind own late))
        (record {
          wrong_line = λ e. absurd (omega arith);
          stale = λ e. omega arith;
          unlisted = λ e. absurd (omega arith);
          not_within = λ e. absurd (omega arith);
          never_closed = λ e. omega
              arith;
          never_unknown = λ e. omega arith;
        })

    tape : (header_of m).participant ≡ s.who → agrees t s ≡ true → Learns terms s m (line_refusal_code why)
    tape own same =
        let says = answer-says t m (refusal t m) refl in
        let last : last_number (messages_of t.entries) (header_of m).participant ≡ last_told 0 s.told = ap (last_number (messages_of t.entries)) own
        ∙ agrees-last t s same in
        let known : lists_participant t.listing (header_of m).participant ≡ true = ap (lists_participant t.listing) own ∙ ap
        (λ l. lists_participant l s.who) day.listed ∙ listed in
        subst (λ x. Learns terms s m (line_refusal_code x)) (sym (reasons.tape own same))
        (record {
          wrong_line = λ e. absurd (says.wrong_line e);
          stale = λ e. subst (λ n. (header_of m).number ≤ n) last (le (says.stale e));
          unlisted = λ e. ap (λ l. lists_symbol l (header_of m).symbol) (sym day.listed) ∙ not-true _ (says.unlisted e);
          not_within = λ e. ap (λ x. is_in_matrix x m) (sym day.by_matrix) ∙ not-true _ (says.not_within e);
          never_closed = λ e. true≢false (sym (says.closed e) ∙ day.unclosed);
          never_unknown = λ e. true≢false (sym known ∙ not-true _ (says.unknown e));
        })
      where
        le : {a b : ℕ} → nat_le a b ≡ true → a ≤ b
        le {a} {b} h = grind (arith, nat_tests, h)

-- a refusal under the lock tells a listed seat's holder why
pub tells_why : (terms : Terms) (t : TapeState) (s : SeatState) (m : Message) (why : LineRefusal) (t' : TapeState) (s' : SeatState)
    → IsDay terms t → lists_participant terms.listing s.who ≡ true → Refuses t s m why t' s' → TellsWhy terms s m why s'
tells_why terms t s m why t' s' day listed refuses =
    let reasons = is_why t s m why refuses.why_is in
    let said = learns terms t s m why day listed reasons in
    record {
      seat = refuses.seat;
      wrong_line = (λ e. said.wrong_line (ap line_refusal_code e), reasons.wrong_line);
      stale = λ e. said.stale (ap line_refusal_code e);
      unlisted = λ e. said.unlisted (ap line_refusal_code e);
      not_within = λ e. said.not_within (ap line_refusal_code e);
      never_closed = λ e. said.never_closed (ap line_refusal_code e);
      never_unknown = λ e. said.never_unknown (ap line_refusal_code e);
    }
