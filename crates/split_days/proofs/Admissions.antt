-- A tape of some symbols beside the tape of all: it refuses none of its messages that the other admits, and stays its part.
use Rattle.std.proofs.Common.{◌≡◌, ℕ, ◌+◌, ◌≤◌, ◌<◌, ◌==◌, ◌&&◌, nat_le, Bool, true, false, cond, not, List, [], ◌∷◌, ◌++◌, Option, Some, None, is_some}
use Rattle.std.proofs.Common.{length, map, filter, fold, max, refl, sym, ap, subst, ◌∙◌, arith, length-append, append_assoc}
use Rattle.std.specs.List.{AllByRecursion, list_all, position}
use Rattle.std.proofs.lemmas.Bool.{true≢false}
use Rattle.std.proofs.lemmas.Bool.Decides.{nat_tests}
use Rattle.std.proofs.lemmas.List.{append-nil, length-map, map-append}
use Rattle.std.proofs.lemmas.List.Elements.{filter-append}
use Rattle.std.proofs.lemmas.Slice.Eq.{bytes_eq-Decides}
use Rattle.tape_types.specs.Names.{Names, first_fault, symbol_eq}
use Rattle.sale_matrix.specs.declared.matrix.Matrix.{Matrix}
use Rattle.reports.specs.declared.message.Message.{Message}
use Rattle.reports.specs.Messages.{header_of}
use Rattle.scratch_fold.specs.declared.summary.Summary.{Summary}
use Rattle.tape_core.specs.Standing.{NumberedMessage, is_of, last_number, symbol_summary, participant_summary}
use Rattle.tape_core.specs.Tape.{TapeState, empty_tape, refusal, next_entry, with_message, messages_of, numbered_message}
use Rattle.tape_core.specs.Ending.{ListsNames}
use Rattle.tape_core.specs.Tape.{lists_participant, lists_symbol, is_in_matrix, message_faults}
use Rattle.tape_core.specs.Lemmas.LegalNext.{IsAdmissible, admissible}
use Rattle.csv_days.specs.Days.{symbol_of}
use Rattle.split_days.specs.Split.{AdmitsAll, HaveOneMessage, HasSameSummary, HasRoom, HasSameParticipantSummary, IsSameSummary, part_of, tape_after_all}
use Rattle.split_days.proofs.Numbered.{numbered, length-numbered, numbered-push}
use Rattle.split_days.proofs.Named.{keeps, AllNameAlike, AllNameAlike-push, NamesAlike, NamesAlike-sound}
use Rattle.split_days.proofs.Parts.{message_faults-part, symbol_summary-same, participant_summary-same}

-- ## A participant's last number

-- a participant's messages
abbrev sent_by : ℕ → List NumberedMessage → List NumberedMessage
sent_by who tape = filter (λ n. is_of who n.1) tape

-- the greatest number of the messages, but no less than `least`
abbrev greatest : ℕ → List NumberedMessage → ℕ
greatest least tape = fold max least (map (λ n. (header_of n.1).number) tape)

-- a participant's greatest number on a part is at most that on the whole
greatest-part : (keep : Message → Bool) (who a b first kept_first : ℕ) (ms : List Message) → a ≤ b
    → greatest a (sent_by who (numbered kept_first (filter keep ms))) ≤ greatest b (sent_by who (numbered first ms))
greatest-part keep who a b first kept_first [] less = less
greatest-part keep who a b first kept_first (m ∷ ms) less =
    let number : ℕ = (header_of m).number in
    let rest : List Message = filter keep ms in
    let part_rest : List NumberedMessage = sent_by who (numbered (kept_first + 1) rest) in
    let whole_rest : List NumberedMessage = sent_by who (numbered (first + 1) ms) in
    let on_whole : Bool → ℕ = λ sent. greatest b (cond sent ((first, m) ∷ whole_rest) whole_rest) in
    elim (keep m) as (λ k. greatest a (sent_by who (numbered kept_first (cond k (m ∷ rest) rest))) ≤ on_whole (is_of who m)) [
      | true ↦ elim (is_of who m) as (λ sent. greatest a (cond sent ((kept_first, m) ∷ part_rest) part_rest) ≤ on_whole sent) [
        | true ↦ greatest-part keep who (max a number) (max b number) (first + 1) (kept_first + 1) ms (omega (arith, less))
        | false ↦ greatest-part keep who a b (first + 1) (kept_first + 1) ms less
      ]
      | false ↦ elim (is_of who m) as (λ sent. greatest a (sent_by who (numbered kept_first rest)) ≤ on_whole sent) [
        | true ↦ greatest-part keep who a (max b number) (first + 1) kept_first ms (omega (arith, less))
        | false ↦ greatest-part keep who a b (first + 1) kept_first ms less
      ]
    ]

-- ## Tests that fail on the whole fail on the part

-- a case that does not hold leaves the later ones
passes : {A : Type 0} (b : Bool) (x : A) (rest : Option A) → b ≡ false → rest ≡ None → cond b (Some x) rest ≡ None
passes b x rest fails none = ap (λ c. cond c (Some x) rest) fails ∙ none

-- fewer entries than a limit do not reach it
below-limit : (count limit : ℕ) → count < limit → (count == limit) ≡ false
below-limit count limit room = grind (arith, nat_tests)

-- a number above a greater one is above a lesser one
above-part : (number less more : ℕ) → less ≤ more → nat_le number more ≡ false → nat_le number less ≡ false
above-part number less more order above = grind (arith, nat_tests)

-- after the next message, a tape of numbered messages has them with it at the end
messages-push : (t : TapeState) (m : Message) (ms : List Message) → messages_of t.entries ≡ numbered 1 ms
    → messages_of (with_message t m).entries ≡ numbered 1 (ms ++ m ∷ [])
messages-push t m ms is =
    let as_many : length (messages_of t.entries) ≡ length (numbered 1 ms) = ap length is in
    let at : length t.entries + 1 ≡ 1 + length ms = omega (arith, as_many, length-map t.entries numbered_message, length-numbered 1 ms) in
    map-append numbered_message t.entries (next_entry t.matrix t.entries m ∷ [])
    ∙ (λ i. is i ++ (at i, m) ∷ []) ∙ sym (numbered-push 1 ms m)

-- two tests, each of which holds if both do together
and-true : (a b : Bool) → (a && b) ≡ true → (a ≡ true) × (b ≡ true)
and-true true b holds = (refl, holds)
and-true false b holds = absurd (true≢false (sym holds))

-- a listing with the names of all messages has those of each
lists-each : (own : Names) (ms : List Message) → list_all (λ m. lists_symbol own (symbol_of m)) ms ≡ true
    → list_all (λ m. lists_participant own (header_of m).participant) ms ≡ true → AllByRecursion (ListsNames own) ms
lists-each own [] symbols participants = tt
lists-each own (m ∷ ms) symbols participants =
    let symbol = and-true _ _ symbols in
    let participant = and-true _ _ participants in
    (record { participant = participant.0; symbol = symbol.0 }, lists-each own ms symbol.1 participant.1)

module _ (symbols : List (List ℕ)) where
  -- whether a symbol is one of the part's
  abbrev of : List ℕ → Bool
  of symbol = is_some (position (symbol_eq symbol) symbols)

  -- the messages of a part
  abbrev kept_of : List Message → List Message
  kept_of ms = filter (keeps of) ms

  -- two tapes with one matrix: one of all messages, the other of those for its symbols
  record IsSplit (t u : TapeState) (ms : List Message) : Type 0 where
    whole : messages_of t.entries ≡ numbered 1 ms
    part : messages_of u.entries ≡ numbered 1 (kept_of ms)
    alike : AllNameAlike of (numbered 1 ms)
    unclosed : u.closed ≡ false
    matrix : u.matrix ≡ t.matrix

  module _ (t u : TapeState) (ms : List Message) (m : Message) (split : IsSplit t u ms) (none : refusal t m ≡ None) where
    -- the message's participant
    abbrev who : ℕ
    who = (header_of m).participant

    -- the tests that the message passes on the whole
    abbrev passed : IsAdmissible t m
    passed = admissible t m none

    -- its target has no fault
    target-whole : first_fault (message_faults (numbered 1 ms) m) ≡ None
    target-whole = subst (λ tape. first_fault (message_faults tape m) ≡ None) split.whole passed.target

    -- it names a report of its own symbol
    names-whole : NamesAlike of (numbered 1 ms) m
    names-whole = NamesAlike-sound of (numbered 1 ms) m target-whole

    -- the participant's last number is no greater on the part
    last-part : last_number (messages_of u.entries) who ≤ last_number (messages_of t.entries) who
    last-part =
        subst (λ tape. last_number (messages_of u.entries) who ≤ last_number tape who) (sym split.whole)
        (subst (λ tape. last_number tape who ≤ last_number (numbered 1 ms) who) (sym split.part) (greatest-part (keeps of) who 0 0 1 1 ms (omega arith)))

    -- so the part admits it too, if it is for one of its symbols and its tape lists its names and has room
    refusal-part : ListsNames u.listing m → length u.entries < u.limit → keeps of m ≡ true → refusal u m ≡ None
    refusal-part own room keep =
        passes u.closed _ _ split.unclosed
        (passes (length u.entries == u.limit) _ _ (below-limit (length u.entries) u.limit room)
        (passes (not (lists_participant u.listing who)) _ _ (ap not own.participant)
        (passes (nat_le (header_of m).number (last_number (messages_of u.entries) who)) _ _
        (above-part (header_of m).number (last_number (messages_of u.entries) who) (last_number (messages_of t.entries) who) last-part passed.above)
        (passes (not (lists_symbol u.listing (header_of m).symbol)) _ _ (ap not own.symbol)
        (passes (not (is_in_matrix u.matrix m)) _ _ (ap (λ matrix. not (is_in_matrix matrix m)) split.matrix ∙ ap not passed.within)
        (subst (λ tape. first_fault (message_faults tape m) ≡ None) (sym split.part)
        (message_faults-part of ms split.alike m names-whole keep ∙ target-whole)))))))

    -- all messages of the longer list name alike
    alike-next : AllNameAlike of (numbered 1 (ms ++ m ∷ []))
    alike-next = subst (AllNameAlike of) (sym (numbered-push 1 ms m)) (AllNameAlike-push of (numbered 1 ms) (1 + length ms, m) split.alike names-whole)

    -- a message of the part goes onto both tapes
    IsSplit-kept : keeps of m ≡ true → IsSplit (with_message t m) (with_message u m) (ms ++ m ∷ [])
    IsSplit-kept keep =
        let more : kept_of (ms ++ m ∷ []) ≡ kept_of ms ++ m ∷ [] =
        filter-append (keeps of) ms (m ∷ []) ∙ ap (λ (b : Bool). kept_of ms ++ cond b (m ∷ []) []) keep in
        record {
          whole = messages-push t m ms split.whole;
          part = messages-push u m (kept_of ms) split.part ∙ ap (numbered 1) (sym more);
          alike = alike-next;
          unclosed = split.unclosed;
          matrix = split.matrix;
        }

    -- any other message goes onto the whole alone
    IsSplit-dropped : keeps of m ≡ false → IsSplit (with_message t m) u (ms ++ m ∷ [])
    IsSplit-dropped drop =
        let same : kept_of (ms ++ m ∷ []) ≡ kept_of ms =
        filter-append (keeps of) ms (m ∷ []) ∙ ap (λ (b : Bool). kept_of ms ++ cond b (m ∷ []) []) drop ∙ append-nil (kept_of ms) in
        record {
          whole = messages-push t m ms split.whole;
          part = split.part ∙ ap (numbered 1) (sym same);
          alike = alike-next;
          unclosed = split.unclosed;
          matrix = split.matrix;
        }

  -- the part admits its messages, and the tapes after all of them are split
  abbrev StaysSplit : TapeState → TapeState → List Message → List Message → Type 0
  StaysSplit t u ms rest = AdmitsAll u (kept_of rest) × IsSplit (tape_after_all t rest) (tape_after_all u (kept_of rest)) (ms ++ rest)

  -- a tape lists the names of these messages, and has room for them after its entries
  abbrev TakesOn : TapeState → List Message → Type 0
  TakesOn u rest = AllByRecursion (ListsNames u.listing) rest × (length u.entries + length rest ≤ u.limit)

  -- if the whole admits further messages, the part admits those for its symbols
  stays-split : (rest ms : List Message) (t u : TapeState) → IsSplit t u ms → AdmitsAll t rest → TakesOn u (kept_of rest) → StaysSplit t u ms rest
  stays-split [] ms t u split admits takes = (tt, subst (IsSplit t u) (sym (append-nil ms)) split)
  stays-split (m ∷ rest) ms t u split admits takes =
      by (keeps of m) refl takes (λ u' next takes'. stays-split rest (ms ++ m ∷ []) (with_message t m) u' next admits.1 takes')
    where
      by : (b : Bool) → keeps of m ≡ b → TakesOn u (cond b (m ∷ kept_of rest) (kept_of rest))
          → ((u' : TapeState) → IsSplit (with_message t m) u' (ms ++ m ∷ []) → TakesOn u' (kept_of rest)
          → StaysSplit (with_message t m) u' (ms ++ m ∷ []) rest)
          → AdmitsAll u (cond b (m ∷ kept_of rest) (kept_of rest))
          × IsSplit (tape_after_all (with_message t m) rest) (tape_after_all u (cond b (m ∷ kept_of rest) (kept_of rest))) (ms ++ m ∷ rest)
      by true keep takes further =
          let after = further (with_message u m) (IsSplit-kept t u ms m split admits.0 keep)
          (takes.0.1, omega (arith, takes.1, length-append u.entries (next_entry u.matrix u.entries m ∷ []))) in (
            (refusal-part t u ms m split admits.0 takes.0.0 (omega (arith, takes.1)) keep, after.0),
            subst (IsSplit (tape_after_all (with_message t m) rest) (tape_after_all (with_message u m) (kept_of rest))) (append_assoc ms (m ∷ []) rest) after.1,
          )
      by false drop takes further =
          let after = further u (IsSplit-dropped t u ms m split admits.0 drop) takes in
          (after.0, subst (IsSplit (tape_after_all (with_message t m) rest) (tape_after_all u (kept_of rest))) (append_assoc ms (m ∷ []) rest) after.1)

  module _ (listing own : Names) (limit most : ℕ) (matrix : Matrix) (ms : List Message) (admits : AdmitsAll (empty_tape listing limit matrix) ms)
      (has : HasRoom own most (part_of symbols ms)) where
    -- the tape of all messages
    abbrev whole_tape : TapeState
    whole_tape = tape_after_all (empty_tape listing limit matrix) ms

    -- the tape of the part's messages
    abbrev part_tape : TapeState
    part_tape = tape_after_all (empty_tape own most matrix) (part_of symbols ms)

    -- two empty tapes are split, and so are the tapes after all messages
    split-day : StaysSplit (empty_tape listing limit matrix) (empty_tape own most matrix) [] ms
    split-day = stays-split ms [] (empty_tape listing limit matrix) (empty_tape own most matrix)
        (record { whole = refl; part = refl; alike = tt; unclosed = refl; matrix = refl }) admits
        (lists-each own (part_of symbols ms) has.names.symbols has.names.participants, omega (arith, has.room))

    -- the part admits each of its messages
    pub AdmitsAll-part : AdmitsAll (empty_tape own most matrix) (part_of symbols ms)
    AdmitsAll-part = split-day.0

    -- the tapes are split
    split : IsSplit whole_tape part_tape ms
    split = split-day.1

    -- two lists of numbered messages have the same summary, by the whole's matrix and by this one
    abbrev IsSameBy : (Matrix → List NumberedMessage → Summary) → List NumberedMessage → List NumberedMessage → Matrix → Type 0
    IsSameBy summary all kept by = IsSameSummary (HaveOneMessage all kept) (summary whole_tape.matrix all) (summary by kept)

    -- and so have the tapes
    on_tapes : (summary : Matrix → List NumberedMessage → Summary)
        → IsSameBy summary (numbered 1 ms) (numbered 1 (kept_of ms)) whole_tape.matrix
        → IsSameBy summary (messages_of whole_tape.entries) (messages_of part_tape.entries) part_tape.matrix
    on_tapes summary same =
        subst (λ all. IsSameBy summary all (messages_of part_tape.entries) part_tape.matrix) (sym split.whole)
        (subst (λ kept. IsSameBy summary (numbered 1 ms) kept part_tape.matrix) (sym split.part)
        (subst (IsSameBy summary (numbered 1 ms) (numbered 1 (kept_of ms))) (sym split.matrix) same))

    module _ (symbol : List ℕ) (listed : of symbol ≡ true) where
      -- a symbol outside the part differs from this one
      others : (s : List ℕ) → of s ≡ false → symbol_eq s symbol ≡ false
      others s unlisted = by (symbol_eq s symbol) refl
        where
          by : (b : Bool) → symbol_eq s symbol ≡ b → b ≡ false
          by true same = absurd (true≢false (sym listed ∙ ap of (sym ((bytes_eq-Decides s symbol).0 same)) ∙ unlisted))
          by false different = refl

      -- so a symbol of the part has the same summary on both
      pub summary-split : HasSameSummary whole_tape part_tape symbol
      summary-split =
          on_tapes (λ by tape. symbol_summary by tape symbol) (symbol_summary-same of ms split.alike whole_tape.matrix symbol others)

      -- and so has each participant in it
      pub participant_summary-split : (who : ℕ) → HasSameParticipantSummary whole_tape part_tape symbol who
      participant_summary-split who =
          on_tapes (λ by tape. participant_summary by tape symbol who) (participant_summary-same of ms split.alike whole_tape.matrix symbol others who)
