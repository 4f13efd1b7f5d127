-- Shows that an `EndTape` keeps what it must of a tape: at the start, for where a message goes, and after each kind of message.
use Rattle.std.proofs.Common.{◌≡◌, ℕ, ◌+◌, ◌<◌, ◌≤◌, ◌==◌, nat_le, true, false, if◌then◌else◌, List, [], ◌∷◌, ◌++◌, length, map, None, Result, Ok}
use Rattle.std.proofs.Common.{refl, ap, ◌∙◌, sym, subst, arith}
use Rattle.std.specs.FinMap as map
use Rattle.std.proofs.lemmas.Bool.Decides.{nat_tests}
use Rattle.std.proofs.lemmas.List.{map-append, length-map}
use Rattle.tape_types.specs.Names.{Names}
use Rattle.tape_types.specs.Ranges.{IsParticipant, TAPE_MOST}
use Rattle.sale_matrix.specs.declared.matrix.Matrix.{Matrix}
use Rattle.corrections.specs.RegisterState.{last_number_of, targets_of}
use Rattle.corrections.specs.Targets.{standing_target}
use Rattle.reports.specs.declared.message.Message.{Message}
use Rattle.reports.specs.declared.message.Message.TheVariants.{Report, Cancel, Correct, Reinstate}
use Rattle.reports.specs.Messages.{header_of}
use Rattle.tape_core.specs.declared.change.Change.{Change}
use Rattle.tape_core.specs.declared.end_route.EndRoute.{EndRoute}
use Rattle.tape_core.specs.declared.end_tape.EndTape.{EndTape}
use Rattle.tape_core.specs.declared.refusal.Refusal.{Refusal}
use Rattle.tape_core.specs.Books.{IsRegister}
use Rattle.tape_core.specs.Changes.{targets_after}
use Rattle.tape_core.specs.Ending.{CanNote, IsEndRoute, KeepsEnd, ListsNames, sent_of}
use Rattle.tape_core.specs.Standing.{last_number}
use Rattle.tape_core.specs.Tape.{TapeState, empty_tape, is_in_matrix, messages_of, numbered_message, refusal, with_message}
use Rattle.tape_core.specs.Targets.{register_change}
use Rattle.tape_core.specs.Lemmas.LegalNext.{admissible, IsTape-with_message}
use Rattle.tape_core.proofs.Appending.{made}
use Rattle.tape_core.proofs.Keeping.{messages_with, messages-with, newest-last, next_number-by_messages}
use Rattle.tape_core.proofs.NamedTargets.{IsTarget-standing, IsTarget-cancelled, refused, refusal-of_target, register_change-faults, register_change-is}
use Rattle.tape_core.proofs.list.Counters.{last_number-push}
use Rattle.tape_core.proofs.list.Names.{named_report-above}
use Rattle.tape_core.proofs.list.Premises.{IsLegal-numbered, IsLegal-targets}
use Rattle.tape_core.proofs.list.Registers.{IsRegister-empty, IsRegister-report, IsRegister-cancel, IsRegister-correct, IsRegister-reinstate}
use Rattle.std.specs.Option.{option_map}
use Rattle.tape_core.specs.Books.{target_of}

-- what is kept of an empty tape
pub KeepsEnd-empty : (listing : Names) (matrix : Matrix) (e : EndTape) → e.matrix ≡ matrix → targets_of e.register ≡ map.empty
    → ((who : ℕ) → last_number_of e.register who ≡ 0) → e.reports.items ≡ [] → KeepsEnd (empty_tape listing TAPE_MOST matrix) e
KeepsEnd-empty listing matrix e columns targets numbers none = record {
  tape = record { limit = (omega arith, omega arith); within = omega arith; legal = λ k x at. absurd (cc) };
  unclosed = refl;
  limit = refl;
  matrix = sym columns;
  targets = subst (IsRegister []) (sym targets) IsRegister-empty;
  last_numbers = λ who _. numbers who;
  reports = none;
}

-- there is a report, or nothing, for each entry
pub kept-length : (t : TapeState) (e : EndTape) → KeepsEnd t e → length e.reports.items ≡ length t.entries
kept-length t e keeps = ap length keeps.reports ∙ length-map (messages_of t.entries) sent_of ∙ length-map t.entries numbered_message

-- and there are no more than a tape has
pub kept-few : (t : TapeState) (e : EndTape) → KeepsEnd t e → length e.reports.items ≤ TAPE_MOST
kept-few t e keeps = let within = keeps.tape.within in let limit = keeps.limit in let count = kept-length t e keeps in omega arith

-- ## Where a message goes

module _ (t : TapeState) (e : EndTape) (keeps : KeepsEnd t e) (m : Message) where
  -- the message's participant
  abbrev sender : ℕ
  sender = (header_of m).participant

  -- there is a report, or nothing, for each entry
  count-kept : length e.reports.items ≡ length t.entries
  count-kept = kept-length t e keeps

  module _ (fits : length e.reports.items < TAPE_MOST) where
    -- the tape has room
    pub has-room : (length t.entries == t.limit) ≡ false
    has-room = let limit = keeps.limit in let count = count-kept in grind (arith, nat_tests)

    module _ (is : IsParticipant sender) (lists : ListsNames t.listing m) where
      module _ (newer : last_number_of e.register sender < (header_of m).number) where
        -- the number is above the last one on the tape
        pub above-there : nat_le (header_of m).number (last_number (messages_of t.entries) sender) ≡ false
        above-there = let last = keeps.last_numbers sender is in grind (arith, nat_tests)

        -- else what the register has of the target decides
        pub target-decides : is_in_matrix e.matrix m ≡ true → (index : ℕ) (answer : Result Change Refusal) → answer ≡ register_change e.register m index
            → refused answer ≡ refusal t m
        target-decides within index answer is_answer =
            ap refused is_answer ∙ register_change-faults (messages_of t.entries) e.register index m keeps.targets
            ∙ sym (refusal-of_target t m keeps.unclosed has-room lists.participant above-there lists.symbol (ap (λ x. is_in_matrix x m) keeps.matrix ∙ within))

        -- and the message goes there
        pub routed : (index number : ℕ) (change : Change) → number ≡ length e.reports.items + 1 → register_change e.register m index ≡ Ok change
            → IsEndRoute t m (record { number = number; change = change })
        routed index number change next answered = record {
          number = next ∙ ap (λ n. n + 1) count-kept;
          change = (index, register_change-is (messages_of t.entries) e.register index change m keeps.targets answered);
        }

-- ## After a message

module _ (t : TapeState) (e : EndTape) (keeps : KeepsEnd t e) where
  -- the messages before
  abbrev before : List (ℕ × Message)
  before = messages_of t.entries

  -- the message's number is above its participant's last
  number-above : (m : Message) → refusal t m ≡ None → last_number before (header_of m).participant < (header_of m).number
  number-above m none = let fact = (admissible t m none).above in grind (arith, nat_tests)

  -- the register can take the change
  pub can-note : (m : Message) → refusal t m ≡ None → (route : EndRoute) → IsEndRoute t m route → CanNote (targets_of e.register) (header_of m) route.change
  can-note (Report header content) none route is =
      subst (CanNote (targets_of e.register) header) (made t (Report header content) is.change.0 route.change none is.change.1)
      (keeps.targets header.participant header.number
      ∙ ap (option_map (target_of before)) (named_report-above before header.participant header.number (number-above (Report header content) none)))
  can-note (Cancel header target) none route is =
      let report = made t (Cancel header target) is.change.0 route.change none is.change.1 in
      subst (CanNote (targets_of e.register) header) report.3
      (IsTarget-standing before header.symbol (targets_of e.register) header.participant target report.0 report.1 keeps.targets report.2)
  can-note (Correct header target content) none route is =
      let report = made t (Correct header target content) is.change.0 route.change none is.change.1 in
      subst (CanNote (targets_of e.register) header) report.3
      (IsTarget-standing before header.symbol (targets_of e.register) header.participant target report.0 report.1 keeps.targets report.2)
  can-note (Reinstate header target) none route is =
      let report = made t (Reinstate header target) is.change.0 route.change none is.change.1 in
      subst (CanNote (targets_of e.register) header) report.3
      (IsTarget-cancelled before header.symbol (targets_of e.register) header.participant target report.0 report.1 keeps.targets report.2)

  -- the register after it is that of the tape with the message
  register-next : (m : Message) → refusal t m ≡ None → (route : EndRoute) → IsEndRoute t m route
      → IsRegister (messages_with t m) (targets_after (targets_of e.register) route.number (header_of m) route.change)
  register-next (Report header content) none route is =
      let m = Report header content in
      subst (λ c. IsRegister (messages_with t m) (targets_after (targets_of e.register) route.number header c))
      (made t m is.change.0 route.change none is.change.1)
      (subst (λ n. IsRegister (messages_with t m) (map.insert (targets_of e.register) (header.participant, header.number) (standing_target header.symbol n content)))
      (sym is.number)
      (IsRegister-report before (targets_of e.register) (length t.entries + 1) header content (IsLegal-numbered t keeps.tape.legal)
      (IsLegal-targets t keeps.tape.legal) (next_number-by_messages t) (number-above m none) keeps.targets))
  register-next (Cancel header target) none route is =
      let m = Cancel header target in
      let report = made t m is.change.0 route.change none is.change.1 in
      subst (λ c. IsRegister (messages_with t m) (targets_after (targets_of e.register) route.number header c)) report.3
      (IsRegister-cancel before (targets_of e.register) (length t.entries + 1) header target report.2.report (IsLegal-numbered t keeps.tape.legal)
      (IsLegal-targets t keeps.tape.legal) report.2.named keeps.targets)
  register-next (Correct header target content) none route is =
      let m = Correct header target content in
      let report = made t m is.change.0 route.change none is.change.1 in
      subst (λ c. IsRegister (messages_with t m) (targets_after (targets_of e.register) route.number header c)) report.3
      (IsRegister-correct before (targets_of e.register) (length t.entries + 1) header target content report.2.report (IsLegal-numbered t keeps.tape.legal)
      (IsLegal-targets t keeps.tape.legal) report.2.named keeps.targets)
  register-next (Reinstate header target) none route is =
      let m = Reinstate header target in
      let report = made t m is.change.0 route.change none is.change.1 in
      subst (λ c. IsRegister (messages_with t m) (targets_after (targets_of e.register) route.number header c)) report.3
      (IsRegister-reinstate before (targets_of e.register) (length t.entries + 1) header target report.2.report (IsLegal-numbered t keeps.tape.legal)
      (IsLegal-targets t keeps.tape.legal) report.2.named keeps.targets)

  -- what is kept with one more message
  pub KeepsEnd-next : (m : Message) → refusal t m ≡ None → (route : EndRoute) → IsEndRoute t m route → (e' : EndTape) → e'.matrix ≡ e.matrix
      → targets_of e'.register ≡ targets_after (targets_of e.register) route.number (header_of m) route.change
      → ((other : ℕ) → IsParticipant other
      → last_number_of e'.register other ≡ (if other == (header_of m).participant then (header_of m).number else last_number_of e.register other))
      → e'.reports.items ≡ e.reports.items ++ sent_of (length t.entries + 1, m) ∷ []
      → KeepsEnd (with_message t m) e'
  KeepsEnd-next m none route is e' matrix targets numbers reports =
      let same : messages_of (with_message t m).entries ≡ messages_with t m = messages-with t m in
      let who = (header_of m).participant in
      record {
        tape = IsTape-with_message t m keeps.tape none;
        unclosed = keeps.unclosed;
        limit = keeps.limit;
        matrix = keeps.matrix ∙ sym matrix;
        targets = subst (λ ns. IsRegister ns (targets_of e'.register)) (sym same)
            (subst (IsRegister (messages_with t m)) (sym targets) (register-next m none route is));
        last_numbers = λ other of. numbers other of
            ∙ ap (λ n. if other == who then (header_of m).number else n) (keeps.last_numbers other of)
            ∙ newest-last who other (header_of m).number (last_number before) (number-above m none)
            ∙ sym (last_number-push before (length t.entries + 1, m) other) ∙ ap (λ ns. last_number ns other) (sym same);
        reports = reports ∙ ap (λ l. l ++ sent_of (length t.entries + 1, m) ∷ []) keeps.reports
            ∙ sym (map-append sent_of before ((length t.entries + 1, m) ∷ [])) ∙ ap (map sent_of) (sym same);
      }
