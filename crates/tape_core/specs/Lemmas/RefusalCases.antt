-- Shows what a tape's refusal says of the message: what holds of each case whose test holds, holds of the refusal.
use Rattle.std.proofs.Common.{◌≡◌, ◌==◌, ℕ, Bool, true, false, not, nat_le, List, [], ◌∷◌, length, Option, Some, None, refl, subst}
use Rattle.std.specs.List.{AllByRecursion}
use Rattle.std.proofs.lemmas.Option.{none-some, same_Some}
use Rattle.tape_types.specs.Names.{first_fault}
use Rattle.reports.specs.declared.message.Message.{Message}
use Rattle.reports.specs.declared.message.Message.TheVariants.{Report, Cancel, Correct, Reinstate}
use Rattle.reports.specs.Messages.{header_of}
use Rattle.tape_core.specs.declared.refusal.Refusal.{Refusal}
use Rattle.tape_core.specs.declared.refusal.Refusal.TheVariants.{Closed, Full, UnknownParticipant, Stale, UnknownSymbol, NoSuchReport, OtherSymbol, Cancelled}
use Rattle.tape_core.specs.declared.refusal.Refusal.TheVariants.{Standing, NotInMatrix}
use Rattle.tape_core.specs.Standing.{NumberedMessage, named_report, last_number}
use Rattle.tape_core.specs.Tape.{TapeState, refusal, refusal_cases, messages_of, message_faults, target_faults, lists_participant, lists_symbol, is_in_matrix}

-- what is claimed of a tape's refusal of a message
pub record EachCase (P : Refusal → Type 0) (t : TapeState) (m : Message) : Type 0 where
  pub closed : t.closed ≡ true → P Closed
  pub full : (length t.entries == t.limit) ≡ true → P Full
  pub unknown : not (lists_participant t.listing (header_of m).participant) ≡ true → P UnknownParticipant
  pub stale : nat_le (header_of m).number (last_number (messages_of t.entries) (header_of m).participant) ≡ true → P Stale
  pub unlisted : not (lists_symbol t.listing (header_of m).symbol) ≡ true → P UnknownSymbol
  pub not_within : not (is_in_matrix t.matrix m) ≡ true → P NotInMatrix
  pub unnamed : P NoSuchReport
  pub of_other : P OtherSymbol
  pub cancelled : P Cancelled
  pub standing : P Standing

module _ (P : Refusal → Type 0) where
  -- it holds of a case if its test holds
  abbrev IfTested : Bool × Refusal → Type 0
  IfTested c = c.0 ≡ true → P c.1

  -- what holds of all cases holds of the first that is met
  first-case : (cases : List (Bool × Refusal)) (r : Refusal) → AllByRecursion IfTested cases → first_fault cases ≡ Some r → P r
  first-case [] r all is = absurd (none-some r is)
  first-case ((true, x) ∷ cases) r all is = subst P (same_Some x r is) (all.0 refl)
  first-case ((false, x) ∷ cases) r all is = first-case cases r all.1 is

  -- so it holds of the faults of a target
  target-cases : (tape : List NumberedMessage) (symbol : List ℕ) (reinstated : Bool) (o : Option NumberedMessage)
      → P NoSuchReport → P OtherSymbol → P Cancelled → P Standing → AllByRecursion IfTested (target_faults tape symbol reinstated o)
  target-cases tape symbol reinstated None unnamed of_other cancelled standing = (λ _. unnamed, tt)
  target-cases tape symbol reinstated (Some report) unnamed of_other cancelled standing =
      (λ _. of_other, (λ _. cancelled, (λ _. standing, tt)))

  -- and of those of a message's target
  named-cases : (tape : List NumberedMessage) (m : Message)
      → P NoSuchReport → P OtherSymbol → P Cancelled → P Standing → AllByRecursion IfTested (message_faults tape m)
  named-cases tape (Report header content) unnamed of_other cancelled standing = tt
  named-cases tape (Cancel header target) unnamed of_other cancelled standing =
      target-cases tape header.symbol false (named_report tape header.participant target) unnamed of_other cancelled standing
  named-cases tape (Correct header target content) unnamed of_other cancelled standing =
      target-cases tape header.symbol false (named_report tape header.participant target) unnamed of_other cancelled standing
  named-cases tape (Reinstate header target) unnamed of_other cancelled standing =
      target-cases tape header.symbol true (named_report tape header.participant target) unnamed of_other cancelled standing

  -- so what holds of each case holds of the refusal
  pub of_refusal : (t : TapeState) (m : Message) (r : Refusal) → EachCase P t m → refusal t m ≡ Some r → P r
  of_refusal t m r each is =
      let named = named-cases (messages_of t.entries) m each.unnamed each.of_other each.cancelled each.standing in
      first-case (refusal_cases t m) r
      (each.closed, (each.full, (each.unknown, (each.stale, (each.unlisted, (each.not_within, named)))))) is
