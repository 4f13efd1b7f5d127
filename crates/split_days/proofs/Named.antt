-- The report that a message names: on a tape that admitted the message, one of the message's own symbol.
use Rattle.std.proofs.Common.{◌≡◌, ℕ, Bool, not, List, [], ◌∷◌, ◌++◌, Option, Some, None, IfSome, unwrap_or, refl, sym, ap, ◌∙◌}
use Rattle.std.specs.List.{AllByRecursion}
use Rattle.std.specs.Option.{option_map, option_or}
use Rattle.std.proofs.lemmas.Bool.{not-false}
use Rattle.std.proofs.lemmas.List.Folds.{find-append}
use Rattle.std.proofs.lemmas.Slice.Eq.{bytes_eq-Decides}
use Rattle.tape_types.specs.Names.{first_fault, symbol_eq}
use Rattle.reports.specs.declared.message.Message.{Message}
use Rattle.reports.specs.Messages.{header_of, named_target}
use Rattle.tape_core.specs.Standing.{NumberedMessage, is_report_of, named_report}
use Rattle.tape_core.specs.Tape.{message_faults, reinstates, target_faults}
use Rattle.tape_core.specs.Lemmas.LegalNext.{none_first}
use Rattle.split_days.proofs.Lists.{all-push, all-weaker}

module _ (of : List ℕ → Bool) where
  -- whether a message's symbol is one of those kept
  abbrev pub keeps : Message → Bool
  keeps m = of (header_of m).symbol

  -- a message that names a report names one on the tape, and both are kept or neither is
  abbrev pub NamesAlike : List NumberedMessage → Message → Type 0
  NamesAlike tape m = IfSome (named_target m)
      (λ target. (r : NumberedMessage) × (named_report tape (header_of m).participant target ≡ Some r) × (keeps r.1 ≡ keeps m))

  -- and so does each message of a tape
  abbrev pub AllNameAlike : List NumberedMessage → Type 0
  AllNameAlike tape = AllByRecursion (λ (n : NumberedMessage). NamesAlike tape n.1) tape

  -- it also does after more messages
  NamesAlike-append : (tape more : List NumberedMessage) (m : Message) → NamesAlike tape m → NamesAlike (tape ++ more) m
  NamesAlike-append tape more m names = by (named_target m) names
    where
      by : (o : Option ℕ)
          → IfSome o (λ target. (r : NumberedMessage) × (named_report tape (header_of m).participant target ≡ Some r) × (keeps r.1 ≡ keeps m))
          → IfSome o (λ target. (r : NumberedMessage) × (named_report (tape ++ more) (header_of m).participant target ≡ Some r) × (keeps r.1 ≡ keeps m))
      by None there = tt
      by (Some target) there = (
        there.0,
        find-append (λ (n : NumberedMessage). is_report_of (header_of m).participant target n.1) tape more
            ∙ ap (λ (o : Option NumberedMessage). option_or o (named_report more (header_of m).participant target)) there.1,
        there.2,
      )

  -- a message whose target has no fault names a report of its own symbol
  pub NamesAlike-sound : (tape : List NumberedMessage) (m : Message) → first_fault (message_faults tape m) ≡ None → NamesAlike tape m
  NamesAlike-sound tape m sound = by (named_target m) sound
    where
      there : (who target : ℕ) (reinstated : Bool) (o : Option NumberedMessage) → named_report tape who target ≡ o
          → first_fault (target_faults tape (header_of m).symbol reinstated o) ≡ None
          → (r : NumberedMessage) × (named_report tape who target ≡ Some r) × (keeps r.1 ≡ keeps m)
      there who target reinstated None named none = absurd (cc)
      there who target reinstated (Some r) named none =
          let other = none_first (not (symbol_eq (header_of m).symbol (header_of r.1).symbol)) _ _ none in
          let same : (header_of m).symbol ≡ (header_of r.1).symbol =
          (bytes_eq-Decides (header_of m).symbol (header_of r.1).symbol).0 (not-false (symbol_eq (header_of m).symbol (header_of r.1).symbol) other.0) in
          (r, named, ap of (sym same))

      by : (o : Option ℕ) → first_fault
          (unwrap_or (option_map (λ target. target_faults tape (header_of m).symbol (reinstates m) (named_report tape (header_of m).participant target)) o) [])
          ≡ None
          → IfSome o (λ target. (r : NumberedMessage) × (named_report tape (header_of m).participant target ≡ Some r) × (keeps r.1 ≡ keeps m))
      by None none = tt
      by (Some target) none =
          there (header_of m).participant target (reinstates m) (named_report tape (header_of m).participant target) refl none

  -- so the messages of a tape name alike after one more that does
  pub AllNameAlike-push : (tape : List NumberedMessage) (n : NumberedMessage) → AllNameAlike tape → NamesAlike tape n.1 → AllNameAlike (tape ++ n ∷ [])
  AllNameAlike-push tape n all names =
      all-push (λ (x : NumberedMessage). NamesAlike (tape ++ n ∷ []) x.1) tape n
      (all-weaker (λ (x : NumberedMessage). NamesAlike tape x.1) (λ (x : NumberedMessage). NamesAlike (tape ++ n ∷ []) x.1)
      (λ x alike. NamesAlike-append tape (n ∷ []) x.1 alike) tape all)
      (NamesAlike-append tape (n ∷ []) n.1 names)
