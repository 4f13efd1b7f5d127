-- Shows for a message of any kind that its book and register take its change, its entry is the next one, and a tape's fields
-- keep what they must.
use Rattle.std.proofs.Common.{◌≡◌, ℕ, ◌≤◌, ◌==◌, if◌then◌else◌, Bool, true, false, List, get_or, set, Option, Some, None, refl, sym, ap, subst, ◌∙◌}
use Rattle.std.specs.Option.{option_map}
use Rattle.std.proofs.lemmas.Option.{same_Some}
use Rattle.sale_matrix.specs.declared.content.Content.{Content}
use Rattle.reports.specs.declared.message.Header.{Header}
use Rattle.tape_types.specs.Ranges.{IsParticipant, SIZE_MOST}
use Rattle.corrections.specs.RegisterState.{RegisterState, last_number_of, targets_of}
use Rattle.reports.specs.declared.message.Message.{Message}
use Rattle.reports.specs.declared.message.Message.TheVariants.{Report, Cancel, Correct, Reinstate}
use Rattle.reports.specs.Messages.{header_of, reported_size}
use Rattle.symbol_book.specs.BookState.{BookState}
use Rattle.symbol_book.specs.Columns.{consolidated_summary}
use Rattle.scratch_fold.specs.declared.summary.Summary.{Summary}
use Rattle.tape_core.specs.declared.change.Change.{Change}
use Rattle.tape_core.specs.declared.change.Change.TheVariants as make
use Rattle.tape_core.specs.declared.change.NamedReport.{NamedReport}
use Rattle.tape_core.specs.declared.route.Route.{Route}
use Rattle.tape_core.specs.declared.totals.Totals.{Totals}
use Rattle.tape_core.specs.Changes.{CanChange, book_after, change_at, summary_after, targets_after}
use Rattle.tape_core.specs.Kept.{KeepsTape}
use Rattle.tape_core.specs.Routes.{IsRoute, message_change}
use Rattle.tape_core.specs.Standing.{NumberedMessage, is_of}
use Rattle.tape_core.specs.Tape.{TapeState, refusal, messages_of, next_entry, with_message}
use Rattle.tape_core.specs.Totals.{total_at, total_after}
use Rattle.tape_core.proofs.Keeping.{place-vacant, number-vacant, condition-within, place-present, place-theirs, correction-within, place-absent, content-within}
use Rattle.tape_core.proofs.Keeping.{entry-cancel, entry-correct, entry-reinstate, KeepsTape-report, KeepsTape-cancel, KeepsTape-correct, KeepsTape-reinstate}
use Rattle.tape_core.specs.Lemmas.LegalNext.{admissible}
use Rattle.tape_core.proofs.NamedTargets.{IsTarget, IsTarget-faultless, IsTarget-standing, IsTarget-cancelled}
use Rattle.std.specs.FinMap as map

-- a change of the report that a message's target names, cancelled if the message reinstates it, and else standing
abbrev pub ChangesNamed : List NumberedMessage → Bool → Header → ℕ → (NamedReport → Content → Change) → ℕ → Change → Type 0
ChangesNamed tape gone header target made index change =
    (place : ℕ) × (content : Content) × IsTarget tape gone header.participant target header.symbol place content
    × (change_at made target index (place, content) ≡ change)

-- what a change of a message must be if the tape does not refuse the message
abbrev pub IsMade : List NumberedMessage → Message → ℕ → Change → Type 0
IsMade tape (Report header content) index change = make.Enter content ≡ change
IsMade tape (Cancel header target) index change = ChangesNamed tape false header target (λ named latest. make.Cancel named) index change
IsMade tape (Correct header target content) index change = ChangesNamed tape false header target (λ named latest. make.Correct named content) index change
IsMade tape (Reinstate header target) index change = ChangesNamed tape true header target (λ named latest. make.Reinstate named latest) index change

-- and so it is
pub made : (t : TapeState) (m : Message) (index : ℕ) (change : Change) → refusal t m ≡ None → message_change (messages_of t.entries) m index ≡ Some change
    → IsMade (messages_of t.entries) m index change
made t (Report header content) index change none is = same_Some (make.Enter content) change is
made t (Cancel header target) index change none is =
    IsTarget-faultless (messages_of t.entries) header.symbol false header.participant target _ change (admissible t (Cancel header target) none).target is
made t (Correct header target content) index change none is =
    IsTarget-faultless (messages_of t.entries) header.symbol false header.participant target _ change (admissible t (Correct header target content) none).target is
made t (Reinstate header target) index change none is =
    IsTarget-faultless (messages_of t.entries) header.symbol true header.participant target _ change (admissible t (Reinstate header target) none).target is

module _ (t : TapeState) (kept : List BookState) (register : RegisterState) (row : Totals) (keeps : KeepsTape t kept register row) (route : Route) (book : BookState)
    (read : book ≡ get_or kept route.book book) where
  -- what the change of a message is
  is_made : (m : Message) (none : refusal t m ≡ None) (is : IsRoute t m route) → IsMade (messages_of t.entries) m is.change.0 route.change
  is_made m none is = made t m is.change.0 route.change none is.change.1

  -- book and register can take the change
  pub can-change : (m : Message) → refusal t m ≡ None → IsRoute t m route → CanChange book (targets_of register) route.number (header_of m) route.change
  can-change (Report header content) none is =
      subst (CanChange book (targets_of register) route.number header) (is_made (Report header content) none is) (
        subst (λ n. map.get book.trades n ≡ None) (sym is.number) (place-vacant t kept register row keeps header content none route.book book is.book read),
        number-vacant t kept register row keeps header content none route.book book is.book read,
        condition-within t kept register row keeps header content none route.book book is.book read,
      )
  can-change (Cancel header target) none is =
      let report = is_made (Cancel header target) none is in
      subst (CanChange book (targets_of register) route.number header) report.3 (
        place-present t kept register row keeps header target report.0 route.book report.1 book is.book read report.2,
        IsTarget-standing (messages_of t.entries) header.symbol (targets_of register) header.participant target report.0 report.1 keeps.targets report.2,
      )
  can-change (Correct header target content) none is =
      let report = is_made (Correct header target content) none is in
      subst (CanChange book (targets_of register) route.number header) report.3 (
        place-theirs t kept register row keeps header target report.0 route.book report.1 book is.book read report.2,
        IsTarget-standing (messages_of t.entries) header.symbol (targets_of register) header.participant target report.0 report.1 keeps.targets report.2,
        correction-within t kept register row keeps header target report.0 route.book report.1 book is.book read report.2 content none,
      )
  can-change (Reinstate header target) none is =
      let report = is_made (Reinstate header target) none is in
      subst (CanChange book (targets_of register) route.number header) report.3 (
        place-absent t kept register row keeps header target report.0 route.book report.1 book is.book read report.2,
        IsTarget-cancelled (messages_of t.entries) header.symbol (targets_of register) header.participant target report.0 report.1 keeps.targets report.2,
        content-within t kept register row keeps header target report.0 route.book report.1 book is.book read report.2,
      )

  -- the entry is the next one
  pub entry-next : (m : Message) → refusal t m ≡ None → IsRoute t m route → (after : Option Summary) (changed : BookState)
      → changed ≡ book_after book route.number (header_of m) route.change
      → after ≡ summary_after changed route.change
      → record { number = route.number; message = m; after = after } ≡ next_entry t.matrix t.entries m
  entry-next (Report header content) none is after changed change carried =
      let none_carried : after ≡ None = carried ∙ ap (summary_after changed) (sym (is_made (Report header content) none is)) in
      λ i. record { number = is.number i; message = Report header content; after = none_carried i }
  entry-next (Cancel header target) none is after changed change carried =
      let report = is_made (Cancel header target) none is in
      let summary : after ≡ Some (consolidated_summary changed.trades) = carried ∙ ap (summary_after changed) (sym report.3) in
      (λ i. record { number = route.number; message = Cancel header target; after = summary i })
      ∙ entry-cancel t kept register row keeps header target report.0 route.book report.1 book is.book read report.2 route.number
      (consolidated_summary changed.trades) changed is.number refl (change ∙ ap (book_after book route.number header) (sym report.3))
  entry-next (Correct header target content) none is after changed change carried =
      let report = is_made (Correct header target content) none is in
      let summary : after ≡ Some (consolidated_summary changed.trades) = carried ∙ ap (summary_after changed) (sym report.3) in
      (λ i. record { number = route.number; message = Correct header target content; after = summary i })
      ∙ entry-correct t kept register row keeps header target report.0 route.book report.1 book is.book read report.2 content route.number
      (consolidated_summary changed.trades) changed is.number refl (change ∙ ap (book_after book route.number header) (sym report.3))
  entry-next (Reinstate header target) none is after changed change carried =
      let report = is_made (Reinstate header target) none is in
      let summary : after ≡ Some (consolidated_summary changed.trades) = carried ∙ ap (summary_after changed) (sym report.3) in
      (λ i. record { number = route.number; message = Reinstate header target; after = summary i })
      ∙ entry-reinstate t kept register row keeps header target report.0 route.book report.1 book is.book read report.2 route.number
      (consolidated_summary changed.trades) changed is.number refl (change ∙ ap (book_after book route.number header) (sym report.3))

  -- the fields keep what they must
  pub KeepsTape-message : (m : Message) → refusal t m ≡ None → IsRoute t m route → (register' : RegisterState) (row' : Totals) (changed : BookState)
      → changed ≡ book_after book route.number (header_of m) route.change
      → targets_of register' ≡ targets_after (targets_of register) route.number (header_of m) route.change
      → ((other : ℕ) → IsParticipant other
      → last_number_of register' other ≡ (if other == (header_of m).participant then (header_of m).number else last_number_of register other))
      → reported_size m ≤ SIZE_MOST
      → ((other : ℕ) → IsParticipant other
      → total_at row' other ≡ (if is_of other m then option_map (total_after m) (total_at row other) else total_at row other))
      → KeepsTape (with_message t m) (set kept route.book changed) register' row'
  KeepsTape-message (Report header content) none is register' row' changed change targets numbers size totals =
      let same = is_made (Report header content) none is in
      KeepsTape-report t kept register row keeps header content none route.book book is.book read register' row' changed route.number is.number
      (change ∙ ap (book_after book route.number header) (sym same))
      (targets ∙ ap (targets_after (targets_of register) route.number header) (sym same)) numbers size totals
  KeepsTape-message (Cancel header target) none is register' row' changed change targets numbers size totals =
      let report = is_made (Cancel header target) none is in
      KeepsTape-cancel t kept register row keeps header target report.0 route.book report.1 book is.book read report.2 register' row' changed none
      (change ∙ ap (book_after book route.number header) (sym report.3))
      (targets ∙ ap (targets_after (targets_of register) route.number header) (sym report.3)) numbers totals
  KeepsTape-message (Correct header target content) none is register' row' changed change targets numbers size totals =
      let report = is_made (Correct header target content) none is in
      KeepsTape-correct t kept register row keeps header target report.0 route.book report.1 book is.book read report.2 content register' row' changed none
      (change ∙ ap (book_after book route.number header) (sym report.3))
      (targets ∙ ap (targets_after (targets_of register) route.number header) (sym report.3)) numbers totals
  KeepsTape-message (Reinstate header target) none is register' row' changed change targets numbers size totals =
      let report = is_made (Reinstate header target) none is in
      KeepsTape-reinstate t kept register row keeps header target report.0 route.book report.1 book is.book read report.2 register' row' changed none
      (change ∙ ap (book_after book route.number header) (sym report.3))
      (targets ∙ ap (targets_after (targets_of register) route.number header) (sym report.3)) numbers totals
