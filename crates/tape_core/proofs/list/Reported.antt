-- Shows that a report of a legal tape is the one that its participant and number name, and that its latest content is of the
-- tape's matrix.
use Rattle.std.proofs.Common.{◌≡◌, ℕ, ◌+◌, ◌<◌, Bool, true, cond, false, List, ◌∷◌, ◌++◌, Option, Some, None, IfSome, if◌then◌else◌, is_some, unwrap_or, subst, length, take, drop, slice_get}
use Rattle.std.proofs.Common.{refl, sym, ap, ◌∙◌, arith}
use Rattle.std.specs.List.{find}
use Rattle.std.specs.Option.{option_map, option_or}
use Rattle.std.proofs.lemmas.Bool.Decides.{nat_tests}
use Rattle.std.proofs.lemmas.List.{drop_more, map-append, take-append-drop}
use Rattle.std.proofs.lemmas.List.Folds.{find-append}
use Rattle.std.proofs.lemmas.Option.{get_or_from_slice_get, same_Some, slice_get_within}
use Rattle.sale_matrix.specs.Matrix.{is_within}
use Rattle.corrections.specs.declared.target.Target.{Target}
use Rattle.reports.specs.declared.message.Header.{Header}
use Rattle.reports.specs.declared.message.Message.{Message}
use Rattle.reports.specs.declared.message.Message.TheVariants.{Report, Cancel, Correct, Reinstate}
use Rattle.reports.specs.Messages.{header_of, reported_content}
use Rattle.tape_core.specs.declared.entry.Entry.{Entry}
use Rattle.tape_core.specs.Books.{latest_content, target_of}
use Rattle.tape_core.specs.Lemmas.LegalNext.{admissible}
use Rattle.tape_core.specs.Reported.{report_at, report_in, report_of}
use Rattle.tape_core.specs.Standing.{NumberedMessage, is_report_of, last_number, named_report}
use Rattle.tape_core.specs.Tape.{TapeState, IsLegal, messages_of, numbered_message, tape_before}
use Rattle.tape_core.proofs.list.Contents.{latest-within}
use Rattle.tape_core.proofs.list.Names.{named_report-above}
use Rattle.tape_core.proofs.list.Premises.{IsLegal-within}
use Rattle.tape_core.proofs.list.Reinstatements.{latest-there}

-- a report has its own name
own_name : (m : Message) → is_some (reported_content m) ≡ true → is_report_of (header_of m).participant (header_of m).number m ≡ true
own_name (Report header content) is = grind (arith, nat_tests)
own_name (Cancel header target) is = cc
own_name (Correct header target content) is = cc
own_name (Reinstate header target) is = cc

module _ (t : TapeState) (legal : IsLegal t) (k : ℕ) (e : Entry) (at : slice_get t.entries k ≡ Some e)
    (is : is_some (reported_content e.message) ≡ true) where
  -- its sender
  abbrev who : ℕ
  who = (header_of e.message).participant

  -- its message number
  abbrev number : ℕ
  number = (header_of e.message).number

  -- the messages before it
  abbrev front : List NumberedMessage
  front = messages_of (take k t.entries)

  -- the messages after it
  abbrev behind : List NumberedMessage
  behind = messages_of (drop (k + 1) t.entries)

  -- it stands between these
  split : messages_of t.entries ≡ front ++ numbered_message e ∷ behind
  split =
      let within : k < length t.entries = slice_get_within t.entries k e at in
      let here : drop k t.entries ≡ e ∷ drop (k + 1) t.entries =
      drop_more t.entries k e within ∙ ap (λ (x : Entry). x ∷ drop (k + 1) t.entries) (get_or_from_slice_get t.entries k e e at) in
      ap messages_of (sym (take-append-drop k t.entries))
      ∙ map-append numbered_message (take k t.entries) (drop k t.entries)
      ∙ ap (λ (l : List Entry). front ++ messages_of l) here

  -- nothing before it has its name
  none_before : named_report front who number ≡ None
  none_before =
      let above = (admissible (tape_before t k) e.message (legal k e at).0).above in
      let less : last_number front who < number = grind (arith, nat_tests) in
      named_report-above front who number less

  -- so its name names it
  pub named_report-itself : named_report (messages_of t.entries) who number ≡ Some (numbered_message e)
  named_report-itself =
      let p : NumberedMessage → Bool = λ n. is_report_of who number n.1 in
      ap (find p) split
      ∙ find-append p front (numbered_message e ∷ behind)
      ∙ (λ i. option_or (none_before i) (cond (own_name e.message is i) (Some (numbered_message e)) (find p behind)))

  -- and its latest content is of the matrix
  pub latest-in_matrix : is_within t.matrix (latest_content (messages_of t.entries) e.number).condition ≡ true
  latest-in_matrix =
      latest-within t.matrix (messages_of t.entries) e.number (latest_content (messages_of t.entries) e.number) (IsLegal-within t legal)
      (latest-there (messages_of t.entries) who number (numbered_message e) named_report-itself)

-- only a report has a report's header
reporting-is : (m : Message) (h : Header) → Some h ≡ (if is_some (reported_content m) then Some (header_of m) else None)
    → (is_some (reported_content m) ≡ true) × (h ≡ header_of m)
reporting-is m h said = by (is_some (reported_content m)) said
  where
    by : (b : Bool) → Some h ≡ (if b then Some (header_of m) else None) → (b ≡ true) × (h ≡ header_of m)
    by true is = (refl, same_Some h (header_of m) is)
    by false is = absurd cc

module _ (t : TapeState) (legal : IsLegal t) (k : ℕ) (e : Entry) (at : slice_get t.entries k ≡ Some e) (h : Header)
    (said : Some h ≡ (if is_some (reported_content e.message) then Some (header_of e.message) else None)) where
  -- what its name names is the report itself
  named-report : report_of t h.participant h.number ≡ Some (target_of (messages_of t.entries) (numbered_message e))
  named-report =
      let is = reporting-is e.message h said in
      ap (λ (x : Header). report_of t x.participant x.number) is.1
      ∙ ap (option_map (target_of (messages_of t.entries))) (named_report-itself t legal k e at is.0)

  -- so it is the report at the index
  pub report_of-at : report_of t h.participant h.number ≡ report_at t k
  report_of-at =
      let is = reporting-is e.message h said in
      named-report
      ∙ sym (ap (λ (b : Bool). if b then Some (target_of (messages_of t.entries) (numbered_message e)) else None) is.0)
      ∙ sym (ap (λ (o : Option Entry). unwrap_or (option_map (report_in t) o) None) at)

  -- and its condition is of the matrix
  pub report_of-within : IfSome (report_of t h.participant h.number) (λ report. is_within t.matrix report.content.condition ≡ true)
  report_of-within =
      let is = reporting-is e.message h said in
      subst (λ (o : Option Target). IfSome o (λ report. is_within t.matrix report.content.condition ≡ true)) (sym named-report)
      (latest-in_matrix t legal k e at is.0)
