-- Messages for other symbols are dropped, and the kept ones keep their numbers: they are named, cancelled and in force as
-- before.
use Rattle.std.proofs.Common.{◌≡◌, ℕ, Bool, true, false, cond, not, List, Option, Some, None, if◌then◌else◌, is_some, unwrap_or}
use Rattle.std.proofs.Common.{filter, refl, sym, ap, ◌∙◌}
use Rattle.std.specs.Prelude.{◌==◌, ◌&&◌}
use Rattle.std.specs.List.{AllByRecursion, last_or}
use Rattle.std.specs.Option.{option_map}
use Rattle.std.proofs.lemmas.Bool.{true≢false}
use Rattle.std.proofs.lemmas.Bool.Decides.{Decides-eqb}
use Rattle.tape_types.specs.Names.{symbol_eq}
use Rattle.sale_matrix.specs.declared.content.Content.{Content}
use Rattle.reports.specs.declared.message.Message.{Message}
use Rattle.reports.specs.declared.message.Message.TheVariants.{Report, Cancel, Correct, Reinstate}
use Rattle.reports.specs.Messages.{header_of, reported_content}
use Rattle.tape_core.specs.Standing.{NumberedMessage, StandingReport, cancelled_by, content_from, is_at, is_cancelled, is_report_of, named_report}
use Rattle.tape_core.specs.Standing.{standing_content, standing_report, standing_reports}
use Rattle.split_days.proofs.Lists.{all-both, filter_map-filter, find-filter, find-holds}
use Rattle.split_days.proofs.Named.{keeps, NamesAlike, AllNameAlike}

-- None stays None, whether kept or dropped
none-either : {Y : Type 0} (b : Bool) → ◌≡◌ {A = Option Y} (cond b None None) None
none-either true = refl
none-either false = refl

-- the tests for a standing report fail if the second one does
fails-second : (a c : Bool) → (a && (false && c)) ≡ false
fails-second true c = refl
fails-second false c = refl

module _ (of : List ℕ → Bool) (kept_at : ℕ → Bool) (tape : List NumberedMessage)
    (places : AllByRecursion (λ (n : NumberedMessage). keeps of n.1 ≡ kept_at n.0) tape) (alike : AllNameAlike of tape) where
  -- what is kept
  abbrev pub kept_tape : List NumberedMessage
  kept_tape = filter (λ n. keeps of n.1) tape

  -- a report that is named and kept is named among the kept messages
  pub named_report-kept : (who number : ℕ) (r : NumberedMessage) → named_report tape who number ≡ Some r → keeps of r.1 ≡ true
      → named_report kept_tape who number ≡ Some r
  named_report-kept who number r named kept =
      find-filter (λ (n : NumberedMessage). is_report_of who number n.1) (λ (n : NumberedMessage). keeps of n.1) r tape named kept

  -- the place of a named report is kept if the report is
  pub named_report-place : (who number : ℕ) (r : NumberedMessage) → named_report tape who number ≡ Some r → keeps of r.1 ≡ kept_at r.0
  named_report-place who number r named =
      find-holds (λ (n : NumberedMessage). keeps of n.1 ≡ kept_at n.0) (λ n. is_report_of who number n.1) r tape places named

  module _ (place : ℕ) (kept_place : kept_at place ≡ true) where
    -- a dropped place is another
    other-place : (dropped : ℕ) → kept_at dropped ≡ false → (dropped == place) ≡ false
    other-place dropped drops = by (dropped == place) refl
      where
        by : (b : Bool) → (dropped == place) ≡ b → b ≡ false
        by true same = absurd (true≢false (sym kept_place ∙ ap kept_at (sym ((Decides-eqb dropped place).0 same)) ∙ drops))
        by false different = refl

    -- what a message says about the report that it names, at this place
    said-kept : {Y : Type 0} (who target : ℕ) (b : Bool) (r : NumberedMessage) (said : Option Y) → named_report tape who target ≡ Some r → keeps of r.1 ≡ b
        → cond b (if is_at place (named_report kept_tape who target) then said else None) None
        ≡ (if is_at place (named_report tape who target) then said else None)
    said-kept who target true r said named kept =
        ap (λ o. if is_at place o then said else None) (named_report-kept who target r named kept ∙ sym named)
    said-kept who target false r said named dropped =
        let apart : (r.0 == place) ≡ false = other-place r.0 (sym (named_report-place who target r named) ∙ dropped) in
        sym (ap (λ o. if is_at place o then said else None) named ∙ ap (λ (b : Bool). if b then said else None) apart)

    -- what a report says about its own place
    own-kept : {Y : Type 0} (number : ℕ) (b : Bool) (said : Option Y) → b ≡ kept_at number
        → cond b (if number == place then said else None) None ≡ (if number == place then said else None)
    own-kept number true said kept = refl
    own-kept number false said dropped = sym (ap (λ (b : Bool). if b then said else None) (other-place number (sym dropped)))

    -- whether a message cancels the report at this place
    cancelled_by-kept : (n : NumberedMessage) → NamesAlike of tape n.1
        → cond (keeps of n.1) (cancelled_by kept_tape place n) None ≡ cancelled_by tape place n
    cancelled_by-kept (number, Report header content) names = none-either (of header.symbol)
    cancelled_by-kept (number, Cancel header target) names =
        said-kept header.participant target (of header.symbol) names.0 (Some true) names.1 names.2
    cancelled_by-kept (number, Correct header target content) names = none-either (of header.symbol)
    cancelled_by-kept (number, Reinstate header target) names =
        said-kept header.participant target (of header.symbol) names.0 (Some false) names.1 names.2

    -- the content that a message sets for it
    content_from-kept : (n : NumberedMessage) → keeps of n.1 ≡ kept_at n.0 → NamesAlike of tape n.1
        → cond (keeps of n.1) (content_from kept_tape place n) None ≡ content_from tape place n
    content_from-kept (number, Report header content) kept names = own-kept number (of header.symbol) (Some content) kept
    content_from-kept (number, Cancel header target) kept names = none-either (of header.symbol)
    content_from-kept (number, Correct header target content) kept names =
        said-kept header.participant target (of header.symbol) names.0 (Some content) names.1 names.2
    content_from-kept (number, Reinstate header target) kept names = none-either (of header.symbol)

    -- a kept report is cancelled as before
    pub is_cancelled-kept : is_cancelled kept_tape place ≡ is_cancelled tape place
    is_cancelled-kept = ap (λ said. unwrap_or (last_or None said) false)
        (filter_map-filter (cancelled_by kept_tape place) (cancelled_by tape place) (λ (n : NumberedMessage). keeps of n.1) tape
        (all-both (λ (n : NumberedMessage). keeps of n.1 ≡ kept_at n.0) (λ (n : NumberedMessage). NamesAlike of tape n.1)
        (λ n. cond (keeps of n.1) (cancelled_by kept_tape place n) None ≡ cancelled_by tape place n)
        (λ n _ names. cancelled_by-kept n names) tape places alike))

    -- and its content is in force as before
    pub standing_content-kept : standing_content kept_tape place ≡ standing_content tape place
    standing_content-kept = ap (last_or None)
        (filter_map-filter (content_from kept_tape place) (content_from tape place) (λ (n : NumberedMessage). keeps of n.1) tape
        (all-both (λ (n : NumberedMessage). keeps of n.1 ≡ kept_at n.0) (λ (n : NumberedMessage). NamesAlike of tape n.1)
        (λ n. cond (keeps of n.1) (content_from kept_tape place n) None ≡ content_from tape place n)
        content_from-kept tape places alike))

  module _ (symbol : List ℕ) (others : (s : List ℕ) → of s ≡ false → symbol_eq s symbol ≡ false) where
    -- the report that stands at a place, by the tests of a message and the content in force
    abbrev stood : ℕ → Message → Bool → Option Content → Option StandingReport
    stood place m stands content =
        if stands then option_map (λ now. record { place = place; who = (header_of m).participant; content = now }) content else None

    -- a message stands as a report of a kept symbol as before
    standing_report-kept : (n : NumberedMessage) → keeps of n.1 ≡ kept_at n.0
        → cond (keeps of n.1) (standing_report kept_tape symbol n) None ≡ standing_report tape symbol n
    standing_report-kept (place, m) kept = by (keeps of m) refl
      where
        by : (b : Bool) → keeps of m ≡ b → cond b (standing_report kept_tape symbol (place, m)) None ≡ standing_report tape symbol (place, m)
        by true keep = λ i. stood place m
            (is_some (reported_content m) && (symbol_eq (header_of m).symbol symbol && not (is_cancelled-kept place (sym kept ∙ keep) i)))
            (standing_content-kept place (sym kept ∙ keep) i)
        by false drop = sym (ap (λ (b : Bool). stood place m b (standing_content tape place))
            (ap (λ (b : Bool). is_some (reported_content m) && (b && not (is_cancelled tape place))) (others (header_of m).symbol drop)
            ∙ fails-second (is_some (reported_content m)) (not (is_cancelled tape place))))

    -- so the standing reports of a kept symbol are the same as before
    pub standing_reports-kept : standing_reports kept_tape symbol ≡ standing_reports tape symbol
    standing_reports-kept =
        filter_map-filter (standing_report kept_tape symbol) (standing_report tape symbol) (λ (n : NumberedMessage). keeps of n.1) tape
        (all-both (λ (n : NumberedMessage). keeps of n.1 ≡ kept_at n.0) (λ (n : NumberedMessage). NamesAlike of tape n.1)
        (λ n. cond (keeps of n.1) (standing_report kept_tape symbol n) None ≡ standing_report tape symbol n)
        (λ n kept _. standing_report-kept n kept) tape places alike)
