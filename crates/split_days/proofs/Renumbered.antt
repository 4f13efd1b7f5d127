-- Kept messages get other numbers: a report is named, cancelled and in force as before, at its new number.
use Rattle.std.proofs.Common.{◌≡◌, ℕ, Bool, true, false, not, List, Option, Some, None, if◌then◌else◌, is_some, unwrap_or}
use Rattle.std.proofs.Common.{map, refl, ap, subst, ◌∙◌, sym}
use Rattle.std.specs.Prelude.{◌==◌, ◌&&◌}
use Rattle.std.specs.List.{AllByRecursion, AllZip, find, last_or}
use Rattle.std.specs.Option.{option_map}
use Rattle.tape_types.specs.Names.{symbol_eq}
use Rattle.sale_matrix.specs.declared.content.Content.{Content}
use Rattle.reports.specs.declared.message.Message.{Message}
use Rattle.reports.specs.declared.message.Message.TheVariants.{Report, Cancel, Correct, Reinstate}
use Rattle.reports.specs.Messages.{header_of, reported_content}
use Rattle.tape_core.specs.Standing.{NumberedMessage, StandingReport, cancelled_by, content_from, is_at, is_cancelled, is_report_of, named_report}
use Rattle.tape_core.specs.Standing.{standing_content, standing_report, standing_reports}
use Rattle.split_days.proofs.Lists.{BothOrNone, all-both, all-weaker, filter_map-alike, filter_map-zip, find-holds, find-map}
use Rattle.split_days.proofs.Numbered.{KeptMessage, on_whole, on_part, Agree}

-- two standing reports are the same, at matching places
pub record IsSameStanding (SamePlace : ℕ → ℕ → Type 0) (a b : StandingReport) : Type 0 where
  pub place : SamePlace a.place b.place
  pub who : a.who ≡ b.who
  pub content : a.content ≡ b.content

module _ (ks : List KeptMessage) where
  -- the kept messages with their numbers on the whole
  abbrev pub wholes : List NumberedMessage
  wholes = map on_whole ks

  -- and on the part
  abbrev pub parts : List NumberedMessage
  parts = map on_part ks

  -- the kept message that is named
  abbrev pub named_kept : ℕ → ℕ → Option KeptMessage
  named_kept who number = find (λ k. is_report_of who number k.message) ks

  -- it is the named report, with the number that it has on the whole
  pub named_report-whole : (who number : ℕ) → named_report wholes who number ≡ option_map on_whole (named_kept who number)
  named_report-whole who number = find-map (λ (n : NumberedMessage). is_report_of who number n.1) on_whole ks

  -- or on the part
  pub named_report-part : (who number : ℕ) → named_report parts who number ≡ option_map on_part (named_kept who number)
  named_report-part who number = find-map (λ (n : NumberedMessage). is_report_of who number n.1) on_part ks

  module _ (k : KeptMessage) (agree : AllByRecursion (Agree k) ks) where
    -- a named report is at the place of a kept message on both sides, or on neither
    is_at-renumbered : (who number : ℕ) → is_at k.whole (named_report wholes who number) ≡ is_at k.part (named_report parts who number)
    is_at-renumbered who number =
        ap (is_at k.whole) (named_report-whole who number) ∙ by (named_kept who number) refl ∙ sym (ap (is_at k.part) (named_report-part who number))
      where
        by : (o : Option KeptMessage) → named_kept who number ≡ o → is_at k.whole (option_map on_whole o) ≡ is_at k.part (option_map on_part o)
        by None named = refl
        by (Some r) named = find-holds (Agree k) (λ x. is_report_of who number x.message) r ks agree named

    -- whether a message cancels the report
    cancelled_by-renumbered : (whole part : ℕ) (m : Message) → cancelled_by wholes k.whole (whole, m) ≡ cancelled_by parts k.part (part, m)
    cancelled_by-renumbered whole part (Report header content) = refl
    cancelled_by-renumbered whole part (Cancel header target) =
        ap (λ (b : Bool). if b then Some true else None) (is_at-renumbered header.participant target)
    cancelled_by-renumbered whole part (Correct header target content) = refl
    cancelled_by-renumbered whole part (Reinstate header target) =
        ap (λ (b : Bool). if b then Some false else None) (is_at-renumbered header.participant target)

    -- the content that a message sets for it
    content_from-renumbered : (whole part : ℕ) (m : Message) → (whole == k.whole) ≡ (part == k.part)
        → content_from wholes k.whole (whole, m) ≡ content_from parts k.part (part, m)
    content_from-renumbered whole part (Report header content) same = ap (λ (b : Bool). if b then Some content else None) same
    content_from-renumbered whole part (Cancel header target) same = refl
    content_from-renumbered whole part (Correct header target content) same =
        ap (λ (b : Bool). if b then Some content else None) (is_at-renumbered header.participant target)
    content_from-renumbered whole part (Reinstate header target) same = refl

    -- it is cancelled on both sides, or on neither
    pub is_cancelled-renumbered : is_cancelled wholes k.whole ≡ is_cancelled parts k.part
    is_cancelled-renumbered = ap (λ said. unwrap_or (last_or None said) false)
        (filter_map-alike (cancelled_by wholes k.whole) (cancelled_by parts k.part) on_whole on_part ks
        (all-weaker (Agree k) (λ x. cancelled_by wholes k.whole (on_whole x) ≡ cancelled_by parts k.part (on_part x))
        (λ x _. cancelled_by-renumbered x.whole x.part x.message) ks agree))

    -- and has the same content
    pub standing_content-renumbered : standing_content wholes k.whole ≡ standing_content parts k.part
    standing_content-renumbered = ap (last_or None)
        (filter_map-alike (content_from wholes k.whole) (content_from parts k.part) on_whole on_part ks
        (all-weaker (Agree k) (λ x. content_from wholes k.whole (on_whole x) ≡ content_from parts k.part (on_part x))
        (λ x same. content_from-renumbered x.whole x.part x.message same) ks agree))

  module _ (SamePlace : ℕ → ℕ → Type 0) (symbol : List ℕ) (places : AllByRecursion (λ k. SamePlace k.whole k.part) ks)
      (agree : AllByRecursion (λ k. AllByRecursion (Agree k) ks) ks) where
    -- the report that stands at a place, by the tests of a message and the content in force
    abbrev if_stands : ℕ → Message → Bool → Option Content → Option StandingReport
    if_stands place m stands content =
        if stands then option_map (λ now. record { place = place; who = (header_of m).participant; content = now }) content else None

    -- a message as a standing report, at a place
    abbrev stood : ℕ → Message → Bool → Option Content → Option StandingReport
    stood place m cancelled content =
        if_stands place m (is_some (reported_content m) && (symbol_eq (header_of m).symbol symbol && not cancelled)) content

    -- the same at either place
    stood-same : (whole part : ℕ) (m : Message) (cancelled : Bool) (content : Option Content) → SamePlace whole part
        → BothOrNone (IsSameStanding SamePlace) (stood whole m cancelled content) (stood part m cancelled content)
    stood-same whole part m cancelled content same =
        by (is_some (reported_content m) && (symbol_eq (header_of m).symbol symbol && not cancelled)) content
      where
        by : (stands : Bool) (o : Option Content) → BothOrNone (IsSameStanding SamePlace) (if_stands whole m stands o) (if_stands part m stands o)
        by true None = tt
        by true (Some now) = record { place = same; who = refl; content = refl }
        by false o = tt

    -- a kept message stands on both sides, or on neither
    standing_report-renumbered : (k : KeptMessage) → SamePlace k.whole k.part → AllByRecursion (Agree k) ks
        → BothOrNone (IsSameStanding SamePlace) (standing_report wholes symbol (on_whole k)) (standing_report parts symbol (on_part k))
    standing_report-renumbered k same agrees =
        subst (λ b. BothOrNone (IsSameStanding SamePlace) (standing_report wholes symbol (on_whole k))
        (stood k.part k.message b (standing_content parts k.part)))
        (is_cancelled-renumbered k agrees)
        (subst (λ o. BothOrNone (IsSameStanding SamePlace) (standing_report wholes symbol (on_whole k))
        (stood k.part k.message (is_cancelled wholes k.whole) o))
        (standing_content-renumbered k agrees)
        (stood-same k.whole k.part k.message (is_cancelled wholes k.whole) (standing_content wholes k.whole) same))

    -- so the standing reports are the same, at matching places
    pub standing_reports-renumbered : AllZip (IsSameStanding SamePlace) (standing_reports wholes symbol) (standing_reports parts symbol)
    standing_reports-renumbered =
        filter_map-zip (IsSameStanding SamePlace) (standing_report wholes symbol) (standing_report parts symbol) on_whole on_part ks
        (all-both (λ k. SamePlace k.whole k.part) (λ k. AllByRecursion (Agree k) ks)
        (λ k. BothOrNone (IsSameStanding SamePlace) (standing_report wholes symbol (on_whole k)) (standing_report parts symbol (on_part k)))
        standing_report-renumbered ks places agree)
