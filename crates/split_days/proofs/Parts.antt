-- A list of messages and its part, each numbered in its own order: what a kept message names and the summary of a kept symbol
-- are the same.
use Rattle.std.proofs.Common.{◌≡◌, ℕ, Bool, true, false, not, List, ◌∷◌, Option, Some, None, [], unwrap_or, filter, refl, sym, ap, subst, ◌∙◌}
use Rattle.std.specs.Prelude.{◌==◌, ◌&&◌}
use Rattle.std.specs.List.{AllByRecursion, AllZip, find}
use Rattle.std.specs.Option.{option_map, IfSome}
use Rattle.std.proofs.lemmas.Option.{same_Some}
use Rattle.tape_types.specs.Names.{first_fault, symbol_eq}
use Rattle.sale_matrix.specs.declared.matrix.Matrix.{Matrix}
use Rattle.sale_matrix.specs.Matrix.{cells_of}
use Rattle.reports.specs.declared.message.Message.{Message}
use Rattle.reports.specs.Messages.{header_of, named_target}
use Rattle.scratch_fold.specs.Columns.{consolidated_effect, participant_effect}
use Rattle.scratch_fold.specs.Fold.{PlacedEffect}
use Rattle.tape_core.specs.declared.refusal.Refusal.{Refusal}
use Rattle.tape_core.specs.declared.refusal.Refusal.TheVariants.{OtherSymbol, Cancelled, Standing}
use Rattle.tape_core.specs.Standing.{NumberedMessage, StandingReport, is_cancelled, is_report_of, named_report, standing_reports}
use Rattle.tape_core.specs.Standing.{placed_consolidated, placed_participant, symbol_summary, participant_summary}
use Rattle.tape_core.specs.Tape.{message_faults, reinstates, target_faults}
use Rattle.split_days.specs.Split.{HaveOneMessage, IsSameSummary}
use Rattle.split_days.proofs.Lists.{all-both, all-weaker, filter-zip, find-holds, map-zip}
use Rattle.split_days.proofs.Folds.{IsSameReport, summary_of-same}
use Rattle.split_days.proofs.Numbered.{numbered, numbered-found, IsFound, KeptMessage, on_whole, on_part, Agree, kept, kept-agree}
use Rattle.split_days.proofs.Numbered.{filter-numbered, numbered-filter, kept-found_on_whole, kept-found_on_part}
use Rattle.split_days.proofs.Named.{keeps, NamesAlike, AllNameAlike}
use Rattle.split_days.proofs.Filtered.{kept_tape, named_report-kept, named_report-place, is_cancelled-kept, standing_reports-kept}
use Rattle.split_days.proofs.Renumbered.{IsSameStanding, wholes, parts, named_kept, named_report-whole, named_report-part}
use Rattle.split_days.proofs.Renumbered.{is_cancelled-renumbered, standing_reports-renumbered}

module _ (of : List ℕ → Bool) (ms : List Message) (alike : AllNameAlike of (numbered 1 ms)) where
  -- all messages with their numbers
  abbrev pub whole : List NumberedMessage
  whole = numbered 1 ms

  -- the kept ones with numbers of their own
  abbrev pub part : List NumberedMessage
  part = numbered 1 (filter (keeps of) ms)

  -- the kept ones with both numbers
  abbrev ks : List KeptMessage
  ks = kept (keeps of) 1 1 ms

  -- whether the message at a place is kept
  abbrev kept_at : ℕ → Bool
  kept_at place = unwrap_or (option_map (λ (n : NumberedMessage). keeps of n.1) (find (λ (n : NumberedMessage). n.0 == place) whole)) false

  -- a message is kept if its place is
  places : AllByRecursion (λ (n : NumberedMessage). keeps of n.1 ≡ kept_at n.0) whole
  places = all-weaker (IsFound whole) (λ (n : NumberedMessage). keeps of n.1 ≡ kept_at n.0)
      (λ n found. sym (ap (λ (o : Option NumberedMessage). unwrap_or (option_map (λ (x : NumberedMessage). keeps of x.1) o) false) found))
      whole (numbered-found 1 ms)

  -- the messages kept from all
  kept-is : kept_tape of kept_at whole places alike ≡ wholes ks
  kept-is = filter-numbered (keeps of) 1 1 ms

  -- and those numbered anew
  part-is : part ≡ parts ks
  part-is = numbered-filter (keeps of) 1 1 ms

  -- ## What a message names

  -- a kept report is cancelled on the part if and only if it is on the whole
  is_cancelled-part : (k : KeptMessage) → AllByRecursion (Agree k) ks → kept_at k.whole ≡ true → is_cancelled part k.part ≡ is_cancelled whole k.whole
  is_cancelled-part k agree at =
      ap (λ tape. is_cancelled tape k.part) part-is
      ∙ sym (is_cancelled-renumbered ks k agree)
      ∙ ap (λ tape. is_cancelled tape k.whole) (sym kept-is)
      ∙ is_cancelled-kept of kept_at whole places alike k.whole at

  -- the part names the same report, with its own number, and it is cancelled on both or on neither
  record NamesPart (who target : ℕ) (r : NumberedMessage) : Type 0 where
    message : KeptMessage
    same : on_whole message ≡ r
    named : named_report part who target ≡ Some (on_part message)
    cancelled : is_cancelled part message.part ≡ is_cancelled whole r.0

  -- the part names each kept report that the whole names
  names-part : (who target : ℕ) (r : NumberedMessage) → named_report whole who target ≡ Some r → keeps of r.1 ≡ true → NamesPart who target r
  names-part who target r named keep =
      by (named_kept ks who target) refl
      (sym (named_report-whole ks who target) ∙ ap (λ tape. named_report tape who target) (sym kept-is)
      ∙ named_report-kept of kept_at whole places alike who target r named keep)
    where
      by : (o : Option KeptMessage) → named_kept ks who target ≡ o → option_map on_whole o ≡ Some r → NamesPart who target r
      by None found is = absurd (cc)
      by (Some k) found is =
          let same : on_whole k ≡ r = same_Some (on_whole k) r is in
          let place : k.whole ≡ r.0 = ap (λ (n : NumberedMessage). n.0) same in
          let at : kept_at k.whole ≡ true = ap kept_at place ∙ sym (named_report-place of kept_at whole places alike who target r named) ∙ keep in
          let agree : AllByRecursion (Agree k) ks =
          find-holds (λ x. AllByRecursion (Agree x) ks) (λ x. is_report_of who target x.message) k ks (kept-agree (keeps of) 1 1 ms) found in
          record {
            message = k;
            same = same;
            named = ap (λ tape. named_report tape who target) part-is ∙ named_report-part ks who target ∙ ap (option_map on_part) found;
            cancelled = is_cancelled-part k agree at ∙ ap (is_cancelled whole) place;
          }

  -- the faults of a message's target, if it is of this symbol, and cancelled or not
  abbrev faults_of : Message → List ℕ → Bool → List (Bool × Refusal)
  faults_of m symbol cancelled =
      (not (symbol_eq (header_of m).symbol symbol), OtherSymbol) ∷ (not (reinstates m) && cancelled, Cancelled) ∷ (reinstates m && not cancelled, Standing) ∷ []

  -- what can be wrong with a target by these messages
  abbrev faults_by : List NumberedMessage → Message → ℕ → List (Bool × Refusal)
  faults_by tape m target = target_faults tape (header_of m).symbol (reinstates m) (named_report tape (header_of m).participant target)

  -- so a kept message's target has the faults on the part that it has on the whole
  pub message_faults-part : (m : Message) → NamesAlike of whole m → keeps of m ≡ true
      → first_fault (message_faults part m) ≡ first_fault (message_faults whole m)
  message_faults-part m names keep = by (named_target m) names
    where
      there : (target : ℕ) (r : NumberedMessage) → named_report whole (header_of m).participant target ≡ Some r
          → NamesPart (header_of m).participant target r → faults_by part m target ≡ faults_by whole m target
      there target r named p =
          ap (target_faults part (header_of m).symbol (reinstates m)) p.named
          ∙ ap (faults_of m (header_of p.message.message).symbol) p.cancelled
          ∙ ap (λ (n : NumberedMessage). faults_of m (header_of n.1).symbol (is_cancelled whole r.0)) p.same
          ∙ ap (target_faults whole (header_of m).symbol (reinstates m)) (sym named)

      by : (o : Option ℕ)
          → IfSome o (λ target. (r : NumberedMessage) × (named_report whole (header_of m).participant target ≡ Some r) × (keeps of r.1 ≡ keeps of m))
          → first_fault (unwrap_or (option_map (faults_by part m) o) []) ≡ first_fault (unwrap_or (option_map (faults_by whole m) o) [])
      by None given = refl
      by (Some target) given =
          ap first_fault (there target given.0 given.1 (names-part (header_of m).participant target given.0 given.1 (given.2 ∙ keep)))

  -- ## The summary of a kept symbol

  -- a kept message is at its two numbers
  one_message : AllByRecursion (λ k. HaveOneMessage whole part k.whole k.part) ks
  one_message = all-both (λ k. IsFound whole (on_whole k)) (λ k. IsFound part (on_part k)) (λ k. HaveOneMessage whole part k.whole k.part)
      (λ k on on'. (k.message, ap (option_map (λ (n : NumberedMessage). n.1)) on, ap (option_map (λ (n : NumberedMessage). n.1)) on'))
      ks (kept-found_on_whole (keeps of) 1 1 ms) (kept-found_on_part (keeps of) 1 1 ms)

  -- two standing reports are the same, at the numbers of one message
  abbrev IsOneReport : StandingReport → StandingReport → Type 0
  IsOneReport = IsSameStanding (HaveOneMessage whole part)

  -- and they have the same effect
  abbrev IsOneEffect : PlacedEffect → PlacedEffect → Type 0
  IsOneEffect = IsSameReport (HaveOneMessage whole part)

  -- such reports have the same effect on the consolidated summary
  consolidated-same : (matrix : Matrix) (a b : StandingReport) → IsOneReport a b → IsOneEffect (placed_consolidated matrix a) (placed_consolidated matrix b)
  consolidated-same matrix a b same = record {
    place = same.place;
    effect = λ i. consolidated_effect (same.who i) (same.content i).price (same.content i).size (cells_of matrix (same.content i).condition);
  }

  -- and on their participant's
  participant-same : (matrix : Matrix) (a b : StandingReport) → IsOneReport a b → IsOneEffect (placed_participant matrix a) (placed_participant matrix b)
  participant-same matrix a b same = record {
    place = same.place;
    effect = λ i. participant_effect (same.who i) (same.content i).price (same.content i).size (cells_of matrix (same.content i).condition);
  }

  module _ (matrix : Matrix) (symbol : List ℕ) (others : (s : List ℕ) → of s ≡ false → symbol_eq s symbol ≡ false) where
    -- the same reports stand
    standing-same : AllZip IsOneReport (standing_reports whole symbol) (standing_reports part symbol)
    standing-same =
        subst (λ rs. AllZip IsOneReport rs (standing_reports part symbol))
        (ap (λ tape. standing_reports tape symbol) (sym kept-is) ∙ standing_reports-kept of kept_at whole places alike symbol others)
        (subst (λ tape. AllZip IsOneReport (standing_reports (wholes ks) symbol) (standing_reports tape symbol)) (sym part-is)
        (standing_reports-renumbered ks (HaveOneMessage whole part) symbol one_message (kept-agree (keeps of) 1 1 ms)))

    -- so the consolidated summaries are the same
    pub symbol_summary-same : IsSameSummary (HaveOneMessage whole part) (symbol_summary matrix whole symbol) (symbol_summary matrix part symbol)
    symbol_summary-same =
        summary_of-same (HaveOneMessage whole part) _ _
        (map-zip IsOneReport IsOneEffect (placed_consolidated matrix) (placed_consolidated matrix) (consolidated-same matrix)
        (standing_reports whole symbol) (standing_reports part symbol) standing-same)

    -- and so are a participant's
    pub participant_summary-same : (who : ℕ)
        → IsSameSummary (HaveOneMessage whole part) (participant_summary matrix whole symbol who) (participant_summary matrix part symbol who)
    participant_summary-same who =
        summary_of-same (HaveOneMessage whole part) _ _
        (map-zip IsOneReport IsOneEffect (placed_participant matrix) (placed_participant matrix) (participant-same matrix)
        (filter (λ r. r.who == who) (standing_reports whole symbol)) (filter (λ r. r.who == who) (standing_reports part symbol))
        (filter-zip IsOneReport (λ r. r.who == who) (λ r. r.who == who) (λ a b same. ap (λ w. w == who) same.who)
        (standing_reports whole symbol) (standing_reports part symbol) standing-same))
