-- Shows that a symbol's summary names only places of the tape's messages.
use Rattle.std.proofs.Common.{ℕ, ◌≤◌, Bool, true, false, List, [], ◌∷◌, Option, Some, None, if◌then◌else◌}
use Rattle.std.specs.Prelude.{All, IfSome, ◌&&◌, is_some, map, not}
use Rattle.std.specs.List.{cons_option, filter_map}
use Rattle.std.specs.Option.{option_map}
use Rattle.std.proofs.lemmas.List.Elements.{All-cons, All-head, All-nil, All-tail}
use Rattle.tape_types.specs.Names.{symbol_eq}
use Rattle.sale_matrix.specs.declared.content.Content.{Content}
use Rattle.sale_matrix.specs.declared.matrix.Matrix.{Matrix}
use Rattle.reports.specs.Messages.{header_of, reported_content}
use Rattle.scratch_fold.specs.Fold.{PlacedEffect}
use Rattle.scratch_fold.specs.Places.{HasPlacesUpTo}
use Rattle.scratch_fold.specs.Lemmas.Places.{summary_of-places}
use Rattle.tape_core.specs.Standing.{NumberedMessage, StandingReport, is_cancelled, placed_consolidated, standing_content, standing_report, symbol_summary}

-- a report that stands has the place of its message
standing-place : (most place who : ℕ) (stands : Bool) (content : Option Content) → place ≤ most
    → IfSome (if stands then option_map (λ now. record { place = place; who = who; content = now }) content else None) (λ (r : StandingReport). r.place ≤ most)
standing-place most place who true (Some now) low = low
standing-place most place who true None low = tt
standing-place most place who false content low = tt

-- its effect has that place too
effect-place : (matrix : Matrix) (most : ℕ) (report : Option StandingReport) (others : List StandingReport) → IfSome report (λ r. r.place ≤ most)
    → All (λ (r : PlacedEffect). r.0 ≤ most) (map (placed_consolidated matrix) others)
    → All (λ (r : PlacedEffect). r.0 ≤ most) (map (placed_consolidated matrix) (cons_option report others))
effect-place matrix most None others low rest = rest
effect-place matrix most (Some r) others low rest = All-cons (λ (r : PlacedEffect). r.0 ≤ most) (placed_consolidated matrix r) (map (placed_consolidated matrix) others) low rest

-- the reports among messages have places of these
effects-places : (matrix : Matrix) (most : ℕ) (tape : List NumberedMessage) (symbol : List ℕ) (ns : List NumberedMessage) → All (λ (n : NumberedMessage). n.0 ≤ most) ns
    → All (λ (r : PlacedEffect). r.0 ≤ most) (map (placed_consolidated matrix) (filter_map (standing_report tape symbol) ns))
effects-places matrix most tape symbol [] low = All-nil (λ (r : PlacedEffect). r.0 ≤ most)
effects-places matrix most tape symbol (n ∷ ns) low =
    effect-place matrix most (standing_report tape symbol n) (filter_map (standing_report tape symbol) ns)
    (standing-place most n.0 (header_of n.1).participant
    (is_some (reported_content n.1) && (symbol_eq (header_of n.1).symbol symbol && not (is_cancelled tape n.0)))
    (standing_content tape n.0) (All-head (λ (n : NumberedMessage). n.0 ≤ most) n ns low))
    (effects-places matrix most tape symbol ns (All-tail (λ (n : NumberedMessage). n.0 ≤ most) n ns low))

-- so no mark of a symbol's summary has a place above all the messages' numbers
pub symbol_summary-places : (matrix : Matrix) (most : ℕ) (tape : List NumberedMessage) (symbol : List ℕ) → All (λ (n : NumberedMessage). n.0 ≤ most) tape
    → HasPlacesUpTo most (symbol_summary matrix tape symbol)
symbol_summary-places matrix most tape symbol low = summary_of-places most _ (effects-places matrix most tape symbol tape low)
