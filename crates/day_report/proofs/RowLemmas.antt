-- Which participants have a row.
use Rattle.std.proofs.Common.{◌≡◌, ◌≢◌, ◌==◌, ◌∷◌, ◌∙◌, [], ℕ, List, Bool, true, false, Some, None, refl, sym, ap, inl, inr, arith, zero-add, length}
use Rattle.std.proofs.Common.{filter, map, slice_get}
use Rattle.std.specs.List.{list_any}
use Rattle.std.proofs.lemmas.Bool.{cases_Bool}
use Rattle.std.proofs.lemmas.List.{length-map}
use Rattle.scratch_fold.specs.declared.summary.Summary.{Summary}
use Rattle.scratch_fold.specs.Fold.{empty_summary}
use Rattle.summaries.specs.Lemmas.OtherLaws.{trades-from}
use Rattle.tape_core.specs.Standing.{standing_reports, placed_participant, participant_summary}
use Rattle.tape_core.specs.Tape.{TapeState, lists_participant, messages_of, participant_summary_at_index}
use Rattle.day_report.specs.Rows.{participant_row}

-- a filter keeps something exactly if some element passes
list_any-filter : {X : Type 0} (p : X → Bool) (xs : List X)
    → (length (filter p xs) ≡ 0 → list_any p xs ≡ false) × (length (filter p xs) ≢ 0 → list_any p xs ≡ true)
list_any-filter p [] = (λ _. refl, λ some. absurd (some refl))
list_any-filter p (x ∷ xs) = elim (cases_Bool (p x)) [
  | inl passes ↦ rw passes ((λ none. absurd (omega arith)), λ _. refl)
  | inr fails ↦ rw fails (list_any-filter p xs)
]

-- a participant's summary counts no trade exactly if no report of the participant stands
participant_summary-trades : (t : TapeState) (symbol : List ℕ) (who : ℕ)
    → (participant_summary t.matrix (messages_of t.entries) symbol who).trades ≡ length (filter (λ r. r.who == who) (standing_reports (messages_of t.entries) symbol))
participant_summary-trades t symbol who =
    let own = filter (λ r. r.who == who) (standing_reports (messages_of t.entries) symbol) in
    trades-from empty_summary (map (placed_participant t.matrix) own) ∙ zero-add _ ∙ length-map own (placed_participant t.matrix)

-- a summary that is present is the participant's
summary_there : (t : TapeState) (index : ℕ) (symbol : List ℕ) (who : ℕ) (z : Summary)
    → slice_get t.listing.symbols index ≡ Some symbol → lists_participant t.listing who ≡ true → participant_summary_at_index t index who ≡ Some z
    → participant_summary t.matrix (messages_of t.entries) symbol who ≡ z
summary_there t index symbol who z at_index has_participant is = cc (rw (at_index, has_participant) at is)

-- a participant without trades has no row
pub participant_row-None : (t : TapeState) (index : ℕ) (symbol : List ℕ) (who : ℕ) (z : Summary)
    → slice_get t.listing.symbols index ≡ Some symbol → lists_participant t.listing who ≡ true → participant_summary_at_index t index who ≡ Some z
    → z.trades ≡ 0 → participant_row t symbol who ≡ None
participant_row-None t index symbol who z at_index has_participant is none =
    let there = summary_there t index symbol who z at_index has_participant is in
    rw ((list_any-filter (λ r. r.who == who) (standing_reports (messages_of t.entries) symbol)).0 (sym (participant_summary-trades t symbol who)
    ∙ ap (λ (s : Summary). s.trades) there ∙ none)) refl

-- a participant with trades has a row of its summary
pub participant_row-Some : (t : TapeState) (index : ℕ) (symbol : List ℕ) (who : ℕ) (z : Summary)
    → slice_get t.listing.symbols index ≡ Some symbol → lists_participant t.listing who ≡ true → participant_summary_at_index t index who ≡ Some z
    → z.trades ≢ 0 → participant_row t symbol who ≡ Some (record { symbol = symbol; who = Some who; summary = z })
participant_row-Some t index symbol who z at_index has_participant is some =
    let there = summary_there t index symbol who z at_index has_participant is in
    rw (
      (list_any-filter (λ r. r.who == who) (standing_reports (messages_of t.entries) symbol)).1
          (λ none. some (sym (ap (λ (s : Summary). s.trades) there) ∙ participant_summary-trades t symbol who ∙ none)),
      there,
    ) refl

-- a participant whose own summary counts no trade has no row
pub own_row-None : (t : TapeState) (symbol : List ℕ) (who : ℕ) (z : Summary) → participant_summary t.matrix (messages_of t.entries) symbol who ≡ z → z.trades ≡ 0
    → participant_row t symbol who ≡ None
own_row-None t symbol who z there none =
    rw ((list_any-filter (λ r. r.who == who) (standing_reports (messages_of t.entries) symbol)).0 (sym (participant_summary-trades t symbol who)
    ∙ ap (λ (s : Summary). s.trades) there ∙ none)) refl

-- a participant whose own summary counts trades has a row of it
pub own_row-Some : (t : TapeState) (symbol : List ℕ) (who : ℕ) (z : Summary) → participant_summary t.matrix (messages_of t.entries) symbol who ≡ z → z.trades ≢ 0
    → participant_row t symbol who ≡ Some (record { symbol = symbol; who = Some who; summary = z })
own_row-Some t symbol who z there some =
    rw (
      (list_any-filter (λ r. r.who == who) (standing_reports (messages_of t.entries) symbol)).1
          (λ none. some (sym (ap (λ (s : Summary). s.trades) there) ∙ participant_summary-trades t symbol who ∙ none)),
      there,
    ) refl
