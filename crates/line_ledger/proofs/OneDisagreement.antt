-- A disagreement is unique: one participant, at one position.
use Rattle.std.proofs.Common.{◌≡◌, ◌<◌, ◌+◌, ℕ, List, length, slice_get, Some, get_or, inl, inr, refl, ap, subst, ◌∙◌, sym, arith}
use Rattle.std.proofs.lemmas.Bool.{cases_lt}
use Rattle.std.proofs.lemmas.Option.{same_Some, slice_get_read, slice_get_within}
use Rattle.tape_core.specs.declared.entry.Entry.{Entry}
use Rattle.line_ledger.specs.Seats.{SeatState}
use Rattle.line_ledger.specs.Ends.{told_by, told_of, DiffersFirst, DisagreesAt, FirstTold}
use Rattle.line_ledger.proofs.Differences.{differs_apart, differs_once, same_from}

-- the participant that was read at a place of the list
pub listed_at : (read listed : List ℕ) (k who : ℕ) → read ≡ listed → k < length read → who ≡ get_or read k who → slice_get listed k ≡ Some who
listed_at read listed k who same within is = subst (λ ps. slice_get ps k ≡ Some who) same (slice_get_read read (length read) k who refl within is)

-- the seat of the next participant was told its entries too
pub told_more_seats : (n : ℕ) (participants : List ℕ) (entries : List Entry) (seats : List SeatState) (who : ℕ) → FirstTold n participants entries seats
    → slice_get participants n ≡ Some who → told_by who seats ≡ told_of who entries → FirstTold (n + 1) participants entries seats
told_more_seats n participants entries seats who told here same k other below at = elim (cases_lt k n) [
  | inl less ↦ told k other less at
  | inr most ↦
      let is : n ≡ k = omega (arith, below, most) in
      subst (λ w. told_by w seats ≡ told_of w entries) (same_Some who other (sym here ∙ ap (slice_get participants) is ∙ at)) same
]

module _ (participants : List ℕ) (entries : List Entry) (seats : List SeatState) where
  -- the seats of the participants before it were told their entries
  not-before : (who at other place : ℕ) (one : DisagreesAt participants entries seats who at)
      (two : DisagreesAt participants entries seats other place) → one.k < two.k → ⊥
  not-before who at other place one two less = differs_apart (told_by who seats) (told_of who entries) at one.first (two.before one.k who less one.listed)

  -- if there is a disagreement, not all seats were told their entries
  pub either : (who at : ℕ) → DisagreesAt participants entries seats who at → FirstTold (length participants) participants entries seats → ⊥
  either who at one told = differs_apart (told_by who seats) (told_of who entries) at one.first
      (told one.k who (slice_get_within participants one.k who one.listed) one.listed)

  -- two disagreements are of one participant, at one position
  pub only : (who at other place : ℕ) → DisagreesAt participants entries seats who at → DisagreesAt participants entries seats other place
      → (who ≡ other) × (at ≡ place)
  only who at other place one two =
      let here : one.k ≡ two.k = same_from (not-before who at other place one two) (not-before other place who at two one) in
      let same : who ≡ other = same_Some who other (sym one.listed ∙ ap (slice_get participants) here ∙ two.listed) in (
        same,
        differs_once (told_by who seats) (told_of who entries) at place one.first
            (subst (λ w. DiffersFirst (told_by w seats) (told_of w entries) place) (sym same) two.first),
      )
