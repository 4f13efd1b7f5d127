-- The first stale row, with one message more.
use Rattle.std.proofs.Common.{◌≡◌, ◌+◌, ◌∷◌, ◌++◌, ◌∙◌, [], ℕ, true, false, List, Option, Result, Some, None, Ok, Err, fold, ap, inl, inr, refl, sym}
use Rattle.std.proofs.lemmas.Bool.{cases_Bool}
use Rattle.std.specs.Prelude.{if◌then◌else◌, is_some}
use Rattle.reports.specs.declared.message.Message.{Message}
use Rattle.tape_core.specs.Tape.{TapeState}
use Rattle.tape_core.specs.declared.refusal.Refusal.{Refusal}
use Rattle.tape_core.specs.declared.refusal.Refusal.TheVariants.{Stale}
use Rattle.tape_core.specs.Answers.{answer, tape_after}
use Rattle.csv_days.specs.Refusals.{is_refusal}
use Rattle.csv_days.specs.StaleRows.{first_stale, number_before, stale_after, stale_row}
use Rattle.csv_days.specs.declared.stale_row.StaleRow.{StaleRow}

-- the first stale row of one message more
pub first_stale-push : (t : TapeState) (before : List Message) (m : Message)
    → first_stale t (before ++ m ∷ [])
    ≡ stale_after (first_stale t before) (answer (fold tape_after t before) m) (stale_row m (number_before (fold tape_after t before) m))
unfolding first_stale stale_after
first_stale-push t [] m = refl
first_stale-push t (b ∷ before) m = elim (cases_Bool (is_refusal Stale (answer t b))) [
  | inl stale ↦ rw stale refl
  | inr other ↦ rw other (first_stale-push (tape_after t b) before m)
]

-- the first stale row is that of one message more
pub first_stale-more : (t s : TapeState) (before : List Message) (m : Message) (answered : Result ℕ Refusal) (greatest : ℕ)
    (old new : Option StaleRow) → s ≡ fold tape_after t before → answered ≡ answer s m → greatest ≡ number_before s m → old ≡ first_stale t before
    → new ≡ stale_after old answered (stale_row m greatest) → new ≡ first_stale t (before ++ m ∷ [])
first_stale-more t s before m answered greatest old new at is last had noted =
    noted
    ∙ ap (λ o. stale_after o answered (stale_row m greatest)) had
    ∙ ap (λ (a : Result ℕ Refusal). stale_after (first_stale t before) a (stale_row m greatest)) (is ∙ ap (λ s. answer s m) at)
    ∙ ap (λ (n : ℕ). stale_after (first_stale t before) (answer (fold tape_after t before) m) (stale_row m n)) (last ∙ ap (λ s. number_before s m) at)
    ∙ sym (first_stale-push t before m)

-- an admitted row is not stale
pub stale_after-admitted : (first : Option StaleRow) (number : ℕ) (row : StaleRow) → stale_after first (Ok number) row ≡ first
unfolding stale_after
stale_after-admitted (Some first) number row = refl
stale_after-admitted None number row = refl

-- a stale row is the first if there was none
pub stale_after-stale : (first : Option StaleRow) (refused : Refusal) (row : StaleRow) → is_refusal Stale (Err refused) ≡ true → is_some first ≡ false
    → stale_after first (Err refused) row ≡ Some row
unfolding stale_after
stale_after-stale None refused row stale none = rw stale refl
stale_after-stale (Some found) refused row stale none = absurd (cc none)

-- a row that is refused for another reason changes nothing
pub stale_after-other : (first : Option StaleRow) (refused : Refusal) (row : StaleRow) → is_refusal Stale (Err refused) ≡ false
    → stale_after first (Err refused) row ≡ first
unfolding stale_after
stale_after-other (Some first) refused row other = refl
stale_after-other None refused row other = rw other refl

-- nor does any row after the first stale one
pub stale_after-some : (first : Option StaleRow) (answered : Result ℕ Refusal) (row : StaleRow) → is_some first ≡ true
    → stale_after first answered row ≡ first
unfolding stale_after
stale_after-some None answered row some = absurd (cc some)
stale_after-some (Some found) answered row some = refl
