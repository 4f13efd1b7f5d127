-- Adds one more entry that was replayed.
use Rattle.std.proofs.Common.{◌≡◌, ℕ, ◌+◌, ◌<◌, List, [], ◌∷◌, ◌++◌, append_assoc, get_or, length, take, sym, ap, ◌∙◌}
use Rattle.std.proofs.lemmas.List.{take_more}
use Rattle.tape_core.specs.declared.entry.Entry.{Entry}
use Rattle.tape_core.specs.Tape.{TapeState, next_entry, with_message}
use Rattle.day_journal.specs.Replays.{with_entries}

-- the tape with one entry more
pub replayed : (first old new : TapeState) (es : List Entry) (i : ℕ) (own e : Entry) → i < length es → get_or es i e ≡ e → old ≡ with_entries first (take i es)
    → own ≡ next_entry old.matrix old.entries e.message → new ≡ with_message old e.message → own ≡ e → new ≡ with_entries first (take (i + 1) es)
replayed first old new es i own e within is before made grown same =
    let more : take i es ++ e ∷ [] ≡ take (i + 1) es = sym (take_more es i e within ∙ ap (λ (y : Entry). take i es ++ y ∷ []) is) in
    let pushed : TapeState → Entry → TapeState = λ t x. record t { entries = t.entries ++ x ∷ [] } in
    grown ∙ ap (pushed old) (sym made ∙ same) ∙ ap (λ (t : TapeState). pushed t e) before
    ∙ ap (λ (xs : List Entry). record first { entries = xs }) (append_assoc first.entries (take i es) (e ∷ []) ∙ ap (λ (xs : List Entry). first.entries ++ xs) more)
