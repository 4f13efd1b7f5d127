-- Follows what is kept for the end of a journal's tape, entry by entry.
use Rattle.std.proofs.Common.{◌≡◌, ℕ, ◌+◌, ◌<◌, List, [], ◌∷◌, ◌++◌, length, take, get_or, slice_get, Some, sym, ap, subst, ◌∙◌}
use Rattle.std.proofs.lemmas.List.{take_more}
use Rattle.std.proofs.lemmas.Option.{slice_get-get_or}
use Rattle.tape_core.specs.declared.entry.Entry.{Entry}
use Rattle.tape_core.specs.declared.end_tape.EndTape.{EndTape}
use Rattle.tape_core.specs.Ending.{IsKeptFor, KeepsEnd, ListsNames}
use Rattle.tape_core.specs.Tape.{IsLegal, TapeState, next_entry, with_message}
use Rattle.csv_days.proofs.AccountLemmas.{legal-lists}
use Rattle.journal_days.specs.Days.{unlimited_before}

-- an entry of a list, by its index
at_index : (es : List Entry) (i : ℕ) (e : Entry) → i < length es → get_or es i e ≡ e → slice_get es i ≡ Some e
at_index es i e within is = slice_get-get_or es i e within ∙ ap Some is

-- the tape lists the names of its next entry
pub lists_next : (t : TapeState) (i : ℕ) (e : Entry) → IsLegal t → i < length t.entries → get_or t.entries i e ≡ e → ListsNames t.listing e.message
lists_next t i e legal within is =
    let lists = legal-lists t i e legal (at_index t.entries i e within is) in
    record { participant = lists.1; symbol = lists.0 }

-- what is kept is that of a tape that lists the names of the next entry
pub kept_for_next : (t : TapeState) (i : ℕ) (e : Entry) (end : EndTape) → IsLegal t → i < length t.entries → get_or t.entries i e ≡ e
    → KeepsEnd (unlimited_before t i) end → IsKeptFor end e.message
kept_for_next t i e end legal within is kept = (unlimited_before t i, kept, lists_next t i e legal within is)

-- with one more entry, what is kept is that of one entry more
pub kept_more : (t : TapeState) (i : ℕ) (e : Entry) (end : EndTape) → IsLegal t → i < length t.entries → get_or t.entries i e ≡ e
    → KeepsEnd (with_message (unlimited_before t i) e.message) end → KeepsEnd (unlimited_before t (i + 1)) end
kept_more t i e end legal within is kept =
    let made : e ≡ next_entry t.matrix (take i t.entries) e.message = (legal i e (at_index t.entries i e within is)).1 in
    let longer : take i t.entries ++ next_entry t.matrix (take i t.entries) e.message ∷ [] ≡ take (i + 1) t.entries =
    ap (λ (x : Entry). take i t.entries ++ x ∷ []) (sym made ∙ sym is) ∙ sym (take_more t.entries i e within) in
    subst (λ (es : List Entry). KeepsEnd (record (unlimited_before t i) { entries = es }) end) longer kept
