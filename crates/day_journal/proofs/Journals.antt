-- Reads back a journal's groups, whole or cut.
use Rattle.std.proofs.Common.{◌≡◌, ℕ, zero, suc, ◌+◌, ◌-◌, ◌<◌, ◌≤◌, ◌==◌, true, false, List, [], ◌∷◌, ◌++◌, length, take}
use Rattle.std.proofs.Common.{refl, sym, ap, subst, ◌∙◌, arith, inl, inr}
use Rattle.std.specs.Prelude.{nat_le}
use Rattle.std.proofs.lemmas.Bool.{cases_Bool, cases_lt, eqb-false, eqb-true, le-leb, lt-leb, ne_eqb}
use Rattle.std.proofs.lemmas.Bool.Decides.{Decides-eqb}
use Rattle.std.proofs.lemmas.List.{length-append, length-take, take_at, drop_at, take-append-le}
use Rattle.reports.specs.Lemmas.Fields.{AreBytes, AreBytes-drop, AreBytes-take}
use Rattle.tape_core.specs.declared.entry.Entry.{Entry}
use Rattle.day_journal.specs.declared.journal_end.JournalEnd.{JournalEnd}
use Rattle.day_journal.specs.declared.journal_end.JournalEnd.TheVariants.{Whole}
use Rattle.day_journal.specs.Groups.{IsGroup, group_digest, group_text}
use Rattle.day_journal.specs.Journals.{AreGroups, CutJournals, Journal, OneSpelling, ReaderState, cut_end}
use Rattle.day_journal.specs.Journals.{groups_at, groups_text, whole_groups, with_group}
use Rattle.day_journal.proofs.Groups.{group_again, group_torn, length-group_text}
use Rattle.day_journal.proofs.Lists.{take_past}

-- a reader in this state
abbrev state : ℕ → ℕ → List ℕ → ℕ → List ℕ → ReaderState
state session held before total rest = record { session = session; held = held; digest = before; total = total; rest = rest }

-- a list with a nonempty front is not empty
not_empty : (front rest : List ℕ) → 1 ≤ length front → (length (front ++ rest) == 0) ≡ false
not_empty front rest some = ne_eqb (length (front ++ rest)) 0 (λ none. omega (arith, none, length-append front rest, some))

-- a group's text is not empty
some_text : (session : ℕ) (before : List ℕ) (es : List Entry) → 1 ≤ length (group_text session before es)
some_text session before es = omega (arith, length-group_text session before es)

-- a group is read, and then what follows it is read
one_group : (fuel session held : ℕ) (before : List ℕ) (es : List Entry) (total : ℕ) (rest : List ℕ) → IsGroup session held es
    → groups_at (suc fuel) (state session held before total (group_text session before es ++ rest))
    ≡ with_group es (groups_at fuel (state session (held + length es) (group_digest session before es) total rest))
unfolding groups_at
one_group fuel session held before es total rest group =
    let some = not_empty (group_text session before es) rest (some_text session before es) in
    rw (some, group_again session held before es rest group) refl

-- a journal without further bytes ends there
no_more : (fuel session held : ℕ) (before : List ℕ) (total : ℕ) → groups_at (suc fuel) (state session held before total []) ≡ ([], Whole)
unfolding groups_at
no_more fuel session held before total = refl

-- groups that were written are read back
groups_again : (fuel session held : ℕ) (before : List ℕ) (gs : List (List Entry)) (total : ℕ) → length (groups_text session before gs) < fuel
    → AreGroups session held gs → groups_at fuel (state session held before total (groups_text session before gs)) ≡ (gs, Whole)
unfolding groups_text AreGroups
groups_again zero session held before gs total enough are = absurd (omega (arith, enough))
groups_again (suc fuel) session held before [] total enough are = no_more fuel session held before total
groups_again (suc fuel) session held before (es ∷ gs) total enough are =
    let text = group_text session before es in
    let others = groups_text session (group_digest session before es) gs in
    one_group fuel session held before es total others are.0
    ∙ ap (with_group es)
    (groups_again fuel session (held + length es) (group_digest session before es) gs total
    (omega (arith, enough, length-append text others, some_text session before es)) are.1)

-- what was written is read back
pub one_spelling : OneSpelling
one_spelling session held before gs from are =
    let text = groups_text session before gs in
    groups_again (length text + 1) session held before gs (from + length text) (omega arith) are

-- a place in what follows a group, counted from before it
same_end : (from size whole len : ℕ) → size ≤ len → cut_end (from + size) whole (len - size) ≡ cut_end from (size + whole) len
same_end from size whole len within =
    let place : (from + size) + whole ≡ from + (size + whole) = omega arith in
    elim (cases_Bool (whole == len - size)) [
      | inl equal ↦
          let is : size + whole ≡ len = omega (arith, eqb-true whole (len - size) equal, within) in
          let also : (size + whole == len) ≡ true = (Decides-eqb (size + whole) len).1 is in
          rw (equal, also) refl
      | inr differ ↦
          let also : (size + whole == len) ≡ false = ne_eqb (size + whole) len (λ is.
          eqb-false whole (len - size) differ (omega (arith, is))) in
          rw (differ, also, place) refl
    ]

-- a group that was cut is not read, and the journal is torn at the group's front, or ends there
cut_in : (fuel session held : ℕ) (before : List ℕ) (es : List Entry) (others : List ℕ) (from len total : ℕ) → len < length (group_text session before es)
    → total ≡ from + len → IsGroup session held es → AreBytes (group_text session before es)
    → groups_at (suc fuel) (state session held before total (take len (group_text session before es ++ others))) ≡ ([], cut_end from 0 len)
unfolding groups_at
cut_in fuel session held before es others from zero total low place group fits = refl
cut_in fuel session held before es others from (suc len) total low place group fits =
    let text = group_text session before es in
    let bytes = take (suc len) text in
    let cut : take (suc len) (text ++ others) ≡ bytes = take-append-le (suc len) text others (omega (arith, low)) in
    let size : length bytes ≡ suc len = omega (arith, length-take (suc len) text, low) in
    let some : (length bytes == 0) ≡ false = ne_eqb (length bytes) 0 (λ none. omega (arith, none, size)) in
    let torn = group_torn session held before es (suc len) group fits (omega arith) low in
    let at : total - length bytes ≡ from + 0 = omega (arith, place, size) in
    let within : (0 == suc len) ≡ false = ne_eqb 0 (suc len) (λ none. omega (arith, none)) in
    rw (cut, some, torn, at, within) refl

-- the groups before a cut are read back
groups_cut : (fuel session held : ℕ) (before : List ℕ) (gs : List (List Entry)) (from len total : ℕ) → len < fuel → total ≡ from + len
    → AreGroups session held gs → AreBytes (groups_text session before gs) → len ≤ length (groups_text session before gs)
    → groups_at fuel (state session held before total (take len (groups_text session before gs)))
    ≡ (whole_groups session before gs len, cut_end from (length (groups_text session before (whole_groups session before gs len))) len)
unfolding groups_text AreGroups whole_groups
groups_cut zero session held before gs from len total enough place are fits within = absurd (omega (arith, enough))
groups_cut (suc fuel) session held before [] from zero total enough place are fits within = no_more fuel session held before total
groups_cut (suc fuel) session held before [] from (suc len) total enough place are fits within = absurd (omega (arith, within))
groups_cut (suc fuel) session held before (es ∷ gs) from len total enough place are fits within =
    let text = group_text session before es in
    let digest = group_digest session before es in
    let others = groups_text session digest gs in
    let size = length text in
    let text_fits : AreBytes text = subst AreBytes (take_at text others size refl) (AreBytes-take size (text ++ others) fits) in
    let others_fit : AreBytes others = subst AreBytes (drop_at text others size refl) (AreBytes-drop size (text ++ others) fits) in
    elim (cases_lt len size) [
      | inl low ↦
          let none : nat_le size len ≡ false = lt-leb size len low in
          rw none (cut_in fuel session held before es others from len total low place are.0 text_fits)
      | inr high ↦
          let left = len - size in
          let kept = whole_groups session digest gs left in
          let is : len ≡ size + left = omega (arith, high) in
          let cut : take len (text ++ others) ≡ text ++ take left others =
          ap (λ (n : ℕ). take n (text ++ others)) is ∙ take_past text others left in
          let there : nat_le size len ≡ true = le-leb size len high in
          let more = groups_cut fuel session (held + length es) digest gs (from + size) left total (omega (arith, enough, high, some_text session before es))
          (omega (arith, place, high)) are.1 others_fit (omega (arith, within, high, length-append text others)) in
          let ends : cut_end (from + size) (length (groups_text session digest kept)) left
          ≡ cut_end from (length (text ++ groups_text session digest kept)) len =
          same_end from size (length (groups_text session digest kept)) len high
          ∙ ap (λ (n : ℕ). cut_end from n len) (sym (length-append text (groups_text session digest kept))) in
          rw (cut, there)
          (one_group fuel session held before es total (take left others) are.0
          ∙ ap (with_group es) more
          ∙ ap (λ (end : JournalEnd). (es ∷ kept, end)) ends)
    ]

-- the whole groups of a journal that was cut at any byte are read back
pub cut_journals : CutJournals
cut_journals session held before gs from len are fits within =
    let text = groups_text session before gs in
    let size : length (take len text) ≡ len = omega (arith, length-take len text, within) in
    let kept = whole_groups session before gs len in
    let made : ℕ → Journal = λ n. groups_at (n + 1) (state session held before (from + n) (take len text)) in
    let all : made (length (take len text)) ≡ made len = ap made size in
    all ∙ groups_cut (len + 1) session held before gs from len (from + len) (omega arith) refl are fits within
