-- Groups and entries of a journal, one more restored.
use Rattle.std.proofs.Common.{◌≡◌, ◌+◌, ◌<◌, ◌++◌, ◌∷◌, ◌∙◌, [], ℕ, zero, suc, List, ap, append-nil, append_assoc, arith, get_or, length, refl, subst, sym, take}
use Rattle.std.proofs.lemmas.List.{take_more}
use Rattle.std.specs.Prelude.{slice_set}
use Rattle.line_ledger.specs.Ends.{whos}
use Rattle.std.proofs.lemmas.Grind.{flat_map-append}
use Rattle.day_journal.specs.Journals.{IsRead, ReaderState}
use Rattle.line_ledger.specs.Seats.{SeatState}
use Rattle.tape_core.specs.declared.entry.Entry.{Entry}
use Rattle.live_feed.specs.Journals.{entries_of}
use Rattle.live_feed.specs.Restorings.{IsRestored, ReadsGroups, TellsEntries, TellsEntry}

-- groups and more of them
reads_more : (gs hs : List (List Entry)) (a b c : ReaderState) → ReadsGroups gs a b → ReadsGroups hs b c → ReadsGroups (gs ++ hs) a c
unfolding ReadsGroups
reads_more [] hs a b c first then = subst (λ r. ReadsGroups hs r c) first then
reads_more (es ∷ gs) hs a b c (mid, read, first) then = (mid, read, reads_more gs hs mid b c first then)

-- one group
one_read : (es : List Entry) (a b : ReaderState) → IsRead a es b → ReadsGroups (es ∷ []) a b
unfolding ReadsGroups
one_read es a b read = (b, read, refl)

-- entries and more of them
pub tells_more : (es fs : List Entry) (a b c : List SeatState) → TellsEntries a es b → TellsEntries b fs c → TellsEntries a (es ++ fs) c
unfolding TellsEntries
tells_more [] fs a b c first then = subst (λ s. TellsEntries s fs c) first then
tells_more (e ∷ es) fs a b c (mid, told, first) then = (mid, told, tells_more es fs mid b c first then)

-- one entry
pub one_told : (e : Entry) (a b : List SeatState) → TellsEntry a e b → TellsEntries a (e ∷ []) b
unfolding TellsEntries
one_told e a b told = (b, told, refl)

-- none
pub none_told : (a : List SeatState) → TellsEntries a [] a
unfolding TellsEntries
none_told a = refl

-- nothing is restored yet
pub restored_none : (r : ReaderState) (seats : List SeatState) (before : List Entry) → IsRestored r seats before r seats before
unfolding ReadsGroups
restored_none r seats before = record { groups = []; read = refl; told = none_told seats; published = sym (append-nil before) }

-- one group more
pub restored_more : (a b c : ReaderState) (s t u : List SeatState) (x y z es : List Entry) → IsRestored a s x b t y → IsRead b es c
    → TellsEntries t es u → z ≡ y ++ es → IsRestored a s x c u z
restored_more a b c s t u x y z es so_far read told published =
    let groups = so_far.groups in
    let one : entries_of (es ∷ []) ≡ es = append-nil es in
    let all : entries_of (groups ++ es ∷ []) ≡ entries_of groups ++ es =
    flat_map-append (λ (l : List Entry). l) groups (es ∷ []) ∙ ap (λ (l : List Entry). entries_of groups ++ l) one in
    record {
      groups = groups ++ es ∷ [];
      read = reads_more groups (es ∷ []) a b c so_far.read (one_read es b c read);
      told = subst (λ l. TellsEntries s l u) (sym all) (tells_more (entries_of groups) es s t u so_far.told told);
      published = published ∙ ap (λ (l : List Entry). l ++ es) so_far.published ∙ append_assoc x (entries_of groups) es
          ∙ ap (λ (l : List Entry). x ++ l) (sym all);
    }

-- the participants of seats of which one was told something
pub whos_set : (seats : List SeatState) (at : ℕ) (s d : SeatState) → at < length seats → s.who ≡ (get_or seats at d).who
    → whos (slice_set seats at s) ≡ whos seats
whos_set [] at s d less same = absurd (omega (arith, less))
whos_set (x ∷ xs) zero s d less same = ap (λ (w : ℕ). w ∷ whos xs) same
whos_set (x ∷ xs) (suc at) s d less same = ap (λ (l : List ℕ). x.who ∷ l) (whos_set xs at s d (omega (arith, less)) same)

-- one entry more of a list was told
pub tells_one_more : (es : List Entry) (i : ℕ) (e : Entry) (a b c : List SeatState) → i < length es → e ≡ get_or es i e → TellsEntries a (take i es) b
    → TellsEntry b e c → TellsEntries a (take (i + 1) es) c
tells_one_more es i e a b c within is so_far told =
    let all : take (i + 1) es ≡ take i es ++ e ∷ [] = take_more es i e within ∙ ap (λ (x : Entry). take i es ++ x ∷ []) (sym is) in
    subst (λ l. TellsEntries a l c) (sym all) (tells_more (take i es) (e ∷ []) a b c so_far (one_told e b c told))
