-- Groups read one after the other, and how far the lines had come after their entries.
use Rattle.std.proofs.Common.{◌≡◌, ◌∙◌, ◌+◌, ◌<◌, ◌++◌, ◌∷◌, [], ℕ, List, ap, append-nil, get_or, length, map, refl, subst, sym, take}
use Rattle.std.proofs.lemmas.Grind.{flat_map-append}
use Rattle.std.proofs.lemmas.List.{take_more}
use Rattle.tape_core.specs.declared.entry.Entry.{Entry}
use Rattle.day_journal.specs.Journals.{IsRead, ReaderState}
use Rattle.journal_start.specs.Groups.{ReadsGroups, entries_of}
use Rattle.journal_start.specs.PastLines.{with_entries, with_entry}
use Rattle.journal_start.specs.declared.past_line.PastLine.{PastLine}

-- one more group
pub reads_more : (groups : List (List Entry)) (old mid new : ReaderState) (es : List Entry) → ReadsGroups groups old mid → IsRead mid es new
    → ReadsGroups (groups ++ es ∷ []) old new
unfolding ReadsGroups
reads_more [] old mid new es same read = (new, subst (λ (r : ReaderState). IsRead r es new) same read, refl)
reads_more (first ∷ groups) old mid new es (next, begun, rest) read = (next, begun, reads_more groups next mid new es rest read)

-- no group yet
pub reads_none : (r : ReaderState) → ReadsGroups [] r r
unfolding ReadsGroups
reads_none r = refl

-- entries after others
pub with_entries-append : (line : PastLine) (front es : List Entry) → with_entries line (front ++ es) ≡ with_entries (with_entries line front) es
unfolding with_entries
with_entries-append line [] es = refl
with_entries-append line (e ∷ front) es = with_entries-append (with_entry line e) front es

-- no entry
pub with_entries-nil : (line : PastLine) → with_entries line [] ≡ line
unfolding with_entries
with_entries-nil line = refl

-- one entry
pub with_entries-one : (line : PastLine) (e : Entry) → with_entries line (e ∷ []) ≡ with_entry line e
unfolding with_entries
with_entries-one line e = refl

-- without a group, no line has come farther
pub lines_none : (lines : List PastLine) → lines ≡ map (λ line. with_entries line (entries_of [])) lines
lines_none [] = refl
lines_none (line ∷ lines) = sym (ap (λ (l : PastLine). l ∷ map (λ line. with_entries line []) lines) (with_entries-nil line)
    ∙ ap (λ (ls : List PastLine). line ∷ ls) (sym (lines_none lines)))

-- all lines after one more group
pub lines_more : (start : List PastLine) (groups : List (List Entry)) (es : List Entry)
    → map (λ line. with_entries line es) (map (λ line. with_entries line (entries_of groups)) start)
    ≡ map (λ line. with_entries line (entries_of (groups ++ es ∷ []))) start
lines_more [] groups es = refl
lines_more (line ∷ start) groups es =
    let all : entries_of (groups ++ es ∷ []) ≡ entries_of groups ++ es =
    flat_map-append (λ (g : List Entry). g) groups (es ∷ []) ∙ ap (λ (l : List Entry). entries_of groups ++ l) (append-nil es) in
    let first : with_entries (with_entries line (entries_of groups)) es ≡ with_entries line (entries_of (groups ++ es ∷ [])) =
    sym (with_entries-append line (entries_of groups) es) ∙ ap (with_entries line) (sym all) in
    ap (λ (l : PastLine). l ∷ map (λ line. with_entries line es) (map (λ line. with_entries line (entries_of groups)) start)) first
    ∙ ap (λ (ls : List PastLine). with_entries line (entries_of (groups ++ es ∷ [])) ∷ ls) (lines_more start groups es)

-- one more entry
pub one_more : (line now : PastLine) (es : List Entry) (i : ℕ) (e : Entry) → i < length es → e ≡ get_or es i e → now ≡ with_entries line (take i es)
    → with_entry now e ≡ with_entries line (take (i + 1) es)
one_more line now es i e within is so_far =
    let more : take (i + 1) es ≡ take i es ++ e ∷ [] = take_more es i e within ∙ ap (λ (x : Entry). take i es ++ x ∷ []) (sym is) in
    ap (λ (l : PastLine). with_entry l e) so_far
    ∙ sym (with_entries-one (with_entries line (take i es)) e)
    ∙ sym (with_entries-append line (take i es) (e ∷ []))
    ∙ ap (with_entries line) (sym more)
