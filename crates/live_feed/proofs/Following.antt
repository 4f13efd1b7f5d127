-- Entries that follow others.
use Rattle.std.proofs.Common.{◌≡◌, ◌+◌, ◌-◌, ◌<◌, ◌≤◌, ◌++◌, ◌∷◌, ◌∙◌, [], ℕ, zero, suc, List, ap, arith, drop, drop_at, get_or, get_or-drop, get_or-take, length, length-append, length-drop, length-take, min, refl, subst, sym, take, take_all}
use Rattle.std.specs.Prelude.{slice_get, Some, ◌==◌, false}
use Rattle.std.proofs.lemmas.Bool.{ne_eqb}
use Rattle.std.proofs.lemmas.Option.{get_or_from_slice_get, slice_get_within}
use Rattle.std.proofs.lemmas.List.{same_lists}
use Rattle.std.proofs.lemmas.List.Elements.{All-append, All-drop, All-take}
use Rattle.day_journal.specs.Groups.{pending}
use Rattle.tape_core.specs.declared.entry.Entry.{Entry}
use Rattle.tape_frames.specs.PacketEntries.{Carries, HasNoLaterPlaces, IsNumberedFrom}
use Rattle.tape_frames.specs.Lemmas.Numbers.{IsNumberedFrom-take, number_at_place, slice_get-append-add, slice_get-append-lt}
use Rattle.tape_frames.specs.Sources.{IsPublished, entry_of}
use Rattle.tape_types.specs.Ranges.{TAPE_MOST}
use Rattle.live_feed.specs.Journals.{CanFollow}

-- lists of which the second goes on where the first ends
numbered_on : (first : ℕ) (xs ys : List Entry) → IsNumberedFrom first xs → IsNumberedFrom (first + length xs) ys → IsNumberedFrom first (xs ++ ys)
numbered_on first [] ys one other = let p : first + 0 ≡ first = omega arith in subst (λ n. IsNumberedFrom n ys) p other
numbered_on first (x ∷ xs) ys one other =
    let p : first + suc (length xs) ≡ (first + 1) + length xs = omega arith in
    (one.0, numbered_on (first + 1) xs ys one.1 (subst (λ n. IsNumberedFrom n ys) p other))

-- the end of a numbered list is numbered
numbered_drop : (n first : ℕ) (es : List Entry) → IsNumberedFrom first es → IsNumberedFrom (first + n) (drop n es)
numbered_drop zero first es numbered = let p : first ≡ first + 0 = omega arith in subst (λ k. IsNumberedFrom k es) p numbered
numbered_drop (suc n) first [] numbered = tt
numbered_drop (suc n) first (e ∷ es) numbered =
    let p : (first + 1) + n ≡ first + suc n = omega arith in
    subst (λ k. IsNumberedFrom k (drop n es)) p (numbered_drop n (first + 1) es numbered.1)

-- what is published and entries that can follow it are as published
pub published_on : (es next : List Entry) (held : ℕ) → IsPublished es → held ≡ length es → CanFollow held next → IsPublished (es ++ next)
published_on es next held is many follow =
    let first : held + 1 ≡ 1 + length es = omega (arith, many) in
    record {
      numbered = numbered_on 1 es next is.numbered (subst (λ n. IsNumberedFrom n next) first follow.numbered);
      carries = All-append Carries es next is.carries follow.carries;
      places = All-append HasNoLaterPlaces es next is.places follow.places;
    }

-- a journal of what is published does not have those that follow
pub pending_next : (es next : List Entry) (held : ℕ) → held ≡ length es → held + length next ≤ TAPE_MOST → pending held (es ++ next) ≡ next
pending_next es next held many within =
    let short : length (es ++ next) ≤ TAPE_MOST = omega (arith, length-append {A = Entry} es next, many, within) in
    ap (λ (l : List Entry). drop held l) (take_all TAPE_MOST (es ++ next) short) ∙ drop_at es next held (sym many)

-- the next entries of a tape can follow those before
pub next_follow : (most held : ℕ) (es : List Entry) → IsPublished es → held ≤ TAPE_MOST → length es ≤ TAPE_MOST
    → CanFollow held (take most (drop held es))
next_follow most held es is within few = record {
  within = omega (arith, length-take {A = Entry} most (drop held es), length-drop {A = Entry} held es, within, few);
  numbered = IsNumberedFrom-take most (held + 1) (drop held es)
      (let p : 1 + held ≡ held + 1 = omega arith in subst (λ k. IsNumberedFrom k (drop held es)) p (numbered_drop held 1 es is.numbered));
  carries = All-take Carries most (drop held es) (All-drop Carries held es is.carries);
  places = All-take HasNoLaterPlaces most (drop held es) (All-drop HasNoLaterPlaces held es is.places);
}

-- the last entry that follows has the number of all
pub last_follows : (es next : List Entry) (e : Entry) → IsNumberedFrom 1 (es ++ next) → slice_get next (length next - 1) ≡ Some e
    → e.number ≡ length (es ++ next)
last_follows es next e numbered got =
    let within : length next - 1 < length next = slice_get_within next (length next - 1) e got in
    let there : slice_get (es ++ next) (length es + (length next - 1)) ≡ Some e = slice_get-append-add es next (length next - 1) ∙ got in
    number_at_place 1 (es ++ next) (length es + (length next - 1)) e numbered there ∙ omega (arith, length-append {A = Entry} es next, within)

-- the entry of a number that is not 0
entry_of_some : (es : List Entry) (number : ℕ) → 1 ≤ number → entry_of es number ≡ slice_get es (number - 1)
entry_of_some es number some =
    let other : (number == 0) ≡ false = ne_eqb number 0 (λ is. omega (arith, is, some)) in
    rw other refl

-- an entry that is published is found among all
pub entry_front : (es next : List Entry) (number : ℕ) → number ≤ length es → entry_of (es ++ next) number ≡ entry_of es number
entry_front es next zero within = refl
entry_front es next (suc k) within =
    let place : suc k - 1 ≡ k = omega arith in
    let less : k < length es = omega (arith, within) in
    entry_of_some (es ++ next) (suc k) (omega arith) ∙ ap (slice_get (es ++ next)) place ∙ slice_get-append-lt es next k less
    ∙ sym (ap (slice_get es) place) ∙ sym (entry_of_some es (suc k) (omega arith))

-- and one that follows
pub entry_behind : (es next : List Entry) (number : ℕ) → length es < number → entry_of (es ++ next) number ≡ slice_get next (number - length es - 1)
entry_behind es next number behind =
    let place : number - 1 ≡ length es + (number - length es - 1) = omega (arith, behind) in
    entry_of_some (es ++ next) number (omega (arith, behind)) ∙ ap (slice_get (es ++ next)) place
    ∙ slice_get-append-add es next (number - length es - 1)

-- an entry that is found under a number stands at its place
pub found_at : (es : List Entry) (before at : ℕ) (e d : Entry) → entry_of es (before + 1 + at) ≡ Some e → get_or es (before + at) d ≡ e
found_at es before at e d found =
    let number = before + 1 + at in
    let place : number - 1 ≡ before + at = omega arith in
    get_or_from_slice_get es (before + at) e d
    (ap (slice_get es) (sym place) ∙ sym (entry_of_some es number (omega arith)) ∙ found)

-- the next entries, as a slice of a slice
pub next_taken : (es : List Entry) (held from most n : ℕ) → from ≡ min (length es) held → n ≡ min (length es - from) most
    → take n (take (length es - from) (drop from es)) ≡ take most (drop held es)
next_taken es held from most n first many =
    let left = drop from es in
    let all = take (length es - from) left in
    same_lists (take n all) (take most (drop held es))
    (omega (
      arith,
      length-take {A = Entry} n all,
      length-take {A = Entry} (length es - from) left,
      length-drop {A = Entry} from es,
      length-take {A = Entry} most (drop held es),
      length-drop {A = Entry} held es,
      first,
      many,
    ))
    (λ k d less.
    let short : k < n = omega (arith, length-take {A = Entry} n all, less) in
    let same : from ≡ held = omega (arith, first, many, short) in
    get_or-take n all k d short ∙ get_or-take (length es - from) left k d (omega (arith, many, short)) ∙ get_or-drop from es k d
    ∙ ap (λ f. get_or es (f + k) d) same ∙ sym (get_or-take most (drop held es) k d (omega (arith, many, short)) ∙ get_or-drop held es k d))

-- the same if it was gathered from a queue
pub pending_gathered : (es queue next list : List Entry) (held own : ℕ) → own ≡ held → next ≡ queue → list ≡ es ++ next → held ≡ length es
    → held + length queue ≤ TAPE_MOST → pending own list ≡ queue
pending_gathered es queue next list held own same gathered behind many within =
    ap (λ n. pending n list) same ∙ ap (pending held) (behind ∙ ap (λ (q : List Entry). es ++ q) gathered) ∙ pending_next es queue held many within
