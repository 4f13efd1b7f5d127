-- The entries that a source returns, by its list, and the packets cut from it.
use Rattle.std.proofs.Common.{◌≡◌, ℕ, ◌+◌, ◌-◌, ◌<◌, ◌≤◌, List, [], ◌∷◌, ◌++◌, length, length-drop, length-take}
use Rattle.std.proofs.Common.{get_or, take, drop, Some, min, sym, ap, subst, ◌∙◌, arith, inl, inr}
use Rattle.std.specs.Prelude.{All, slice_get}
use Rattle.std.proofs.lemmas.Bool.{cases_lt}
use Rattle.std.proofs.lemmas.List.{get_or-drop, get_or-take, take_all, take_more}
use Rattle.std.proofs.lemmas.List.Elements.{All-take}
use Rattle.std.proofs.lemmas.Option.{get_or_from_slice_get, slice_get-get_or, slice_get_within}
use Rattle.tape_core.specs.declared.entry.Entry.{Entry}
use Rattle.tape_frames.specs.declared.version.Version.{Version}
use Rattle.tape_frames.specs.PacketEntries.{Carries, HasNoLaterPlaces, IsNumberedFrom}
use Rattle.tape_frames.specs.Sources.{IsPublished, cut_of, sendable}
use Rattle.tape_frames.specs.Versions.{entries_most, number_most}
use Rattle.tape_frames.specs.Lemmas.Numbers.{IsNumberedFrom-take, number_at_place}

-- the first entries of what is published are published too
pub IsPublished-take : (len : ℕ) (es : List Entry) → IsPublished es → IsPublished (take len es)
IsPublished-take len es published = record {
  numbered = IsNumberedFrom-take len 1 es published.numbered;
  carries = All-take Carries len es published.carries;
  places = All-take HasNoLaterPlaces len es published.places;
}

-- the entry that is found under a number has it
pub listed_number : (es : List Entry) (n : ℕ) (e : Entry) → IsNumberedFrom 1 es → 1 ≤ n → slice_get es (n - 1) ≡ Some e → e.number ≡ n
listed_number es n e numbered some got = number_at_place 1 es (n - 1) e numbered got ∙ omega (arith, some)

-- and carries what its kind does
pub listed_carries : (es : List Entry) (k : ℕ) (e : Entry) → All Carries es → slice_get es k ≡ Some e → Carries e
listed_carries es k e all got = subst Carries (get_or_from_slice_get es k e e got) (all k e (slice_get_within es k e got))

-- and names no place after its own
pub listed_places : (es : List Entry) (k : ℕ) (e : Entry) → All HasNoLaterPlaces es → slice_get es k ≡ Some e → HasNoLaterPlaces e
listed_places es k e all got = subst HasNoLaterPlaces (get_or_from_slice_get es k e e got) (all k e (slice_get_within es k e got))

-- the last entry has the number of all
pub last_number : (es : List Entry) (e : Entry) → IsNumberedFrom 1 es → slice_get es (length es - 1) ≡ Some e → e.number ≡ length es
last_number es e numbered got =
    let within : length es - 1 < length es = slice_get_within es (length es - 1) e got in
    listed_number es (length es) e numbered (omega (arith, within)) got

-- one more entry is cut
pub cut_more : (es : List Entry) (from place : ℕ) (e : Entry) → 1 ≤ from → slice_get es ((from + place) - 1) ≡ Some e
    → take (place + 1) (drop (from - 1) es) ≡ take place (drop (from - 1) es) ++ e ∷ []
cut_more es from place e some got =
    let k = (from + place) - 1 in
    let within : k < length es = slice_get_within es k e got in
    let index : (from - 1) + place ≡ k = omega (arith, some) in
    let short : place < length (drop (from - 1) es) = omega (arith, length-drop (from - 1) es, within, some) in
    let is : get_or (drop (from - 1) es) place e ≡ e =
    get_or-drop (from - 1) es place e ∙ ap (λ (i : ℕ). get_or es i e) index ∙ get_or_from_slice_get es k e e got in
    take_more (drop (from - 1) es) place e short ∙ ap (λ (x : Entry). take place (drop (from - 1) es) ++ x ∷ []) is

-- the first entry is cut
pub cut_first : (es : List Entry) (from : ℕ) (e : Entry) → 1 ≤ from → slice_get es (from - 1) ≡ Some e → e ∷ [] ≡ take 1 (drop (from - 1) es)
cut_first es from e some got =
    let same : (from + 0) - 1 ≡ from - 1 = omega arith in
    sym (cut_more es from 0 e some (ap (λ (i : ℕ). slice_get es i) same ∙ got))

-- an entry whose number a version can state is found among those that it can send
pub sendable_get : (version : Version) (es : List Entry) (k : ℕ) (e : Entry) → k < number_most version → slice_get es k ≡ Some e
    → slice_get (sendable version es) k ≡ Some e
sendable_get version es k e low got =
    let most = number_most version in
    let within : k < length es = slice_get_within es k e got in
    let short : k < length (take most es) = omega (arith, length-take most es, low, within) in
    let is : get_or (take most es) k e ≡ e = get_or-take most es k e low ∙ get_or_from_slice_get es k e e got in
    slice_get-get_or (take most es) k e short ∙ ap Some is

-- the entries from a number on, as many as a packet has or all that are left, are what is cut there
pub cut_all : (version : Version) (es : List Entry) (from last count : ℕ) → 1 ≤ from → from ≤ last → last ≡ min (length es) (number_most version)
    → count ≡ min ((last - from) + 1) (entries_most version) → take count (drop (from - 1) (sendable version es)) ≡ cut_of version es from
cut_all version es from last count some within is many =
    let list = sendable version es in
    let size : length list ≡ last = omega (arith, length-take (number_most version) es, is) in
    elim (cases_lt ((last - from) + 1) (entries_most version)) [
      | inl few ↦
          let long : length (drop (from - 1) list) ≤ count = omega (arith, length-drop (from - 1) list, size, many, few, some, within) in
          let short : length (drop (from - 1) list) ≤ entries_most version = omega (arith, length-drop (from - 1) list, size, few, some, within) in
          take_all count (drop (from - 1) list) long ∙ sym (take_all (entries_most version) (drop (from - 1) list) short)
      | inr full ↦ let all : count ≡ entries_most version = omega (arith, many, full) in ap (λ (n : ℕ). take n (drop (from - 1) list)) all
    ]
