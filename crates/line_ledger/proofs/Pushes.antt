-- Lists of tokens and of what was seen: with one more element, and their fronts.
use Rattle.std.proofs.Common.{◌≡◌, ℕ, suc, subst, ◌+◌, ◌<◌, List, [], ◌∷◌, ◌++◌, length, length-append, min, take, slice_index_or, sym, ap, ◌∙◌, ◌⊎◌, inl, inr, arith, ◌≤◌}
use Rattle.std.proofs.Math.Nat.{eq-or-lt_of_le}
use Rattle.std.proofs.lemmas.Option.{slice_get_within}
use Rattle.std.proofs.lemmas.List.{append-nil, append_assoc, get_or_append_left, get_or_push, get_or-take, length-take, length-map, map-append, take-map}
use Rattle.tape_core.specs.declared.entry.Entry.{Entry}
use Rattle.tape_frames.specs.PacketEntries.{Carries, HasNoLaterPlaces}
use Rattle.tape_frames.specs.Sources.{BeginsWith, IsPublished}
use Rattle.tape_frames.specs.Lemmas.GrowingRows.{IsNumberedFrom-push}
use Rattle.tape_frames.specs.Lemmas.Sources.{IsPublished-take}
use Rattle.seen_cells.specs.declared.Seen.{Seen}
use Rattle.line_ledger.specs.Cells.{TokenState, IsTokenOf, Each, TokenAt, NextTokens, FirstTokens, shown, SeenAt, FirstSeen, NextSeen}
use Rattle.line_ledger.specs.Publishing.{GoesOn}

-- what holds of each element and of one more holds at a place of the longer list
each_at : {X : Type 0} (P : ℕ → X → Type 0) (xs : List X) (x : X) → Each P xs → P (length xs) x → (i : ℕ) (d : X)
    → (i ≡ length xs) ⊎ (i < length xs) → P i (slice_index_or (xs ++ x ∷ []) i d)
each_at P xs x each last i d (inl e) = rw (get_or_push xs x d i (sym e), e) last
each_at P xs x each last i d (inr below) = rw (get_or_append_left xs (x ∷ []) d i below) (each i d below)

-- what holds of each element and of one more holds of each of the longer list
each_push : {X : Type 0} (P : ℕ → X → Type 0) (xs : List X) (x : X) → Each P xs → P (length xs) x → Each P (xs ++ x ∷ [])
each_push P xs x each last i d within = each_at P xs x each last i d (eq-or-lt_of_le (omega (arith, length-append xs (x ∷ []), within)))

-- what holds of each element holds of each of the front
each_take : {X : Type 0} (P : ℕ → X → Type 0) (xs : List X) (n : ℕ) → Each P xs → Each P (take n xs)
each_take P xs n each i d within =
    let short : length (take n xs) ≡ min n (length xs) = length-take n xs in
    let low : i < n = omega (arith, short, within) in
    let inside : i < length xs = omega (arith, short, within) in
    rw (get_or-take n xs i d low) (each i d inside)

-- no tokens are tokens of any cells
pub next_none : (names : List ℕ) (entries : List Entry) (set : ℕ) (ts : List TokenState) → ts ≡ [] → NextTokens names entries set ts
next_none names entries set ts none = λ i d within. absurd (omega (arith, within, ap length none))

-- one more cell was set
pub next_push : (names : List ℕ) (entries : List Entry) (set : ℕ) (ts ts' : List TokenState) (t : TokenState) → NextTokens names entries set ts
    → TokenAt names entries (set + length ts + 1) t → ts' ≡ ts ++ t ∷ [] → NextTokens names entries set ts'
next_push names entries set ts ts' t each at pushed = rw pushed (each_push (λ i t. TokenAt names entries (set + i + 1) t) ts t each at)

-- one more cell was set, as was seen in it
pub next_seen_push : (names : List ℕ) (entries : List Entry) (set : ℕ) (seen seen' : List (Seen Entry)) (s : Seen Entry) → NextSeen names entries set seen
    → SeenAt names entries (set + length seen) s → seen' ≡ seen ++ s ∷ [] → NextSeen names entries set seen'
next_seen_push names entries set seen seen' s each at pushed = rw pushed (each_push (λ i s. SeenAt names entries (set + i) s) seen s each at)

-- the first of the cells that were seen, and the others after it
pub next_seen_first : (names : List ℕ) (entries : List Entry) (set : ℕ) (s : Seen Entry) (rest : List (Seen Entry)) → NextSeen names entries set (s ∷ rest)
    → SeenAt names entries set s × NextSeen names entries (set + 1) rest
next_seen_first names entries set s rest each =
    let first : set + 0 ≡ set = omega arith in (
      subst (λ (n : ℕ). SeenAt names entries n s) first (each 0 s (omega arith)),
      (λ i d within.
          let after : set + suc i ≡ set + 1 + i = omega arith in
          subst (λ (n : ℕ). SeenAt names entries n (slice_index_or rest i d)) after (each (suc i) d (omega (arith, within)))),
    )

-- no more cells were set than there are
pub seen_within : (names : List ℕ) (entries : List Entry) (set : ℕ) (seen : List (Seen Entry)) → NextSeen names entries set seen → length seen ≤ length names
seen_within names entries set [] each = omega arith
seen_within names entries set (s ∷ ss) each =
    let last : SeenAt names entries (set + length ss) (slice_index_or (s ∷ ss) (length ss) s) = each (length ss) s (omega arith) in
    let within : set + length ss < length names = slice_get_within names (set + length ss) (slice_index_or (s ∷ ss) (length ss) s).cell last.0 in
    omega (arith, within)

-- one more cell was seen to hold its entry
pub seen_push : (names : List ℕ) (entries : List Entry) (seen seen' : List (Seen Entry)) (s : Seen Entry) (at : ℕ) → FirstSeen names entries seen
    → length seen ≡ at → SeenAt names entries at s → seen' ≡ seen ++ s ∷ [] → FirstSeen names entries seen'
seen_push names entries seen seen' s at each len found pushed = rw pushed (each_push (λ i s. SeenAt names entries i s) seen s each (rw len found))

-- one more cell was found to hold an entry
pub first_push : (names : List ℕ) (ts ts' : List TokenState) (t : TokenState) → FirstTokens names ts → t.number ≡ length ts + 1
    → IsTokenOf names t → ts' ≡ ts ++ t ∷ [] → FirstTokens names ts'
first_push names ts ts' t each number of pushed = rw pushed (each_push (λ i t. IsTokenOf names t × (t.number ≡ i + 1)) ts t each (of, number))

-- the front of tokens of the first cells are tokens of the first cells
pub first_take : (names : List ℕ) (ts ts' : List TokenState) (n : ℕ) → FirstTokens names ts → ts' ≡ take n ts → FirstTokens names ts'
first_take names ts ts' n each cut = rw cut (each_take (λ i t. IsTokenOf names t × (t.number ≡ i + 1)) ts n each)

-- a source's list may go on with the entry of the next number that carries what its kind does and names no later place
list_push : (es : List Entry) (e : Entry) → IsPublished es → e.number ≡ length es + 1 → Carries e → HasNoLaterPlaces e → IsPublished (es ++ e ∷ [])
list_push es e list number carries places = record {
  numbered = IsNumberedFrom-push 1 es e list.numbered (omega (arith, number));
  carries = each_push (λ i x. Carries x) es e list.carries carries;
  places = each_push (λ i x. HasNoLaterPlaces x) es e list.places places;
}

-- what tokens show may go on in the same way
pub published_push : (ts ts' : List TokenState) (t : TokenState) → IsPublished (shown ts) → t.entry.number ≡ t.number → t.number ≡ length ts + 1
    → Carries t.entry → HasNoLaterPlaces t.entry → ts' ≡ ts ++ t ∷ [] → IsPublished (shown ts')
published_push ts ts' t list same number carries places pushed =
    rw (pushed, map-append (λ (t : TokenState). t.entry) ts (t ∷ []))
    (list_push (shown ts) t.entry list (omega (arith, same, number, length-map ts (λ (t : TokenState). t.entry))) carries places)

-- what the first of the tokens show is a source's list
pub published_take : (ts ts' : List TokenState) (n : ℕ) → IsPublished (shown ts) → ts' ≡ take n ts → IsPublished (shown ts')
published_take ts ts' n list cut =
    rw (cut, sym (take-map (λ (t : TokenState). t.entry) n ts))
    (IsPublished-take n (shown ts) list)

-- a list goes on where it ends
pub goes_on_none : (ts : List TokenState) → GoesOn ts ts
goes_on_none ts = ([], sym (append-nil ts))

-- a list that goes on from a second one, which goes on from a third, goes on from the third
pub goes_on_more : (ts ts' ts'' : List TokenState) → GoesOn ts ts' → GoesOn ts' ts'' → GoesOn ts ts''
goes_on_more ts ts' ts'' first then = (first.0 ++ then.0, then.1 ∙ ap (λ (xs : List TokenState). xs ++ then.0) first.1 ∙ append_assoc ts first.0 then.0)

-- a list with one more token at its end goes on
pub goes_on_push : (ts ts' : List TokenState) (t : TokenState) → ts' ≡ ts ++ t ∷ [] → GoesOn ts ts'
goes_on_push ts ts' t pushed = (t ∷ [], pushed)

-- what the tokens show goes on as they do
pub shown_goes_on : (ts ts' : List TokenState) → GoesOn ts ts' → BeginsWith (shown ts) (shown ts')
shown_goes_on ts ts' on = (shown on.0, ap shown on.1 ∙ map-append (λ (t : TokenState). t.entry) ts on.0)
