-- The entries that a part of a tape has under its numbers.
use Rattle.std.proofs.Common.{◌≡◌, ℕ, suc, ◌+◌, ◌≤◌, List, [], ◌∷◌, ◌++◌, length, Some, ap, subst, ◌∙◌, arith, length-append}
use Rattle.std.specs.Prelude.{slice_get}
use Rattle.std.proofs.lemmas.Option.{none-some, slice_get_within}
use Rattle.tape_core.specs.declared.entry.Entry.{Entry}
use Rattle.tape_frames.specs.PacketEntries.{IsNumberedFrom, last_number}
use Rattle.arbitration.specs.Deliveries.{entry_numbered}
use Rattle.tape_frames.specs.Cuts.{IsPartOf}
use Rattle.tape_frames.specs.Lemmas.Numbers.{IsNumberedFrom-append, slice_get-append-add, slice_get-append-lt, number_at_place}
use Rattle.arbitration.specs.Lemmas.Numbers.{numbered_place}

-- an entry that a part has under a number is the tape's entry of that number
pub part_at : (tape es : List Entry) → IsNumberedFrom 1 tape → IsPartOf es tape → (m : ℕ) (e : Entry) → entry_numbered (1 + m) es ≡ Some e
    → slice_get tape m ≡ Some e
part_at tape es h part m e found =
    let numbers = subst (IsNumberedFrom 1) part.2 h in
    let of_rest = (IsNumberedFrom-append 1 part.0 (es ++ part.1) numbers).1 in
    let of_part = (IsNumberedFrom-append (1 + length part.0) es part.1 of_rest).0 in
    let place = numbered_place (1 + length part.0) es (1 + m) e of_part found in
    let p : m ≡ length part.0 + place.0 = omega arith in
    ap (λ t. slice_get t m) part.2 ∙ ap (slice_get (part.0 ++ (es ++ part.1))) p
    ∙ slice_get-append-add part.0 (es ++ part.1) place.0
    ∙ slice_get-append-lt es part.1 place.0 (slice_get_within es place.0 e place.2) ∙ place.2

-- an entry of a part is in the tape at the place of its number
pub part_stands : (tape es : List Entry) → IsNumberedFrom 1 tape → IsPartOf es tape → (k : ℕ) (e : Entry) → slice_get es k ≡ Some e
    → (m : ℕ) × (e.number ≡ suc m) × (slice_get tape m ≡ Some e)
part_stands tape es h part k e found =
    let before = part.0 in
    let numbers = subst (IsNumberedFrom 1) part.2 h in
    let of_rest = (IsNumberedFrom-append 1 before (es ++ part.1) numbers).1 in
    let of_part = (IsNumberedFrom-append (1 + length before) es part.1 of_rest).0 in (
      length before + k,
      number_at_place (1 + length before) es k e of_part found ∙ omega arith,
      ap (λ t. slice_get t (length before + k)) part.2 ∙ slice_get-append-add before (es ++ part.1) k
          ∙ slice_get-append-lt es part.1 k (slice_get_within es k e found) ∙ found,
    )

-- the last number of a part is the place of its end in the tape
pub part_last : (tape es : List Entry) → IsNumberedFrom 1 tape → IsPartOf es tape
    → (last_number es ≤ length tape) × ((k : ℕ) (e : Entry) → slice_get es k ≡ Some e → e.number ≤ last_number es)
part_last tape [] h part = (omega arith, λ k e found. absurd (none-some e found))
part_last tape (x ∷ es) h part =
    let before = part.0 in
    let numbers = subst (IsNumberedFrom 1) part.2 h in
    let of_rest = (IsNumberedFrom-append 1 before (x ∷ es ++ part.1) numbers).1 in
    let of_part = (IsNumberedFrom-append (1 + length before) (x ∷ es) part.1 of_rest).0 in
    let size : length tape ≡ length before + (suc (length es) + length part.1) = ap length part.2 ∙ length-append before (x ∷ es ++ part.1)
    ∙ ap (λ n. length before + n) (length-append (x ∷ es) part.1) in
    let first : x.number ≡ 1 + length before = of_part.0 in (
      omega arith,
      λ k e found.
          let place = number_at_place (1 + length before) (x ∷ es) k e of_part found in
          let within = slice_get_within (x ∷ es) k e found in omega arith,
    )
