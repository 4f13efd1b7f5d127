-- What a cursor knows after one more entry.
use Rattle.std.proofs.Common.{◌≡◌, ◌+◌, ◌≤◌, ◌<◌, ℕ, Bool, true, false, true≢false, List, [], ◌∷◌, ◌++◌, length, take, length-append, slice_get, Some}
use Rattle.std.proofs.Common.{ap, ◌∙◌, sym, arith}
use Rattle.std.proofs.lemmas.List.{take-append-le}
use Rattle.std.proofs.lemmas.Option.{slice_get_within}
use Rattle.std.proofs.Math.ListN.{length-take}
use Rattle.std.proofs.Math.Seq.{take-append_seam}
use Rattle.tape_frames.specs.Lemmas.Numbers.{slice_get-append-lt, slice_get-append-add}
use Rattle.line_ledger.specs.declared.told.Told.{Told}
use Rattle.line_ledger.specs.Ends.{DiffersFirst}
use Rattle.line_ledger.specs.Cursors.{Compared}
use Rattle.line_ledger.proofs.Differences.{told_more}

-- lists that differ still differ with more entries
pub on : (told entries more : List Told) (at : ℕ) → DiffersFirst told entries at → at < length entries → DiffersFirst told (entries ++ more) at
on told entries more at differs inside = record {
  before = differs.before ∙ sym (take-append-le at entries more (omega (arith, inside)));
  here = λ same. differs.here (same ∙ slice_get-append-lt entries more at inside);
}

-- the next entry was told
pub told_next : (told entries : List Told) (at : ℕ) (t : Told) → entries ≡ take at told → slice_get told at ≡ Some t
    → entries ++ t ∷ [] ≡ take (at + 1) told
told_next told entries at t is here = ap (λ xs. xs ++ t ∷ []) is ∙ sym (told_more told at t here)

-- the next entry was told otherwise
pub differs_next : (told entries : List Told) (at : ℕ) (t : Told) → entries ≡ take at told → at ≤ length told → (slice_get told at ≡ Some t → ⊥)
    → DiffersFirst told (entries ++ t ∷ []) at
differs_next told entries at t is most other =
    let long : length entries ≡ at = omega (arith, ap length is, length-take at told) in
    let there : slice_get (entries ++ t ∷ []) at ≡ Some t =
    ap (slice_get (entries ++ t ∷ [])) (omega (arith, long)) ∙ slice_get-append-add entries (t ∷ []) 0 in
    record {
      before = sym (ap (λ n. take n (entries ++ t ∷ [])) (sym long) ∙ take-append_seam entries (t ∷ []) ∙ is);
      here = λ same. other (same ∙ there);
    }

-- a cursor that stands where the lists first differ stays there
pub passed_on : (told entries more : List Told) (at : ℕ) (differs : Bool) → Compared told entries at differs → differs ≡ true
    → Compared told (entries ++ more) at differs
passed_on told entries more at differs so_far is =
    let found = so_far.first is in
    record {
      same = λ not. absurd (true≢false (sym is ∙ not));
      first = λ _. (on told entries more at found.0 found.1, omega (arith, found.1, length-append entries more));
    }

-- a cursor passes an entry that was told
pub passed_told : (told entries : List Told) (t : Told) (at : ℕ) (differs : Bool) → Compared told entries at differs → differs ≡ false
    → slice_get told at ≡ Some t → Compared told (entries ++ t ∷ []) (at + 1) differs
passed_told told entries t at differs so_far is here =
    let found = so_far.same is in
    record {
      same = λ _. (told_next told entries at t found.0 here, omega (arith, slice_get_within told at t here));
      first = λ yes. absurd (true≢false (sym yes ∙ is));
    }

-- a cursor stays at the first entry that was told otherwise
pub passed_first : (told entries : List Told) (t : Told) (at : ℕ) (differs : Bool) → Compared told entries at differs → differs ≡ false
    → (slice_get told at ≡ Some t → ⊥) → Compared told (entries ++ t ∷ []) at true
passed_first told entries t at differs so_far is other =
    let found = so_far.same is in
    let long : length entries ≡ at = omega (arith, ap length found.0, length-take at told, found.1) in
    record {
      same = λ not. absurd (true≢false not);
      first = λ _. (differs_next told entries at t found.0 found.1 other, omega (arith, long, length-append entries (t ∷ [])));
    }
