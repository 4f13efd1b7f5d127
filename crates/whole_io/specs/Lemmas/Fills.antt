-- A row that is filled from its front, by reads that may be interrupted or fail.
use Rattle.std.proofs.Common.{◌≡◌, ℕ, ◌+◌, ◌<◌, ◌≤◌, List, ◌++◌, Option, length, length-take-le, take, drop, ap, arith, ◌∙◌, le_refl, drop_at}
use Rattle.std.proofs.lemmas.List.{take-append-le}
use Rattle.std.proofs.lemmas.Slice.{take-put_mid_below}
use Rattle.std.proofs.Math.Seq.{take-add}
use Rattle.std.specs.Io.KnownBytes.{Consumes, Keeps}
use Rattle.whole_io.specs.FailedReads.{ReadsFewer}
use Rattle.std.proofs.KnownBytes.{Consumes-trans, Consumes-kept}
use borrow.Rule.Slice.PartMut.{put_mid, post_of}

-- a part written after the front of a row makes a longer front
pub put_front : (at k more : ℕ) (row part : List ℕ) → at ≤ length row → more ≤ length part
    → take (at + more) (put_mid at k row part) ≡ take at row ++ take more part
put_front at k more row part within fits =
    let after = post_of at k row in
    let front : take at (put_mid at k row part) ≡ take at row = take-put_mid_below at k row part at (le_refl _) within in
    let back : take more (part ++ after) ≡ take more part = take-append-le more part after fits in
    take-add at more (put_mid at k row part)
    ∙ ap (λ (l : List ℕ). l ++ take more (drop at (put_mid at k row part))) front
    ∙ ap (λ (l : List ℕ). take at row ++ take more l) (drop_at (take at row) (part ++ after) at (length-take-le at row within))
    ∙ ap (λ (l : List ℕ). take at row ++ l) back

-- a read after what was read
pub filled_more : (had left rest : Option (List ℕ)) (at k more now : ℕ) (row part : List ℕ) → at ≤ length row → more ≤ length part → now ≡ at + more
    → Consumes had left (take at row) → Consumes left rest (take more part) → Consumes had rest (take now (put_mid at k row part))
filled_more had left rest at k more now row part within fits is before read =
    rw (is, put_front at k more row part within fits) (Consumes-trans had left rest (take at row) (take more part) before read)

-- a read that was interrupted
pub filled_same : (had left rest : Option (List ℕ)) (at k now : ℕ) (row part : List ℕ) → at ≤ length row → now ≡ at
    → Consumes had left (take at row) → Keeps left rest → Consumes had rest (take now (put_mid at k row part))
filled_same had left rest at k now row part within is before kept =
    rw (is, take-put_mid_below at k row part at (le_refl _) within) (Consumes-kept had left rest (take at row) before kept)

-- a read that failed before the row was full
pub failed_read : (had left rest : Option (List ℕ)) (at k : ℕ) (row part : List ℕ) → at < length row → Consumes had left (take at row)
    → Keeps left rest → length (put_mid at k row part) ≡ length row
    → ReadsFewer had rest (length (put_mid at k row part))
failed_read had left rest at k row part within before kept size =
    (take at row, Consumes-kept had left rest (take at row) before kept, omega (arith, length-take-le at row (omega (arith, within)), within, size))
