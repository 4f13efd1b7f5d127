-- A text in a row of bytes, with zeros behind it.
use Rattle.std.specs.Prelude.{◌≡◌, ◌≤◌, ◌-◌, ◌++◌, ℕ, List, length, take, replicate}
use Rattle.std.proofs.Common.{◌∙◌, sym, ap, length-take-le}

-- the row is that of the text in it, and so is how many of its bytes the text takes
pub row-back : {R : Type 0} (made : List ℕ → ℕ → R) (bytes : List ℕ) (used : ℕ) → used ≤ length bytes → bytes ≡ take used bytes ++ replicate (41 - used) 0
    → made (take used bytes ++ replicate (41 - length (take used bytes)) 0) (length (take used bytes)) ≡ made bytes used
row-back made bytes used within padded =
    ap (λ (n : ℕ). made (take used bytes ++ replicate (41 - n) 0) n) (length-take-le used bytes within) ∙ ap (λ (row : List ℕ). made row used) (sym padded)
