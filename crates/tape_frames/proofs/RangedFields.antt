-- A number that is read in a range is in it.
use Rattle.std.proofs.Common.{◌≡◌, ℕ, ◌≤◌, List, Ok, ap, ◌∙◌, arith}
use Rattle.std.specs.Prelude.{◌&&◌, nat_le}
use Rattle.std.specs.Int.{Width}
use Rattle.std.proofs.lemmas.Bool.{and_parts, leb-true}
use Rattle.reports.specs.Fields.{number_at, ranged_at}
use Rattle.reports.specs.Lemmas.Fields.{bind_ok, chosen}

-- a number that is read in a range is in it
pub ranged_within : {F : Type 0} (short : F) (w : Width) (low high : ℕ) (fault : F) (bytes : List ℕ) (n : ℕ) (rest : List ℕ)
    → ranged_at short w low high fault bytes ≡ Ok (n, rest) → (low ≤ n) × (n ≤ high)
unfolding ranged_at
ranged_within short w low high fault bytes n rest e =
    let b = bind_ok (number_at short w bytes) _ (n, rest) e in
    let good = chosen (nat_le low b.0.0 && nat_le b.0.0 high) fault b.0 (n, rest) b.2 in
    let range = and_parts (nat_le low b.0.0) (nat_le b.0.0 high) good.0 in
    let is : b.0.0 ≡ n = ap (λ (x : ℕ × List ℕ). x.0) good.1 in
    (omega (arith, leb-true _ _ range.0, is), omega (arith, leb-true _ _ range.1, is))
