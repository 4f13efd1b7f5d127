use Rattle.std.proofs.Common.{◌≡◌, ◌<◌, ℕ, None, ap, ◌∙◌}
use Rattle.std.specs.Ordering.{nat_cmp}
use Rattle.std.specs.FinMap as map
use Rattle.symbol_book.specs.BookState.{BookState}
use Rattle.test_tables.proofs.tests.refused.books.Rising.new.Goals as goal

pub invariant_of-result : goal.invariant_of-result
invariant_of-result g c =
    let vacant : (p : ℕ) → 0 < p → map.get c.new.result.trades p ≡ None
    = λ p _. ap (λ (b : BookState). map.get b.trades p) c.new.ensures.empty ∙ map.get-empty nat_cmp p in
    (ap (λ (b : BookState). b.matrix) c.new.ensures.empty, vacant)
