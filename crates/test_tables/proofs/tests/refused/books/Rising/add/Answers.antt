use Rattle.std.proofs.Common.{◌≡◌, ◌<◌, ℕ, None, ap, subst, ◌∙◌, rules}
use Rattle.std.specs.FinMap as map
use Rattle.symbol_book.specs.BookState.{BookState}
use Rattle.test_tables.proofs.Kept.{has-put, vacant-above}
use Rattle.test_tables.proofs.tests.refused.books.Rising.add.Goals as goal

-- equal books have the same trades
trades_same : {a b : BookState} → a ≡ b → a.trades ≡ b.trades
trades_same is = ap (λ (b : BookState). b.trades) is

pub invariant_of-self-2 : goal.invariant_of-self-2
invariant_of-self-2 g c =
    let above : c.self.inside.last < c.args.place = search rules in
    let vacant : (p : ℕ) → c.value-at.result < p → map.get c.add.new.self.trades p ≡ None
    = λ p over. vacant-above _ _ c.self.inside.last c.args.place _ (trades_same c.in-Ok.ensures.ok) above c.self.invariant.1 p
    (subst (λ k. k < p) c.value-at.ensures.value over) in
    (ap (λ (b : BookState). b.matrix) c.in-Ok.ensures.ok ∙ c.self.invariant.0, vacant)

pub returns : goal.returns
returns g c = record { added = λ _. has-put _ _ c.args.place _ (trades_same c.in-Ok.ensures.ok) }
