use Rattle.std.proofs.Common.{◌≡◌, IsSome, ap, subst, sym, ◌∙◌}
use Rattle.std.specs.Ordering.{nat_cmp}
use Rattle.std.specs.FinMap as map
use Rattle.symbol_book.specs.BookState.{BookState}
use Rattle.test_tables.proofs.Kept.{has-put, other-kept, has-replaced}
use Rattle.test_tables.proofs.tests.rows.books.changed.Goals as goal

-- equal books have the same trades
trades-same : {a b : BookState} → a ≡ b → a.trades ≡ b.trades
trades-same is = ap (λ (b : BookState). b.trades) is

pub add-requires-clause-vacant : goal.add-requires-clause-vacant
add-requires-clause-vacant g c =
    ap (λ (b : BookState). map.get b.trades c.args.first) c.new-book.ensures.empty ∙ map.get-empty nat_cmp c.args.first

pub add-requires-2-clause-vacant : goal.add-requires-2-clause-vacant
add-requires-2-clause-vacant g c =
    other-kept _ _ c.args.first c.args.second _ (trades-same c.in_ok-add.ensures.ok) c.requires.apart
    ∙ ap (λ (b : BookState). map.get b.trades c.args.second) c.new-book.ensures.empty ∙ map.get-empty nat_cmp c.args.second

pub replace-requires-clause-present : goal.replace-requires-clause-present
replace-requires-clause-present g c =
    subst (λ o. IsSome o)
    (sym (other-kept _ _ c.args.second c.args.first _ (trades-same c.in_ok-add-2.ensures.ok) (λ same. c.requires.apart (sym same))))
    (has-put _ _ c.args.first _ (trades-same c.in_ok-add.ensures.ok))

pub remove-requires : goal.remove-requires
remove-requires g c = record {
  present = has-replaced _ _ _ c.args.first _ (trades-same c.in_ok-replace.ensures.ok)
      (subst (λ o. IsSome o)
      (sym (other-kept _ _ c.args.second c.args.first _ (trades-same c.in_ok-add-2.ensures.ok) (λ same. c.requires.apart (sym same))))
      (has-put _ _ c.args.first _ (trades-same c.in_ok-add.ensures.ok)));
}
