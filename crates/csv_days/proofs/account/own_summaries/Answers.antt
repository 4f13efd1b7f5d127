use Rattle.std.proofs.Common.{◌∷◌, ◌∙◌, [], ap, arith, length, length-append, sym, unwrap_or}
use Rattle.csv_days.specs.Accounts.{own_at}
use Rattle.csv_days.proofs.AccountLemmas.{own-more}
use Rattle.csv_days.proofs.account.own_summaries.Goals as goal

pub loop-place-preserved : goal.loop-place-preserved
loop-place-preserved c = record {
  count = omega (arith, ap length c.in_ok-push.ensures.items, length-append c.loop-place.own.items (c.unwrap_or-summary.result ∷ []), c.loop-place.invariant.count);
  each = own-more c.args.tape.now c.loop-place.own.items _ c.unwrap_or-summary.result c.in_ok-push.ensures.items
      (c.unwrap_or-summary.ensures ∙ (λ i. unwrap_or (c.own_at.ensures i) (c.empty.ensures.empty i)) ∙ ap (own_at c.args.tape.now) (sym c.loop-place.invariant.count))
      c.loop-place.invariant.each;
}
