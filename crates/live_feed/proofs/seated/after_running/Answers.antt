use Rattle.std.proofs.Common.{◌≡◌, List, map, subst, sym}
use Rattle.line_ledger.specs.Seats.{SeatState}
use Rattle.participant_lines.specs.declared.line_end.TalliedEnd.{TalliedEnd}
use Rattle.live_feed.specs.Accounts.{AreAccounts, told_account, told_end}
use Rattle.live_feed.proofs.Accounts.{are_accounts}
use Rattle.live_feed.proofs.seated.after_running.Goals as goal

-- each account tells the numbers of its line's seat
pub invariant_of-result : goal.invariant_of-result
invariant_of-result g c =
    let End : Type 0 = TalliedEnd g.row.D.Denot in
    let accounts = c.accounts_of-accounts.result.items in
    let told = subst (λ (es : List End). map (λ a. told_account a) accounts ≡ map (λ (e : End). told_end e.seat e.tally e.ended) es)
    c.deref-2.ensures.value c.accounts_of-accounts.ensures in
    record {
      counted =
          subst (λ (seats : List SeatState). AreAccounts seats accounts) (sym c.seats_of_tallied.ensures.seats)
          (are_accounts (λ (e : End). e.seat) (λ (e : End). e.tally) (λ (e : End). e.ended) accounts c.args.ends.items told);
    }
