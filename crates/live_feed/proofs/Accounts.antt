-- The accounts of lines that have run.
use Rattle.std.proofs.Common.{◌≡◌, ◌∷◌, [], ℕ, zero, suc, List, ap, arith, map}
use Rattle.line_ledger.specs.Seats.{SeatState}
use Rattle.participant_lines.specs.declared.line_end.LineOutcome.{LineOutcome}
use Rattle.participant_lines.specs.declared.tally.Tally.{Tally}
use Rattle.live_feed.specs.Accounts.{AreAccounts, numbers_of, seat_numbers, told_account, told_end}
use Rattle.live_feed.specs.declared.account.LineAccount.{LineAccount}
use Rattle.live_feed.specs.declared.line_counts.MessageCounts.{MessageCounts}

-- the numbers of one account
numbers_same : (a : LineAccount) (seat : SeatState) (tally : Tally) (ended : LineOutcome) → told_account a ≡ told_end seat tally ended
    → numbers_of a ≡ seat_numbers seat
numbers_same a seat tally ended is =
    ap (λ (t : ℕ × MessageCounts × LineOutcome). t.0 ∷ t.1.admitted ∷ t.1.last ∷ []) is

-- the accounts of all ends are those of their seats
pub are_accounts : {E : Type 0} (seat : E → SeatState) (tally : E → Tally) (ended : E → LineOutcome) (accounts : List LineAccount) (ends : List E)
    → map (λ a. told_account a) accounts ≡ map (λ e. told_end (seat e) (tally e) (ended e)) ends → AreAccounts (map seat ends) accounts
are_accounts seat tally ended [] ends is i s a within = absurd (omega (arith, within))
are_accounts seat tally ended (x ∷ accounts) [] is i s a within = absurd cc
are_accounts seat tally ended (x ∷ accounts) (e ∷ ends) is zero s a within =
    let same : told_account x ≡ told_end (seat e) (tally e) (ended e) = cc in numbers_same x (seat e) (tally e) (ended e) same
are_accounts {E} seat tally ended (x ∷ accounts) (e ∷ ends) is (suc i) s a within =
    let rest : map (λ a. told_account a) accounts ≡ map (λ (e : E). told_end (seat e) (tally e) (ended e)) ends = cc in
    are_accounts seat tally ended accounts ends rest i s a (omega (arith, within))
