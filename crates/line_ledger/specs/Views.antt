-- What a seat's holder is shown of the tape.
use Rattle.std.specs.Prelude.{◌≡◌, ℕ, true, not, if◌then◌else◌, List, length, Option, Some, None}
use Rattle.scratch_fold.specs.declared.summary.Summary.{Summary}
use Rattle.tape_core.specs.Tape.{TapeState, summary_at, lists_symbol}
use Rattle.line_ledger.specs.declared.view_fault.ViewFault.{ViewFault}
use Rattle.line_ledger.specs.declared.view_fault.ViewFault.TheVariants.{UnknownSymbol, Behind}
use Rattle.line_ledger.specs.Days.{Terms, IsDay}
use Rattle.line_ledger.specs.Seats.{SeatState, agrees}

-- what a seat is shown: the symbol asked for, the tape's length, its own count and the symbol's summary
pub record ViewState : Type 0 where
  pub symbol : List ℕ
  pub count : ℕ
  pub mine : ℕ
  pub summary : Summary

-- why a seat is not shown a symbol: the first case that holds, or none
abbrev pub view_fault : TapeState → SeatState → List ℕ → Option ViewFault
view_fault t s symbol =
    if not (lists_symbol t.listing symbol) then Some UnknownSymbol
    else if not (agrees t s) then Some Behind
    else None

-- the view is of this tape, which has of the seat's participant what the seat was told
pub record Shows (t : TapeState) (s : SeatState) (symbol : List ℕ) (v : ViewState) : Type 0 where
  pub agrees_still : agrees t s ≡ true
  pub symbol_is : v.symbol ≡ symbol
  pub count_is : v.count ≡ length t.entries
  pub mine_is : v.mine ≡ length s.told
  pub summary_is : summary_at t symbol ≡ Some v.summary

-- there is a legal open tape of the day of which this is the view
abbrev pub IsShown : Terms → SeatState → List ℕ → ViewState → Type 0
IsShown terms s symbol v = (t : TapeState) × IsDay terms t × Shows t s symbol v
