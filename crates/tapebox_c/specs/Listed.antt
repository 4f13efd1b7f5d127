-- Defines the results of the calls that read a tape's names.
use Rattle.std.specs.Prelude.{ℕ, List, ok_or, slice_get, Option, None, Some, Result, Err}
use Rattle.std.specs.Option.{option_map}
use Rattle.tape_core.specs.Standing.{figures_of}
use Rattle.tape_core.specs.Tape.{TapeState, messages_of}
use Rattle.tape_core.specs.declared.figures.Figures.{Figures}
use Rattle.tape_core.specs.declared.refusal.Refusal.TheVariants.{UnknownParticipant, UnknownSymbol}
use Rattle.tapebox_c.specs.Calls.{letter_named}
use Rattle.tapebox_c.specs.declared.fault.CallFault.{CallFault}
use Rattle.tapebox_c.specs.declared.fault.CallFault.TheVariants.{NoTape, Refused}
use Rattle.tapebox_c.specs.declared.rows.NameRow.{NameRow}
use Rattle.tapebox_c.specs.declared.rows.TotalsRow.{TotalsRow}

-- what a participant has sent, as a row
abbrev pub totals_row : Figures → TotalsRow
totals_row f = record { shares = f.sizes; messages = f.count; last = f.last }

-- what a participant has sent, by its letter
abbrev pub totals_of : TapeState → ℕ → Option Figures
totals_of t letter = option_map (figures_of (messages_of t.entries)) (letter_named letter)

-- what a participant has sent: 101 without a tape, 34 if the letter is not one
abbrev pub totals_found : Option TapeState → ℕ → Result Figures CallFault
totals_found None letter = Err NoTape
totals_found (Some t) letter = ok_or (totals_of t letter) (Refused UnknownParticipant)

-- a name as a row
abbrev pub name_row : List ℕ → NameRow
name_row symbol = record { bytes = symbol }

-- the symbol at a place: 101 without a tape, 36 if there is none
abbrev pub symbol_found : Option TapeState → ℕ → Result (List ℕ) CallFault
symbol_found None place = Err NoTape
symbol_found (Some t) place = ok_or (slice_get t.listing.symbols place) (Refused UnknownSymbol)

-- the participant at a place: 101 without a tape, 34 if there is none
abbrev pub letter_found : Option TapeState → ℕ → Result ℕ CallFault
letter_found None place = Err NoTape
letter_found (Some t) place = ok_or (slice_get t.listing.participants place) (Refused UnknownParticipant)
