-- Defines the number and the row of each exported call.
use Rattle.std.specs.Prelude.{◌≡◌, ◌⊎◌, ℕ, List, length, Option, None, Some, Result, Ok, Err, ok_or, option_and_then}
use Rattle.tape_types.specs.Names.{symbol_named}
use Rattle.scratch_fold.specs.declared.summary.Summary.{Summary}
use Rattle.tape_core.specs.Tape.{TapeState, summary_at, participant_summary_at}
use Rattle.tape_core.specs.declared.entry.Entry.{Entry}
use Rattle.tape_core.specs.declared.refusal.Refusal.TheVariants.{UnknownParticipant, UnknownSymbol}
use Rattle.tapebox_c.specs.Calls.{Admits, Closes, entry_numbered, letter_named}
use Rattle.tapebox_c.specs.Faults.{fault_code}
use Rattle.tapebox_c.specs.Rows.{answer_row, IsEntryRow}
use Rattle.tapebox_c.specs.declared.fault.CallFault.{CallFault}
use Rattle.tapebox_c.specs.declared.fault.CallFault.TheVariants.{NoEntry, NoTape, Refused}
use Rattle.tapebox_c.specs.declared.held.Held.{Held}
use Rattle.tapebox_c.specs.declared.rows.AnswerRow.{AnswerRow}
use Rattle.tapebox_c.specs.declared.rows.EntryRow.{EntryRow}

-- the number of a refusal: that of the fault that is due, or out of memory (4 or 6) if none is
abbrev pub IsCodeOf : {X : Type 0} → Result X CallFault → ℕ → Type 0
IsCodeOf (Err due) code = code ≡ fault_code due
IsCodeOf (Ok made) code = (code ≡ 4) ⊎ (code ≡ 6)

-- a handle is opened: it holds what was made and the number is 0, or it is as it was
abbrev pub OpensIn : {X : Type 0} → (X → Held) → Option Held → Result X CallFault → ℕ → Option Held → Type 0
OpensIn make (Some held) due code new = (code ≡ 103) × (new ≡ Some held)
OpensIn make None due code None = IsCodeOf due code
OpensIn make None (Ok made) code (Some now) = (code ≡ 0) × (now ≡ make made)
OpensIn make None (Err fault) code (Some now) = ⊥

-- an answer: 0 and the entry's row, or the fault's number and the row as it was
abbrev pub Tells : Result Entry CallFault → ℕ → AnswerRow → AnswerRow → Type 0
Tells (Ok e) code old new = (code ≡ 0) × (new ≡ answer_row e)
Tells (Err fault) code old new = (code ≡ fault_code fault) × (new ≡ old)

-- what a handle holds, if anything, answers bytes
abbrev pub AdmitsIn : Option Held → List ℕ → ℕ → AnswerRow → AnswerRow → Option Held → Type 0
AdmitsIn None bytes code row row' held' = (code ≡ 101) × (row' ≡ row) × (held' ≡ None)
AdmitsIn (Some held) bytes code row row' None = ⊥
AdmitsIn (Some held) bytes code row row' (Some held') = (answer : Result Entry CallFault) × Admits held bytes answer held' × Tells answer code row row'

-- 0, or the number of the fault
abbrev pub code_of : {X : Type 0} → Result X CallFault → ℕ
code_of (Ok done) = 0
code_of (Err fault) = fault_code fault

-- the tape of a handle is closed, if there is one
abbrev pub ClosesIn : Option Held → ℕ → Option Held → Type 0
ClosesIn None code new = (code ≡ 101) × (new ≡ None)
ClosesIn (Some held) code None = ⊥
ClosesIn (Some held) code (Some held') = (answer : Result (Unit {0}) CallFault) × Closes held answer held' × (code ≡ code_of answer)

-- what was looked for: 0 and its row, or the number of the reason why it is not there, and the row as it was
abbrev pub told : {A B : Type 0} → (A → B) → Result A CallFault → B → ℕ × B
told view (Ok x) old = (0, view x)
told view (Err fault) old = (fault_code fault, old)

-- a symbol's consolidated summary: 101 without a tape, 36 if the symbol is not listed
abbrev pub summary_found : Option TapeState → List ℕ → Result Summary CallFault
summary_found None name = Err NoTape
summary_found (Some t) name = ok_or (option_and_then (summary_at t) (symbol_named name)) (Refused UnknownSymbol)

-- why a participant has no summary of a symbol: 36 if the symbol is not listed, else 34
abbrev pub unlisted : Option Summary → CallFault
unlisted None = Refused UnknownSymbol
unlisted (Some summary) = Refused UnknownParticipant

-- a participant's own summary: 36 if the symbol is not listed, 34 if the participant is not
abbrev pub summary_of_found : Option TapeState → List ℕ → ℕ → Result Summary CallFault
summary_of_found None name letter = Err NoTape
summary_of_found (Some t) name letter =
    ok_or (option_and_then (λ symbol. option_and_then (participant_summary_at t symbol) (letter_named letter)) (symbol_named name))
    (unlisted (option_and_then (summary_at t) (symbol_named name)))

-- how many entries a tape has
abbrev pub count_told : Option TapeState → ℕ
count_told None = 0
count_told (Some t) = length t.entries

-- the entry of a number: 101 without a tape, 105 if the tape has no entry of that number
abbrev pub entry_found : Option TapeState → ℕ → Result Entry CallFault
entry_found None number = Err NoTape
entry_found (Some t) number = ok_or (entry_numbered t.entries number) NoEntry

-- an entry that was looked for, or the reason why there is none
abbrev pub EntryTold : Result Entry CallFault → ℕ → EntryRow → EntryRow → Type 0
EntryTold (Ok e) code old new = (code ≡ 0) × IsEntryRow e new
EntryTold (Err fault) code old new = (code ≡ fault_code fault) × (new ≡ old)
