-- States what the functions that read a header's parts return, beside what is defined as read: nothing is said if memory runs
-- out.
use Rattle.std.specs.Prelude.{◌≡◌, ◌≢◌, ◌-◌, ℕ, List, length, Result, Ok, Err, None, false, is_none}
use Rattle.std.specs.Global.{Vec}
use Rattle.day_journal.specs.declared.header_fault.JournalHeaderFault.{JournalHeaderFault}
use Rattle.day_journal.specs.declared.header_fault.JournalHeaderFault.TheVariants.{Damaged, OutOfMemory}
use Rattle.day_journal.specs.declared.header_reading.JournalHeader.{JournalHeader}
use Rattle.day_journal.specs.declared.header_reading.Fields.{Fields}
use Rattle.days.specs.declared.day.Day.{Day}
use Rattle.day_journal.specs.Headers.{ReadHeader}
use Rattle.tape_types.specs.Names.{Names, names_fault}

-- a fault is the one that is read, unless memory ran out
abbrev pub IsHeaderFaultOf : {X : Type 0} → JournalHeaderFault → Result X JournalHeaderFault → Type 0
IsHeaderFaultOf f read = f ≢ OutOfMemory → read ≡ Err f

-- a list of values, and what was left after them
abbrev pub GivesValues : {A : Type 0} → Result (Vec A) JournalHeaderFault → List ℕ → Result (List A × List ℕ) JournalHeaderFault → Type 0
GivesValues (Ok values) rest read = read ≡ Ok (values.items, rest)
GivesValues (Err f) rest read = IsHeaderFaultOf f read

-- the terms, and what was left after them
abbrev pub GivesTerms : Result Fields JournalHeaderFault → List ℕ → Result (Day × List ℕ) JournalHeaderFault → Type 0
GivesTerms (Ok f) rest read =
    read ≡ Ok (record { session = f.session; matrix = f.matrix; limit = f.limit; listing = record { symbols = f.symbols.items; participants = f.participants.items } }, rest)
GivesTerms (Err f) rest read = IsHeaderFaultOf f read

-- the day of a header, its digest, and how many bytes it has
abbrev pub GivesHeader : Result JournalHeader JournalHeaderFault → List ℕ → Result ReadHeader JournalHeaderFault → Type 0
GivesHeader (Ok h) bytes read =
    (rest : List ℕ) × (h.len ≡ length bytes - length rest) × (read ≡ Ok (h.day, (h.digest, rest)))
GivesHeader (Err f) bytes read = IsHeaderFaultOf f read

-- a listing of the names, or damage if they are no listing
abbrev pub GivesListing : Result Names JournalHeaderFault → List (List ℕ) → List ℕ → Type 0
GivesListing (Ok l) symbols participants =
    (l ≡ record { symbols = symbols; participants = participants }) × (names_fault symbols participants ≡ None)
GivesListing (Err f) symbols participants = f ≢ OutOfMemory → (f ≡ Damaged) × (is_none (names_fault symbols participants) ≡ false)
