-- States what the functions that read a group's parts return, beside what is defined as read: nothing is said if memory runs
-- out.
use Rattle.std.specs.Prelude.{◌≡◌, ◌≢◌, ℕ, List, ◌++◌, Result, Ok, Err}
use Rattle.tape_core.specs.declared.entry.Entry.{Entry}
use Rattle.day_journal.specs.declared.group_fault.GroupFault.{GroupFault}
use Rattle.day_journal.specs.declared.group_fault.GroupFault.TheVariants.{OutOfMemory}
use Rattle.day_journal.specs.GroupReading.{Read}

-- a fault is the one that is read, unless memory ran out
abbrev pub IsFaultOf : {X : Type 0} → GroupFault → Result X GroupFault → Type 0
IsFaultOf f read = f ≢ OutOfMemory → read ≡ Err f

-- the entries of a packet are appended to the others
abbrev pub GivesRow : Result Unit GroupFault → List Entry → List Entry → Result (List Entry) GroupFault → Type 0
GivesRow (Ok done) old new read = (row : List Entry) × (read ≡ Ok row) × (new ≡ old ++ row)
GivesRow (Err f) old new read = IsFaultOf f read

-- the entries of the packets, and the bytes after the mark
abbrev pub GivesPackets : Result Unit GroupFault → List Entry → List ℕ → Result (List Entry × List ℕ) GroupFault → Type 0
GivesPackets (Ok done) es rest read = read ≡ Ok (es, rest)
GivesPackets (Err f) es rest read = IsFaultOf f read

-- the entries of a group, its digest, and the bytes after it
abbrev pub GivesGroup : Result (List ℕ) GroupFault → List Entry → List ℕ → Result Read GroupFault → Type 0
GivesGroup (Ok digest) es rest read = read ≡ Ok (es, (digest, rest))
GivesGroup (Err f) es rest read = IsFaultOf f read
