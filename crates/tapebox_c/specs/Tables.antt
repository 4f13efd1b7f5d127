-- Defines the results of the calls of a table.
use Rattle.std.specs.Prelude.{◌≡◌, ◌≢◌, ◌⊎◌, ◌==◌, ℕ, List, [], length, take, drop, Option, None, Some, Result, Ok, Err, Vec, if◌then◌else◌}
use Rattle.sale_matrix.specs.declared.matrix.Matrix.{Matrix}
use Rattle.reports.specs.declared.message.Message.{Message}
use Rattle.csv_messages.specs.FaultLines.{table_fault_text}
use Rattle.csv_messages.specs.Tables.{IsTable, IsTableFault}
use Rattle.csv_messages.specs.declared.table_fault.TableFault.{TableFault}
use Rattle.csv_days.specs.EndTexts.{end_status, end_text}
use Rattle.csv_days.specs.TableEnds.{IsMessagesEnd}
use Rattle.csv_days.specs.declared.table_end.TableEnd.{TableEnd}
use Rattle.csv_days.specs.declared.table_end.TableEnd.TheVariants.{Table as OfTable, WriteFault}
use Rattle.tapebox_c.specs.Faults.{fault_code}
use Rattle.tapebox_c.specs.declared.fault.CallFault.{CallFault}
use Rattle.tapebox_c.specs.declared.fault.CallFault.TheVariants.{BadMatrix, BadTable, InUse, NoTable, OutOfMemory}
use Rattle.tapebox_c.specs.declared.held.Held.{Held}
use Rattle.tapebox_c.specs.declared.held.Held.TheVariants.{Table, Words}
use Rattle.tapebox_c.specs.declared.table.Table.{Table as Messages}

-- the fault of a table that has no text: out of memory, or another
abbrev pub end_fault : TableEnd → CallFault
end_fault end = if end_status end == 5 then OutOfMemory else BadTable

-- a table was read, or is faulty and the fault is held in words; or nothing is held, and memory ran out
abbrev pub Reads : List ℕ → ℕ → Option Held → Type 0
Reads table code (Some (Table held)) = (code ≡ 0) × IsTable table held.messages.items × (held.text.items ≡ [])
Reads table code (Some (Words words)) =
    (fault : TableFault) × IsTableFault table fault × (code ≡ fault_code (end_fault (OfTable fault))) × (words.items ≡ table_fault_text fault)
Reads table code None = code ≡ fault_code OutOfMemory
Reads table code held = ⊥

-- a handle that holds nothing reads a table: 103 if it holds something
abbrev pub ReadsIn : Option Held → List ℕ → ℕ → Option Held → Type 0
ReadsIn None table code new = Reads table code new
ReadsIn (Some held) table code new = (code ≡ fault_code InUse) × (new ≡ Some held)

-- the text of messages, or why they have none in memory, where a write fails only if memory runs out
abbrev pub ComesTo : (Matrix → List Message → List ℕ) → Matrix → List Message → Result (List ℕ) TableEnd → Type 0
ComesTo text matrix messages (Ok bytes) = bytes ≡ text matrix messages
ComesTo text matrix messages (Err end) = (end ≢ WriteFault) × IsMessagesEnd messages end

-- a run with the bytes that it wrote
abbrev pub run_of : {Z : Type 0} → Result (Vec ℕ Z) TableEnd → Result (List ℕ) TableEnd
run_of (Ok text) = Ok text.items
run_of (Err end) = Err end

-- a text with 0, or the reason why there is none, by its number and in words
abbrev pub IsTold : Result (List ℕ) TableEnd → ℕ → List ℕ → Type 0
IsTold (Ok bytes) code text = (code ≡ 0) × (text ≡ bytes)
IsTold (Err end) code text = (code ≡ fault_code (end_fault end)) × (text ≡ end_text end)

-- the same; or there are no words, because memory ran out for them
abbrev pub Tells : Result (List ℕ) TableEnd → ℕ → List ℕ → Type 0
Tells run code text = IsTold run code text ⊎ ((code ≡ fault_code OutOfMemory) × (text ≡ []))

-- a table keeps its messages, and has a text of them in place of its former one, or in words why there is none
abbrev pub Writes : (Matrix → List Message → List ℕ) → Matrix → Messages → ℕ → Messages → Type 0
Writes text matrix old code new =
    (new.messages ≡ old.messages) × ((run : Result (List ℕ) TableEnd) × ComesTo text matrix old.messages.items run × Tells run code new.text.items)

-- what is held writes a text, if it is a table
abbrev pub WritesTo : (Matrix → List Message → List ℕ) → Matrix → Held → ℕ → Held → Type 0
WritesTo text matrix (Table old) code (Table new) = Writes text matrix old code new
WritesTo text matrix (Table old) code new = ⊥
WritesTo text matrix held code new = (code ≡ fault_code NoTable) × (new ≡ held)

-- a handle writes a text of its table: 104 if there is no such matrix, 110 without a table
abbrev pub WritesIn : (Matrix → List Message → List ℕ) → Option Matrix → Option Held → ℕ → Option Held → Type 0
WritesIn text None held code new = (code ≡ fault_code BadMatrix) × (new ≡ held)
WritesIn text (Some matrix) None code new = (code ≡ fault_code NoTable) × (new ≡ None)
WritesIn text (Some matrix) (Some held) code None = ⊥
WritesIn text (Some matrix) (Some held) code (Some new) = WritesTo text matrix held code new

-- the text of what is held; a tape and a subscriber have none
abbrev pub text_of : Held → List ℕ
text_of (Table table) = table.text.items
text_of (Words words) = words.items
text_of held = []

-- the text that a handle holds
abbrev pub held_text : Option Held → List ℕ
held_text None = []
held_text (Some held) = text_of held

-- the bytes of a text from one on, as many as a row has room for
abbrev pub copied : ℕ → List ℕ → List ℕ → List ℕ
copied from text row = take (length row) (drop from text)
