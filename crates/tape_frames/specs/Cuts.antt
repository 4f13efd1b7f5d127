-- A packet that was cut from a tape.
use Rattle.std.specs.Prelude.{◌≡◌, ℕ, ◌≤◌, true, List, ◌++◌, length}
use Rattle.tape_core.specs.declared.entry.Entry.{Entry}
use Rattle.tape_core.specs.Tape.{TapeState}
use Rattle.tape_frames.specs.declared.packet.Packet.{Packet}
use Rattle.tape_frames.specs.declared.packet.Packet.TheVariants.{Data, Beat, End}

-- consecutive entries of the tape
abbrev pub IsPartOf : List Entry → List Entry → Type 0
IsPartOf row tape = (before : List Entry) × (after : List Entry) × (tape ≡ before ++ (row ++ after))

-- a packet of any version under this session that was cut from the tape: consecutive entries, of which the packet's type says how many, or at most the
-- tape's length, or the length of the closed tape
abbrev pub IsCutOf : ℕ → TapeState → Packet → Type 0
IsCutOf own t (Data session row) = (session ≡ own) × IsPartOf row.entries t.entries
IsCutOf own t (Beat session last) = (session ≡ own) × (last.count ≤ length t.entries)
IsCutOf own t (End session count) = (session ≡ own) × (t.closed ≡ true) × (count.count ≡ length t.entries)
