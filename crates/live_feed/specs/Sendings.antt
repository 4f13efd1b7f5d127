-- What the sender sends.
use Rattle.std.specs.Prelude.{◌≡◌, ℕ, List}
use Rattle.tape_core.specs.declared.entry.Entry.{Entry}
use Rattle.tape_frames.specs.declared.packet.Packet.TheVariants.{Beat, Data, End}
use Rattle.tape_frames.specs.declared.version.Version.TheVariants.{Two}
use Rattle.tape_frames.specs.PacketEntries.{last_number}
use Rattle.tape_frames.specs.Sources.{cut_of}
use Rattle.tape_frames.specs.Spelling.{packet_text}

-- the spelling of the packet that is cut from these entries from a number on
abbrev pub data_text : ℕ → List Entry → ℕ → List ℕ
data_text session entries from = packet_text (Data session (record { version = Two; entries = cut_of Two entries from }))

-- the spelling of a beat that tells of so many entries
abbrev pub beat_text : ℕ → ℕ → List ℕ
beat_text session last = packet_text (Beat session (record { version = Two; count = last }))

-- the spelling of the end of a day of so many entries
abbrev pub end_text : ℕ → ℕ → List ℕ
end_text session count = packet_text (End session (record { version = Two; count = count }))

-- the text is that of the packet that is cut from these entries from a number on, and this is its last number
pub record IsSent (session : ℕ) (entries : List Entry) (from last : ℕ) (text : List ℕ) : Type 0 where
  pub spelled : text ≡ data_text session entries from
  pub last_is : last ≡ last_number (cut_of Two entries from)
