-- The versions of the format: their bytes, limits and ranges of numbers.
use Rattle.std.specs.Prelude.{ℕ, ◌+◌, ◌*◌, ◌≤◌, ◌==◌, Option, Some, None, if◌then◌else◌}
use Rattle.tape_types.specs.Ranges.{TAPE_MOST}
use Rattle.tape_frames.specs.declared.version.Version.{Version}
use Rattle.tape_frames.specs.declared.version.Version.TheVariants.{One, Two}
use Rattle.tape_frames.specs.Limits.{ENTRIES_MOST, ENTRIES_MOST_ONE, HEADER_LENGTH, LONGEST_ENTRY, NUMBER_MOST_ONE}

-- the version as a packet's first byte
abbrev pub version_byte : Version → ℕ
version_byte One = 1
version_byte Two = 2

-- the version of a packet with this first byte
abbrev pub version_of_byte : ℕ → Option Version
version_of_byte byte = if byte == version_byte One then Some One else if byte == version_byte Two then Some Two else None

-- how many entries a packet has at most
abbrev pub entries_most : Version → ℕ
entries_most One = ENTRIES_MOST_ONE
entries_most Two = ENTRIES_MOST

-- the greatest number in a packet
abbrev pub number_most : Version → ℕ
number_most One = NUMBER_MOST_ONE
number_most Two = TAPE_MOST

-- how many bytes a packet has at most
abbrev pub longest_packet : Version → ℕ
longest_packet version = HEADER_LENGTH + entries_most version * LONGEST_ENTRY

-- a tape number that a packet can state
abbrev pub IsNumberIn : Version → ℕ → Type 0
IsNumberIn version n = (1 ≤ n) × (n ≤ number_most version)

-- a number of entries that a packet can state
abbrev pub IsCountIn : Version → ℕ → Type 0
IsCountIn version n = n ≤ number_most version

-- a packet can begin with the entry of this number of a tape, which is any tape number unless the version is 1
abbrev pub CanBegin : Version → ℕ → Type 0
CanBegin One from = from ≤ NUMBER_MOST_ONE
CanBegin Two from = Unit {0}
