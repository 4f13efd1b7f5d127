-- Facts that hold for each version.
use Rattle.std.proofs.Common.{◌≡◌, ◌≢◌, ℕ, ◌^◌, ◌<◌, ◌≤◌, ◌==◌, lit<, arith}
use Rattle.tape_frames.specs.declared.version.Version.{Version}
use Rattle.tape_frames.specs.declared.version.Version.TheVariants.{One, Two}
use Rattle.tape_frames.specs.Limits.{ENTRIES_MOST, LONGEST_PACKET}
use Rattle.tape_frames.specs.Versions.{CanBegin, entries_most, longest_packet, number_most, version_byte}
use Rattle.tape_types.specs.Ranges.{TAPE_MOST}

-- each number that a packet can state is a tape number
pub number_most-within : (version : Version) → number_most version ≤ TAPE_MOST
number_most-within One = omega arith
number_most-within Two = omega arith

-- a packet has some entries, and not more than there is room for
pub entries_most-within : (version : Version) → (1 ≤ entries_most version) × (entries_most version ≤ ENTRIES_MOST)
entries_most-within One = (omega arith, omega arith)
entries_most-within Two = (omega arith, omega arith)

-- a version's byte is one
pub version_byte-fits : (version : Version) → version_byte version < 2 ^ 8
version_byte-fits One = lit< tt
version_byte-fits Two = lit< tt

-- no packet of any version is longer than the longest
pub longest_packet-within : (version : Version) → longest_packet version ≤ LONGEST_PACKET
longest_packet-within One = omega arith
longest_packet-within Two = omega arith

-- a tape number that a packet can begin with is one that it can state
pub begins-within : (version : Version) (from : ℕ) → CanBegin version from → from ≤ TAPE_MOST → from ≤ number_most version
begins-within One from begins on_tape = begins
begins-within Two from begins on_tape = on_tape
