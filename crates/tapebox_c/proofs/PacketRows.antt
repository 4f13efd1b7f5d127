-- Shows that a row has room for what it holds.
use Rattle.std.proofs.Common.{◌≤◌}
use Rattle.tape_frames.specs.Limits.{LONGEST_PACKET}
use Rattle.tape_frames.specs.Lemmas.Versions.{longest_packet-within}
use Rattle.tape_frames.specs.Versions.{longest_packet}
use Rattle.tape_frames.specs.declared.version.Version.{Version}

-- a row has room for each packet
pub packet_fits : (version : Version) → longest_packet version ≤ LONGEST_PACKET
packet_fits version = longest_packet-within version
