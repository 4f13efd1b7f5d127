-- Defines the bytes of one participant's messages.
use Rattle.std.specs.Prelude.{ℕ, ◌==◌, List, [], if◌then◌else◌}
use Rattle.std.specs.List.{flat_map}
use Rattle.reports.specs.Messages.{header_of}
use Rattle.reports.specs.Spelling.{spelling}
use Rattle.reports.specs.declared.message.Message.{Message}

-- the bytes of a message if this participant sent it, and else nothing
abbrev pub own_bytes : ℕ → Message → List ℕ
own_bytes participant m = if (header_of m).participant == participant then spelling m else []

-- the bytes of a participant's messages, one after another
unfoldable pub line_bytes : ℕ → List Message → List ℕ
line_bytes participant messages = flat_map (own_bytes participant) messages
