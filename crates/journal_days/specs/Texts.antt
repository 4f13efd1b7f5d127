-- The messages of a journal's entries.
use Rattle.std.specs.Prelude.{List, map}
use Rattle.reports.specs.declared.message.Message.{Message}
use Rattle.tape_core.specs.declared.entry.Entry.{Entry}

-- the messages of entries
abbrev pub messages_in : List Entry → List Message
messages_in es = map (λ e. e.message) es
