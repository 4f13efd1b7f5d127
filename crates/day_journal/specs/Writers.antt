-- States what a contract sees of the writer of a journal's groups.
use Rattle.std.specs.Prelude.{◌+◌, ℕ, Bool, List, length}
use Rattle.tape_core.specs.declared.entry.Entry.{Entry}
use Rattle.day_journal.specs.Groups.{group_digest, group_text}

-- the session, how many entries the journal has, the digest that the next group is chained to, and whether a write failed
pub record WriterState : Type 0 where
  pub session : ℕ
  pub held : ℕ
  pub digest : List ℕ
  pub broken : Bool

-- the next group of these entries
abbrev pub next_text : WriterState → List Entry → List ℕ
next_text w es = group_text w.session w.digest es

-- the writer after the group of these entries is written
abbrev pub with_group : WriterState → List Entry → WriterState
with_group w es = record { session = w.session; held = w.held + length es; digest = group_digest w.session w.digest es; broken = w.broken }
