-- Defines what replaying the entries of a journal does to a tape.
use Rattle.std.specs.Prelude.{◌≡◌, ◌≢◌, ◌++◌, ℕ, List, take, slice_get, Some, unwrap_or}
use Rattle.tape_core.specs.declared.entry.Entry.{Entry}
use Rattle.tape_core.specs.declared.refusal.Refusal.TheVariants.{OutOfMemory}
use Rattle.tape_core.specs.Tape.{TapeState, next_entry, replay_refusal, with_message}
use Rattle.day_journal.specs.declared.replaying.ReplayFault.{ReplayFault}
use Rattle.day_journal.specs.declared.replaying.ReplayFault.TheVariants.{Refused, Differs}

-- a tape with these entries at its end
abbrev pub with_entries : TapeState → List Entry → TapeState
with_entries t es = record t { entries = t.entries ++ es }

-- at this index is the entry of this number, at which a replay stopped
pub record IsAt (es : List Entry) (number index : ℕ) (e : Entry) : Type 0 where
  pub found : slice_get es index ≡ Some e
  pub numbered : e.number ≡ number

-- why a replay stopped, and the tape then
abbrev pub StopsReplay : ReplayFault → TapeState → List Entry → TapeState → Type 0
-- the entries before the one that is refused were replayed
StopsReplay (Refused number refusal) old es new =
    (index : ℕ) × (e : Entry) × IsAt es number index e × (new ≡ with_entries old (take index es))
    × (refusal ≡ unwrap_or (replay_refusal new e.number e.message) OutOfMemory)
-- the tape made another entry of the message
StopsReplay (Differs number) old es new =
    (index : ℕ) × (e : Entry) × IsAt es number index e × (next_entry old.matrix (old.entries ++ take index es) e.message ≢ e)
    × (new ≡ with_message (with_entries old (take index es)) e.message)
