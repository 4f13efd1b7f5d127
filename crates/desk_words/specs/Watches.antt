-- What `watch` writes of a running day: the rows of a tape's entries, whole or in part, and its statuses.
use Rattle.std.specs.Prelude.{◌≡◌, ◌≤◌, ◌⊎◌, ℕ, List, Option, None, Some}
use Rattle.std.specs.Io.KnownBytes.{Appends, Keeps}
use Rattle.whole_io.specs.Writing.{WritesPrefix}
use Rattle.sale_matrix.specs.declared.matrix.Matrix.{Matrix}
use Rattle.tape_types.specs.Names.{Names}
use Rattle.tape_core.specs.Tape.{TapeState}
use Rattle.tape_core.specs.declared.entry.Entry.{Entry}
use Rattle.tape_core.specs.declared.row_figures.RowFigures.{RowFigures}
use Rattle.whole_io.specs.declared.writing_fault.WritingFault.{WritingFault}
use Rattle.whole_io.specs.declared.writing_fault.WritingFault.TheVariants.{OutOfMemory, WriteFault}
use Rattle.feed_follower.specs.Sinks.{IsTapeOf}
use Rattle.feed_follower.specs.declared.sink.SinkFault.{SinkFault}
use Rattle.feed_follower.specs.declared.sink.SinkFault.TheVariants as sink
use Rattle.csv_days.specs.TapeRows.{entries_text, entry_row, row_line}

-- the line of an entry's row
abbrev pub entry_line : Entry → RowFigures → List ℕ
entry_line e figures = row_line (entry_row e figures)

-- the text of the rows of a tape's entries
abbrev pub followed_text : TapeState → List ℕ
followed_text t = entries_text t.matrix t.entries

-- the rows of all entries of some legal tape of the listing and the matrix, of no more entries than the limit, were written,
-- and nothing else
abbrev pub WritesTapeOf : Names → Matrix → ℕ → Option (List ℕ) → Option (List ℕ) → Type 0
WritesTapeOf listing matrix limit old new = (t : TapeState) × IsTapeOf listing matrix limit t × Appends old new (followed_text t)

-- a part of such a text was written, from its front
abbrev pub WritesPartOf : Names → Matrix → ℕ → Option (List ℕ) → Option (List ℕ) → Type 0
WritesPartOf listing matrix limit old new = (t : TapeState) × IsTapeOf listing matrix limit t × WritesPrefix (followed_text t) old new

-- a writer was returned, to which all such rows were written
abbrev pub WritesWhole : {W : Type 0} → (W → Option (List ℕ)) → Names → Matrix → ℕ → W → Option W → Type 0
WritesWhole contents listing matrix limit writer None = ⊥
WritesWhole contents listing matrix limit writer (Some back) = WritesTapeOf listing matrix limit (contents writer) (contents back)

-- if a writer was returned, nothing was written to it, or a part of such rows from the front
abbrev pub WritesSome : {W : Type 0} → (W → Option (List ℕ)) → Names → Matrix → ℕ → W → Option W → Type 0
WritesSome contents listing matrix limit writer None = Unit {0}
WritesSome contents listing matrix limit writer (Some back) =
    Keeps (contents writer) (contents back) ⊎ WritesPartOf listing matrix limit (contents writer) (contents back)

-- a status of a run: 0 if it is done, 3 to 7 for a fault
abbrev pub IsRunStatus : ℕ → Type 0
IsRunStatus status = (status ≡ 0) ⊎ ((3 ≤ status) × (status ≤ 7))

-- a status of a watched day: 2 for bad arguments, or a run's
abbrev pub IsWatchStatus : ℕ → Type 0
IsWatchStatus status = (status ≡ 2) ⊎ IsRunStatus status

-- the sink's fault for a row that was not written
abbrev pub row_fault : WritingFault → SinkFault
row_fault OutOfMemory = sink.OutOfMemory
row_fault WriteFault = sink.Write
