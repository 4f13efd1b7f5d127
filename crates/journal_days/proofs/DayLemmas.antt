-- Builds the day of a journal from its header and the replay of all its groups.
use Rattle.std.proofs.Common.{◌≡◌, ◌≢◌, ℕ, ◌+◌, ◌-◌, List, length, drop, Option, Some, None, IfSome, Result, Ok, Err, sym, ap, subst, ◌∙◌, inl, inr}
use Rattle.std.specs.Prelude.{IfErr, IfOk}
use Rattle.std.proofs.lemmas.List.{length-drop}
use Rattle.sale_matrix.specs.declared.matrix.Matrix.{Matrix}
use Rattle.tape_core.specs.Tape.{IsTape, TapeState}
use Rattle.day_journal.specs.Headers.{ReadHeader, header_at}
use Rattle.day_journal.specs.Journals.{Journal, ReaderState, all_groups, groups_at}
use Rattle.day_journal.specs.Replays.{with_entries}
use Rattle.day_journal.specs.declared.header_fault.JournalHeaderFault.{JournalHeaderFault}
use Rattle.day_journal.specs.declared.header_fault.JournalHeaderFault.TheVariants as header
use Rattle.day_journal.specs.declared.journal_end.JournalEnd.{JournalEnd}
use Rattle.day_journal.specs.declared.journal_end.JournalEnd.TheVariants as end
use Rattle.journal_days.specs.Days.{EndsDay, IsDay, IsFault, IsHeaderFault, StopsAt, StopsEntries, end_of, entries_of, groups_of, header_tape, journal_tape}
use Rattle.journal_days.specs.Verdicts.{IsVerdict, standing_verdict}
use Rattle.journal_days.specs.declared.journal_day.JournalDay.{JournalDay}
use Rattle.journal_days.specs.declared.journal_fault.JournalFault.{JournalFault}
use Rattle.journal_days.specs.declared.journal_fault.JournalFault.TheVariants.{Header, OtherMatrix, Entry as OfEntry, Damaged, OutOfMemory}

-- a header that is not read
pub no_header : (asked : Option Matrix) (bytes : List ℕ) (f : JournalHeaderFault) (fault : JournalFault) → (f ≢ header.OutOfMemory → header_at bytes ≡ Err f)
    → IsHeaderFault f fault → IsFault asked bytes fault
no_header asked bytes f fault is (inl (none, full)) = subst (IsFault asked bytes) (sym full) tt
no_header asked bytes f fault is (inr (known, why)) = subst (IsFault asked bytes) (sym why) (is known)

-- as many turns as bytes after the header, and one more, are enough for all groups
pub all_turns : (bytes : List ℕ) (len : ℕ) (groups : ReaderState) → groups.rest ≡ drop len bytes → groups_at (length bytes - len + 1) groups ≡ all_groups groups
all_turns bytes len groups rest = ap (λ (n : ℕ). groups_at (n + 1) groups) (sym (length-drop len bytes) ∙ ap (λ (xs : List ℕ). length xs) (sym rest))

module _ (asked : Option Matrix) (bytes : List ℕ) (h : ReadHeader) (read : header_at bytes ≡ Ok h) (matrix : IfSome asked (λ m. m ≡ h.0.matrix))
    (tape : TapeState) (of_header : tape ≡ header_tape h.0) (journal : Journal) (all : journal ≡ groups_of bytes h) where
  -- the tape of all entries is the journal's
  whole_tape : (after : TapeState) → after ≡ with_entries tape (entries_of journal) → after ≡ journal_tape bytes h
  whole_tape after grown =
      grown ∙ ap (λ (t : TapeState). with_entries t (entries_of journal)) of_header ∙ ap (λ (j : Journal). with_entries (header_tape h.0) (entries_of j)) all

  -- a journal has this day
  pub day_made : (end : JournalEnd) (after : TapeState) (result : Result JournalDay JournalFault) → journal.1 ≡ end
      → after ≡ with_entries tape (entries_of journal) → EndsDay end after result → IfOk result (IsDay asked bytes)
  day_made end after (Ok day) ends grown (is, legal, told) = record {
    header = h;
    read = read;
    matrix = matrix;
    tape = is ∙ whole_tape after grown;
    legal = subst IsTape (sym is) legal;
    end = ap (λ (j : Journal). j.1) (sym all) ∙ ends ∙ told;
  }
  day_made end after (Err fault) ends grown made = tt

  -- a journal is damaged
  pub damage_made : (end : JournalEnd) (after : TapeState) (result : Result JournalDay JournalFault) → journal.1 ≡ end
      → after ≡ with_entries tape (entries_of journal) → EndsDay end after result → IfErr result (IsFault asked bytes)
  damage_made end after (Ok day) ends grown made = tt
  damage_made end.Whole after (Err fault) ends grown made = absurd made
  damage_made (end.Torn from) after (Err fault) ends grown made = absurd made
  damage_made (end.Damaged first count) after (Err fault) ends grown (is, legal) =
      subst (IsFault asked bytes) (sym is)
      (h, read, matrix, subst IsTape (whole_tape after grown) legal, ap (λ (j : Journal). j.1) (sym all) ∙ ends)

  -- a replay stopped
  pub stop_made : (fault : JournalFault) → StopsEntries fault tape (entries_of journal) → IsFault asked bytes fault
  stop_made (Header f) stops = absurd stops
  stop_made (OtherMatrix m) stops = absurd stops
  stop_made (OfEntry f) stops =
      let read_stops = subst (λ (j : Journal). StopsAt f tape (entries_of j)) all stops in
      (h, read, matrix, subst (λ (t : TapeState). StopsAt f t (entries_of (groups_of bytes h))) of_header read_stops)
  stop_made (Damaged first count) stops = absurd stops
  stop_made OutOfMemory stops = tt

-- what a journal that has a day is found to be
stands : (asked : Option Matrix) (bytes : List ℕ) (day : JournalDay) (torn : Option ℕ) (is : IsDay asked bytes day)
    → (groups_of bytes is.header).1 ≡ end_of torn → IsVerdict asked bytes (standing_verdict (length day.tape.entries) torn)
stands asked bytes day None is ends = record {
  header = is.header;
  read = is.read;
  matrix = is.matrix;
  legal = subst IsTape is.tape is.legal;
  counted = ap (λ (t : TapeState). length t.entries) is.tape;
  ends = ends;
}
stands asked bytes day (Some from) is ends = record {
  header = is.header;
  read = is.read;
  matrix = is.matrix;
  legal = subst IsTape is.tape is.legal;
  counted = ap (λ (t : TapeState). length t.entries) is.tape;
  ends = ends;
}

pub day_stands : (asked : Option Matrix) (bytes : List ℕ) (day : JournalDay) → IsDay asked bytes day
    → IsVerdict asked bytes (standing_verdict (length day.tape.entries) day.torn)
day_stands asked bytes day is = stands asked bytes day day.torn is is.end
