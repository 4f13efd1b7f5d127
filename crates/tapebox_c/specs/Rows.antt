-- Defines the rows that cross to another language.
use Rattle.std.specs.Prelude.{◌≡◌, ℕ, take, drop, length, replicate, Option, None, Some}
use Rattle.reports.specs.Spelling.{spelling}
use Rattle.scratch_fold.specs.declared.summary.Mark.{Mark}
use Rattle.scratch_fold.specs.declared.summary.Summary.{Summary}
use Rattle.tape_core.specs.declared.entry.Entry.{Entry}
use Rattle.tapebox_c.specs.declared.rows.MarkRow.{MarkRow}
use Rattle.tapebox_c.specs.declared.rows.SummaryRow.{SummaryRow}
use Rattle.tapebox_c.specs.declared.rows.AnswerRow.{AnswerRow}
use Rattle.tapebox_c.specs.declared.rows.EntryRow.{EntryRow}

-- a mark as a row, zeros if there is none
abbrev pub mark_row : Option Mark → MarkRow
mark_row None = record { price = 0; place = 0; who = 0 }
mark_row (Some m) = record { price = m.price; place = m.place; who = m.who }

-- a summary as a row
abbrev pub summary_row : Summary → SummaryRow
summary_row s = record {
  opening = mark_row s.opening;
  high = mark_row s.high;
  low = mark_row s.low;
  last = mark_row s.last;
  volume = s.volume;
  trades = s.trades;
}

-- the row of no summary
abbrev pub empty_summary_row : SummaryRow
empty_summary_row = record { opening = mark_row None; high = mark_row None; low = mark_row None; last = mark_row None; volume = 0; trades = 0 }

-- the row of a number and what its entry carries
abbrev pub carried_row : ℕ → Option Summary → AnswerRow
carried_row number None = record { number = number; carries = 0; after = empty_summary_row }
carried_row number (Some after) = record { number = number; carries = 1; after = summary_row after }

-- the row of an entry's answer
abbrev pub answer_row : Entry → AnswerRow
answer_row e = carried_row e.number e.after

-- how many bytes the longest message has
abbrev pub LONGEST_MESSAGE : ℕ
LONGEST_MESSAGE = 44

-- a row of an entry: its number, what it carries, and its message's bytes, with zeros after them
pub record IsEntryRow (e : Entry) (row : EntryRow) : Type 0 where
  pub answer : row.answer ≡ answer_row e
  pub len : row.len ≡ length (spelling e.message)
  pub message : take row.len row.message ≡ spelling e.message
  pub zeros : drop row.len row.message ≡ drop row.len (replicate LONGEST_MESSAGE 0)
