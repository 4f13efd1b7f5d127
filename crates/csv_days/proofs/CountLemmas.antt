-- Faults counted by kind.
use Rattle.std.proofs.Common.{◌≡◌, ◌<◌, ◌-◌, ◌∙◌, [], ℕ, List, ap, arith, replicate}
use Rattle.std.proofs.lemmas.List.{get_or-replicate}
use Rattle.std.specs.Prelude.{slice_index_or}
use Rattle.csv_messages.specs.declared.column.Column.{Column}
use Rattle.csv_messages.specs.declared.column.Column.TheVariants.{Kind, Participant, Number, Moment, Symbol, Target, Price, Size, Condition}
use Rattle.csv_days.specs.Checks.{AreCounts, column_place, kind_place}
use Rattle.csv_days.specs.declared.fault_counts.FaultCounts.{FaultCounts}
use Rattle.csv_days.specs.declared.fault_kind.FaultKind.{FaultKind}
use Rattle.csv_days.specs.declared.fault_kind.FaultKind.TheVariants.{OtherFields, BadField, UnusedField}

-- the places of columns
column_range : (c : Column) → column_place c < 9
column_range Kind = omega arith
column_range Participant = omega arith
column_range Number = omega arith
column_range Moment = omega arith
column_range Symbol = omega arith
column_range Target = omega arith
column_range Price = omega arith
column_range Size = omega arith
column_range Condition = omega arith

-- the places of kinds
kind_range : (k : FaultKind) → kind_place k < 19
kind_range OtherFields = omega arith
kind_range (BadField c) = omega (arith, column_range c)
kind_range (UnusedField c) = omega (arith, column_range c)

-- nothing is counted of no faults
pub counts-none : (counts : FaultCounts) → counts.counts ≡ replicate 19 0 → AreCounts [] counts
counts-none counts none kind =
    ap (λ (l : List ℕ). slice_index_or l (kind_place kind) 0) none ∙ get_or-replicate 19 (kind_place kind) 0 0 (kind_range kind)
