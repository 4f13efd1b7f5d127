-- A table's rows, read and answered piece by piece.
use Rattle.std.proofs.Common.{◌++◌, [], ℕ, List, Option, Some, None, IfSome}
use Rattle.reports.specs.declared.message.Message.{Message}
use Rattle.sale_matrix.specs.declared.matrix.Matrix.{Matrix}
use Rattle.csv_messages.specs.TableReading.{FailsWith, HasRows, TakesMore, TakesRest}
use Rattle.csv_messages.specs.declared.table_fault.TableFault.{TableFault}
use Rattle.csv_messages.specs.declared.row_reader.RowReader.{RowReader}
use Rattle.csv_messages.proofs.RowLemmas.{FailsWith-after, HasTaken-none, TakesMore-both, TakesMore-none, TakesRest-both}
use Rattle.csv_days.specs.EndDays.{EndsMore, EndsWith, HasEnded, IsEnding, ReadsAll, ReadsDay, ReadsMore, StopsDay}
use Rattle.csv_days.specs.declared.end_day.EndDay.{EndDay}
use Rattle.csv_days.specs.declared.table_end.TableEnd.{TableEnd}
use Rattle.csv_days.specs.declared.table_end.TableEnd.TheVariants.{Table}
use Rattle.csv_days.proofs.EndDayLemmas.{EndsMore-both, EndsMore-none, IsEnding-more}

module _ {R : Type 0} (remaining : R → Option (List ℕ)) where
  -- nothing was read yet
  pub ReadsMore-none : (rows : RowReader R) (day : EndDay) → ReadsMore remaining rows rows day day
  ReadsMore-none rows day = ([], TakesMore-none remaining rows, EndsMore-none day)

  -- a piece more
  pub ReadsMore-piece : (rows left next : RowReader R) (old mid new : EndDay) (piece : List Message) → ReadsMore remaining rows left old mid
      → TakesMore remaining left next piece → EndsMore mid new piece → ReadsMore remaining rows next old new
  ReadsMore-piece rows left next old mid new piece (messages, taken, answered) takes answers =
      (messages ++ piece, TakesMore-both remaining rows left next messages piece taken takes, EndsMore-both old mid new messages piece answered answers)

  -- the last piece
  pub ReadsAll-piece : (rows left : RowReader R) (old mid new : EndDay) (piece : List Message) → ReadsMore remaining rows left old mid
      → TakesRest remaining left piece → EndsMore mid new piece → ReadsAll remaining rows old new
  ReadsAll-piece rows left old mid new piece (messages, taken, answered) takes answers =
      (messages ++ piece, TakesRest-both remaining rows left messages piece taken takes, EndsMore-both old mid new messages piece answered answers)

  -- a fault behind what was read
  pub EndsWith-fault : (rows left : RowReader R) (old mid : EndDay) (fault : TableFault) → ReadsMore remaining rows left old mid
      → FailsWith remaining left fault → EndsWith remaining rows (Table fault)
  EndsWith-fault rows left old mid fault (messages, taken, answered) fails = FailsWith-after remaining rows left messages fault taken fails

  -- a day that answered what was read goes on
  pub IsEnding-read : (rows left : RowReader R) (old mid : EndDay) → ReadsMore remaining rows left old mid → IsEnding old → IsEnding mid
  IsEnding-read rows left old mid (messages, taken, answered) = IsEnding-more old mid messages answered

  -- the day of a whole table
  pub ReadsDay-all : (matrix : Matrix) (known : Option (List ℕ)) (rows : RowReader R) (old new : EndDay)
      → IfSome known (λ input. HasRows remaining rows input []) → HasEnded matrix [] old → ReadsAll remaining rows old new → ReadsDay known matrix new
  ReadsDay-all matrix None rows old new start begun (messages, all, answered) = (messages, tt, answered matrix [] begun)
  ReadsDay-all matrix (Some input) rows old new start begun (messages, all, answered) = (messages, all input [] (HasTaken-none remaining rows input start), answered matrix [] begun)

  -- an end of a table
  pub StopsDay-rows : (known : Option (List ℕ)) (rows : RowReader R) (end : TableEnd) → IfSome known (λ input. HasRows remaining rows input [])
      → EndsWith remaining rows end → StopsDay known end
  StopsDay-rows None rows end start ends = tt
  StopsDay-rows (Some input) rows end start ends = ends input [] (HasTaken-none remaining rows input start)
