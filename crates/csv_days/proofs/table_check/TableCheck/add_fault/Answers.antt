use Rattle.std.proofs.Common.{arith, drop}
use Rattle.csv_messages.specs.declared.table_fault.TableFault.TheVariants.{Row}
use Rattle.csv_days.specs.Checks.{FAULTS_TOLD}
use Rattle.csv_days.proofs.ToldLemmas.{both-ok, others-few, told-more, told-over}
use Rattle.csv_days.proofs.table_check.TableCheck.add_fault.Goals as goal

pub returns-then-self-ge-FAULTS_TOLD-clause-told : goal.returns-then-self-ge-FAULTS_TOLD-clause-told
returns-then-self-ge-FAULTS_TOLD-clause-told c = λ faults few had.
    told-over faults c.args.self.now.told c.args.self.now.lines.items (Row c.args.number c.args.fault) c.args.self.now.more _
    (omega (arith, c.if-self-ge-FAULTS_TOLD.true)) had
    (c.add.ensures (drop FAULTS_TOLD faults) c.args.number (omega (arith, few, others-few faults)))

pub returns-clause-told : goal.returns-clause-told
returns-clause-told c =
    both-ok c.tell.result _ _ _
    (λ sum added faults few had. rw c.tell.ensures.more
    (told-more faults c.args.self.now.told _ c.args.self.now.lines.items _ (record { fault = Row c.args.number c.args.fault; line = c.args.line })
    c.args.self.now.more (omega (arith, c.if-self-ge-FAULTS_TOLD.false)) sum added had))
    c.tell.ensures.told c.tell.ensures.lines
