use Rattle.std.proofs.Common.{[]}
use Rattle.csv_days.proofs.ToldLemmas.{both-ok, told-few, told-more}
use Rattle.csv_days.proofs.table_check.TableCheck.add_only.Goals as goal

pub returns-clause-told : goal.returns-clause-told
returns-clause-told c =
    both-ok c.tell.result _ _ _
    (λ sum added had. rw c.tell.ensures.more
    (told-more [] c.args.self.now.told _ c.args.self.now.lines.items _ (record { fault = c.args.fault; line = 0 })
    c.args.self.now.more (told-few c.args.self.now.told c.args.self.now.lines.items c.args.self.now.more had) sum added had))
    c.tell.ensures.told c.tell.ensures.lines
