use Rattle.std.proofs.Common.{◌∙◌, refl, sym}
use Rattle.csv_days.proofs.CheckLemmas.{ends-none, ends-some}
use Rattle.csv_days.proofs.table_check.TableCheck.end_at.Goals as goal

pub returns-in_ok-add_only : goal.returns-in_ok-add_only
returns-in_ok-add_only c = λ columns names rows named count had.
    ends-none c.args.self.now c.add_only.new.self c.add_only.ensures.names c.in_ok-add_only.ensures.told columns names rows named
    (sym c.if-rows-eq0.true ∙ count) had

pub returns-else-rows-eq0 : goal.returns-else-rows-eq0
returns-else-rows-eq0 c = λ columns names rows named count had.
    ends-some c.args.self.now _ c.args.rows c.if-rows-eq0.false refl refl refl refl refl columns names rows named count had
