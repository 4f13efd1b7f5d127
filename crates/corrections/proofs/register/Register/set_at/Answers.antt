use Rattle.std.proofs.Common.{◌<◌, length, get_or, ap, sym, ◌∙◌, subst, arith}
use Rattle.std.specs.FinMap as map
use Rattle.tape_types.specs.RisingEntries.{StandsIn}
use Rattle.corrections.specs.RegisterState.{targets_of}
use Rattle.corrections.specs.TargetRows.{ReportRow}
use Rattle.corrections.proofs.RegisterRows.{row-seen, targets-insert}
use Rattle.corrections.proofs.register.Register.set_at.Goals.{After-index-self-row_index}
use Rattle.corrections.proofs.register.Register.set_at.Goals as goal

-- the key's entry stands at this index of the row that is changed
stands : (c : After-index-self-row_index)
    → StandsIn c.args.target (map.entries (get_or c.self.inside.rows c.row_index.result c.index-self-row_index.result).values) c.args.index
stands c =
    let inside : c.row_index.result < length c.self.inside.rows = omega arith in
    subst (λ (row : ReportRow). StandsIn c.args.target (map.entries row.values) c.args.index)
    (row-seen c.self.inside.rows _ _ c.self.view_is c.args.who c.row_index.result c.index-self-row_index.result c.row_index.ensures.index inside)
    c.requires.index

pub set_at-requires : goal.set_at-requires
set_at-requires c =
    record { within = subst (λ n. c.args.index < n) (sym (map.len-entries _)) (stands (goal.at.set_at-requires c).After-index-self-row_index).within }

pub returns-clause-set : goal.returns-clause-set
returns-clause-set c =
    let inside : c.row_index.result < length c.self.inside.rows = omega arith in
    targets-insert c.self.inside.rows c.args.who c.args.target c.row_index.result c.index-self-row_index.result c.set_at.new.self c.args.report
    c.row_index.ensures.letter inside (c.set_at.ensures.changed c.args.target (stands (goal.at.returns-clause-set c).After-index-self-row_index))
    ∙ ap (λ r. map.insert (targets_of r) (c.args.who, c.args.target) c.args.report) c.self.view_is
