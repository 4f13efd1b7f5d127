use Rattle.std.proofs.Common.{◌<◌, ◌∙◌, arith, length, sym}
use Rattle.corrections.proofs.RegisterRows.{get-seen}
use Rattle.corrections.proofs.register.Register.report.Goals as goal

pub returns : goal.returns
returns c = record {
  report =
      let inside : c.row_index.result < length c.self.inside.rows = omega arith in
      c.get.ensures.value
      ∙ sym (get-seen c.self.inside.rows _ _ c.self.view_is c.args.who c.args.number c.row_index.result c.index-self-row_index.result
      c.row_index.ensures.letter inside);
}
