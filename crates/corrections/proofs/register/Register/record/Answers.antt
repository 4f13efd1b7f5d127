use Rattle.std.proofs.Common.{◌<◌, length, ap, sym, ◌∙◌, arith}
use Rattle.std.specs.FinMap as map
use Rattle.std.proofs.lemmas.Result.{on_ok_weaker}
use Rattle.corrections.specs.RegisterState.{targets_of}
use Rattle.corrections.specs.Targets.{standing_target}
use Rattle.corrections.proofs.RegisterRows.{get-seen, targets-insert}
use Rattle.corrections.proofs.register.Register.record.Goals as goal

pub insert-requires : goal.insert-requires
insert-requires c =
    let inside : c.row_index.result < length c.self.inside.rows = omega arith in
    record {
      vacant = sym (get-seen c.self.inside.rows _ _ c.self.view_is c.args.who c.args.number c.row_index.result c.index-self-row_index.result
          c.row_index.ensures.letter inside) ∙ c.requires.vacant;
    }

pub returns-clause-ok : goal.returns-clause-ok
returns-clause-ok c =
    let inside : c.row_index.result < length c.self.inside.rows = omega arith in
    on_ok_weaker c.insert.result (λ is.
    targets-insert c.self.inside.rows c.args.who c.args.number c.row_index.result c.index-self-row_index.result c.insert.new.self
    (standing_target c.args.symbol c.args.place c.args.content.now) c.row_index.ensures.letter inside is
    ∙ ap (λ r. map.insert (targets_of r) (c.args.who, c.args.number) (standing_target c.args.symbol c.args.place c.args.content.now)) c.self.view_is) c.insert.ensures.ok
