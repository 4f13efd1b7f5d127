use Rattle.std.proofs.Common.{Ok, sym, ap, ◌∙◌}
use Rattle.corrections.specs.Targets.{located_report}
use Rattle.tape_core.specs.Changes.{change_at}
use Rattle.tape_core.specs.Targets.{answered_change, register_change}
use Rattle.tape_core.specs.declared.change.Change.TheVariants as make
use Rattle.tape_core.proofs.targets.locate.Goals as goal

pub returns-in_ok-located-in-Cancel : goal.returns-in_ok-located-in-Cancel
returns-in_ok-located-in-Cancel c =
    let located = c.in_ok-located-in-Cancel.located in (
      located.index,
      ap (λ named. Ok (make.Cancel named)) c.named_at.ensures
          ∙ ap (answered_change (change_at (λ named latest. make.Cancel named) c.in-Cancel.target located.index))
          (sym (ap located_report c.in_ok-located-in-Cancel.was) ∙ c.standing_report.ensures)
          ∙ ap (λ m. register_change c.args.register.now m located.index) (sym c.in-Cancel.is),
    )

pub returns-in_ok-located-in-Correct : goal.returns-in_ok-located-in-Correct
returns-in_ok-located-in-Correct c =
    let located = c.in_ok-located-in-Correct.located in (
      located.index,
      ap (λ named. Ok (make.Correct named c.in-Correct.content)) c.named_at-in-Correct.ensures
          ∙ ap (answered_change (change_at (λ named latest. make.Correct named c.in-Correct.content) c.in-Correct.target located.index))
          (sym (ap located_report c.in_ok-located-in-Correct.was) ∙ c.standing_report-in-Correct.ensures)
          ∙ ap (λ m. register_change c.args.register.now m located.index) (sym c.in-Correct.is),
    )

pub returns-in_ok-located-in-Reinstate : goal.returns-in_ok-located-in-Reinstate
returns-in_ok-located-in-Reinstate c =
    let located = c.in_ok-located-in-Reinstate.located in (
      located.index,
      ap (λ named. Ok (make.Reinstate named located.content)) c.named_at-in-Reinstate.ensures
          ∙ ap (answered_change (change_at (λ named latest. make.Reinstate named latest) c.in-Reinstate.target located.index))
          (sym (ap located_report c.in_ok-located-in-Reinstate.was) ∙ c.cancelled_report.ensures)
          ∙ ap (λ m. register_change c.args.register.now m located.index) (sym c.in-Reinstate.is),
    )
