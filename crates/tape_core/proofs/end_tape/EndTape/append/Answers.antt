use Rattle.std.proofs.Common.{◌+◌, ◌∷◌, ◌++◌, [], ◌==◌, if◌then◌else◌, length, slice_index, refl, sym, ap, subst, ◌∙◌}
use Rattle.tape_types.specs.Ranges.{row_index}
use Rattle.corrections.specs.RegisterState.{targets_of}
use Rattle.corrections.specs.TargetRows.{targets_of_rows}
use Rattle.tape_core.specs.Changes.{targets_after}
use Rattle.tape_core.specs.Ending.{CanNote}
use Rattle.tape_core.proofs.EndKeeping.{KeepsEnd-next, can-note}
use Rattle.tape_core.proofs.end_tape.EndTape.append.Goals as goal

pub note_change-requires : goal.note_change-requires
note_change-requires c =
    let r = c.requires.routed in
    subst (λ h. CanNote (targets_of c.args.self.now.register) h c.args.route.change) (sym c.header-header.ensures.header)
    (can-note r.0 _ r.1 c.args.message.now r.2 c.args.route r.3)

pub returns-clause-ok : goal.returns-clause-ok
returns-clause-ok c = λ t keeps none is.
    let head = c.header-header.ensures.header in
    let made = c.in_ok-note_change.ensures in
    KeepsEnd-next t _ keeps c.args.message.now none c.args.route is _ refl
    (ap targets_of_rows c.advance.ensures.rows ∙ made.targets
    ∙ ap (λ h. targets_after (targets_of c.args.self.now.register) c.args.route.number h c.args.route.change) head)
    (λ other of. c.advance.ensures.last_numbers other of
    ∙ (λ i. if other == (head i).participant then (head i).number else slice_index (made.last_numbers i) (row_index other)))
    (c.push_reserved.ensures.items ∙ (λ i. c.in_ok-reserve.ensures.items i ++ c.sent_of.ensures (length t.entries + 1) i ∷ []))
