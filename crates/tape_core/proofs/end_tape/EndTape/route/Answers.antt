use Rattle.std.proofs.Common.{◌≡◌, ◌<◌, length, true, sym, ap, subst, ◌∙◌, arith, rules}
use Rattle.std.proofs.lemmas.Result.{err_from_is_err_and}
use Rattle.tape_types.specs.Ranges.{IsParticipant, TAPE_MOST}
use Rattle.corrections.specs.RegisterState.{last_number_of}
use Rattle.reports.specs.Messages.{header_of}
use Rattle.tape_core.specs.Tape.{is_in_matrix}
use Rattle.tape_core.proofs.NamedTargets.{refused}
use Rattle.tape_core.proofs.EndKeeping.{routed, target-decides}
use Rattle.tape_core.proofs.end_tape.EndTape.route.Goals as goal

pub returns : goal.returns
returns c = λ t keeps lists.
    let e = c.args.self.now in
    let m = c.args.message.now in
    let head = c.header-header.ensures.header in
    let fits : length e.reports.items < TAPE_MOST = omega (arith, c.len-count.ensures, c.if-count.false) in
    let is : IsParticipant (header_of m).participant = subst (λ h. IsParticipant h.participant) head (omega arith, omega arith) in
    let newer : last_number_of e.register (header_of m).participant < (header_of m).number =
    subst (λ h. last_number_of e.register h.participant < h.number) head
    (omega (arith, c.value.ensures.value, c.last_number.ensures.value, c.if-value-last_number.false)) in
    let within : is_in_matrix e.matrix m ≡ true = search rules in
    let decided = target-decides t e keeps m fits is lists newer within c.locate.ensures.0 c.locate.result c.locate.ensures.1 in (
      sym decided ∙ ap refused c.in_ok-change.was,
      routed t e keeps m fits is lists newer c.locate.ensures.0 c.number_after.result c.in_ok-change.change
          (omega (arith, c.number_after.ensures, c.len-count.ensures)) (sym c.locate.ensures.1 ∙ c.in_ok-change.was),
    )

pub returns-in_err-change : goal.returns-in_err-change
returns-in_err-change c = λ t keeps lists.
    let e = c.args.self.now in
    let m = c.args.message.now in
    let head = c.header-header.ensures.header in
    let fits : length e.reports.items < TAPE_MOST = omega (arith, c.len-count.ensures, c.if-count.false) in
    let is : IsParticipant (header_of m).participant = subst (λ h. IsParticipant h.participant) head (omega arith, omega arith) in
    let newer : last_number_of e.register (header_of m).participant < (header_of m).number =
    subst (λ h. last_number_of e.register h.participant < h.number) head
    (omega (arith, c.value.ensures.value, c.last_number.ensures.value, c.if-value-last_number.false)) in
    let within : is_in_matrix e.matrix m ≡ true = search rules in
    let p = err_from_is_err_and c.from_residual.result c.from_residual.ensures.1 in
    rw (p.1, p.2) (sym (target-decides t e keeps m fits is lists newer within c.locate.ensures.0 c.locate.result c.locate.ensures.1) ∙ ap refused c.in_err-change.was)
