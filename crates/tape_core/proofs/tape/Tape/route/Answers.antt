use Rattle.std.proofs.Common.{◌≡◌, ◌==◌, nat_le, length, true, false, Some, sym, ap, ◌∙◌, arith, rules}
use Rattle.std.proofs.lemmas.Bool.Decides.{nat_tests}
use Rattle.reports.specs.Messages.{header_of}
use Rattle.tape_core.specs.Standing.{last_number}
use Rattle.tape_core.specs.Tape.{messages_of, lists_symbol, lists_participant, is_in_matrix, refusal}
use Rattle.tape_core.proofs.NamedTargets.{refused, register_change-faults, refusal-of_target, refusal-not_within}
use Rattle.tape_core.proofs.tape.Tape.route.Given.{Over}
use Rattle.tape_core.proofs.tape.Tape.route.Goals.{After-locate}
use Rattle.tape_core.proofs.tape.Tape.route.Goals as goal

-- after all other tests, the register's answer for the target decides
refusal-is : (g : Over) (c : After-locate g) → refused c.locate.result ≡ refusal c.args.self.now c.args.message.now
refusal-is g c =
    let m = c.args.message.now in
    let inside = c.self.inside in
    let unclosed : inside.closed ≡ false = search rules in
    let room : (length inside.entries.items == inside.limit) ≡ false = search rules in
    let listed : lists_participant inside.listing (header_of m).participant ≡ true = search rules in
    let value : c.value.result ≡ (header_of m).number = c.value.ensures.value ∙ ap (λ h. h.number) c.header-header.ensures.header in
    let last : c.last_number.result ≡ last_number (messages_of inside.entries.items) (header_of m).participant =
    c.last_number.ensures.value ∙ c.self.invariant.last_numbers c.header-header.result.participant (omega arith, omega arith)
    ∙ ap (λ h. last_number (messages_of inside.entries.items) h.participant) c.header-header.ensures.header in
    let above : nat_le (header_of m).number (last_number (messages_of inside.entries.items) (header_of m).participant) ≡ false =
    grind (arith, nat_tests, value, last, c.if-value-last_number.false) in
    let known : lists_symbol inside.listing (header_of m).symbol ≡ true = search rules in
    let within : is_in_matrix inside.matrix m ≡ true = search rules in
    ap refused c.locate.ensures.1 ∙ register_change-faults (messages_of inside.entries.items) inside.register c.locate.ensures.0 m c.self.invariant.targets
    ∙ sym (refusal-of_target _ m unclosed room listed above known within) ∙ ap (λ t. refusal t m) c.self.view_is

pub returns-in_err-change-clause-refused : goal.returns-in_err-change-clause-refused
returns-in_err-change-clause-refused g c =
    let is : refusal c.args.self.now c.args.message.now ≡ Some c.in_err-change.field-0.0 =
    sym (refusal-is g (goal.at.returns-in_err-change-clause-refused g c).After-locate) ∙ ap refused c.in_err-change.was in
    search rules

pub returns-then-not-matrix_has-clause-refused : goal.returns-then-not-matrix_has-clause-refused
returns-then-not-matrix_has-clause-refused g c =
    let m = c.args.message.now in
    let inside = c.self.inside in
    let unclosed : inside.closed ≡ false = search rules in
    let room : (length inside.entries.items == inside.limit) ≡ false = search rules in
    let listed : lists_participant inside.listing (header_of m).participant ≡ true = search rules in
    let above
    : nat_le (header_of m).number (last_number (messages_of inside.entries.items) (header_of m).participant) ≡ false = search rules in
    let known : lists_symbol inside.listing (header_of m).symbol ≡ true = search rules in
    let other : is_in_matrix inside.matrix m ≡ false = search rules in
    sym (ap (λ t. refusal t m) c.self.view_is) ∙ refusal-not_within _ m unclosed room listed above known other
