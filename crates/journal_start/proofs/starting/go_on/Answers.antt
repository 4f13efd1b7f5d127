use Rattle.std.proofs.Common.{◌≡◌, ℕ, ap, false, refl, rules, subst}
use Rattle.days.specs.declared.day.Day.{Day}
use Rattle.journal_start.proofs.starting.go_on.Goals as goal

-- the journal is continued behind its whole groups
pub returns-clause-goes : goal.returns-clause-goes
returns-clause-goes g c = λ day has. record {
  header = c.args.header;
  had = c.in_ok-held.field-0;
  begun = has;
  read = rw c.deref.ensures.value at c.in_ok-held.ensures.given;
  groups = subst (λ (session : ℕ). c.new.result ≡ record { session = session; held = c.in_ok-held.field-0.held; digest = c.in_ok-held.field-0.digest; broken = false })
      (ap (λ (d : Day). d.session) has.own) c.new.ensures.state;
  cut_off = search rules;
  cut = c.in_ok-cut_to.ensures.cut;
  past = (search rules, refl, refl, refl);
  is_past = λ none. absurd (cc none);
}
