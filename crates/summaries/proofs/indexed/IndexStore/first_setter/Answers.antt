use Rattle.std.proofs.Common.{ap, subst, sym, ◌∙◌}
use Rattle.std.specs.Prelude.{T}
use Rattle.std.proofs.lemmas.Map.Keys.{ge_from_not_lt}
use Rattle.tape_types.specs.Lemmas.RisingEntries.{lt_from}
use Rattle.summaries.specs.Effects.{Effects, Change}
use Rattle.summaries.proofs.Ends.{setter_conditional, setter_always, setter_both_always, setter_both_conditional}
use Rattle.summaries.proofs.indexed.IndexStore.first_setter.Goals as goal

pub returns-in_default-clause-first : goal.returns-in_default-clause-first
returns-in_default-clause-first c =
    let settled = ap (λ (v : Effects × Change). v.1) c.self.view_is ∙ c.requires.settled in
    rw (← c.self.view_is) (setter_conditional c.self.inside.effects c.self.inside.staged settled c.self.inside.always c.self.inside.setters
    c.self.invariant.always_are c.self.invariant.setters_are c.in_default.ensures.first _ c.first-in_default.ensures.first)

pub returns-in_default-first-clause-first : goal.returns-in_default-first-clause-first
returns-in_default-first-clause-first c =
    let settled = ap (λ (v : Effects × Change). v.1) c.self.view_is ∙ c.requires.settled in
    rw (← c.self.view_is) (setter_always c.self.inside.effects c.self.inside.staged settled c.self.inside.always c.self.inside.setters
    c.self.invariant.always_are c.self.invariant.setters_are c.in-Some.always c.in-Some.ensures.first c.in_default-first.ensures.first)

pub returns-then-lt-clause-first : goal.returns-then-lt-clause-first
returns-then-lt-clause-first c =
    let settled = ap (λ (v : Effects × Change). v.1) c.self.view_is ∙ c.requires.settled in
    rw (← c.self.view_is) (setter_both_conditional c.self.inside.effects c.self.inside.staged settled c.self.inside.always c.self.inside.setters
    c.self.invariant.always_are c.self.invariant.setters_are c.in-Some.always c.in-Some-first.conditional c.in-Some.ensures.first c.in-Some-first.ensures.first
    (lt_from c.in-Some-first.conditional c.in-Some.always (subst T (sym c.if-lt.true ∙ c.lt.ensures) tt)))

pub returns-else-lt-clause-first : goal.returns-else-lt-clause-first
returns-else-lt-clause-first c =
    let settled = ap (λ (v : Effects × Change). v.1) c.self.view_is ∙ c.requires.settled in
    rw (← c.self.view_is) (setter_both_always c.self.inside.effects c.self.inside.staged settled c.self.inside.always c.self.inside.setters
    c.self.invariant.always_are c.self.invariant.setters_are c.in-Some.always c.in-Some-first.conditional c.in-Some.ensures.first c.in-Some-first.ensures.first
    (ge_from_not_lt c.in-Some-first.conditional c.in-Some.always (sym c.lt.ensures ∙ c.if-lt.false)))
