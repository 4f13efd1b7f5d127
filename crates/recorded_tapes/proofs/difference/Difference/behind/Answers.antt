use Rattle.std.proofs.Common.{◌∙◌, ap, rules, sym}
use Rattle.recorded_tapes.specs.declared.place.TextPlace.{TextPlace}
use Rattle.recorded_tapes.proofs.TextLemmas.{is-difference}
use Rattle.recorded_tapes.proofs.difference.Difference.behind.Goals as goal

pub returns : goal.returns
returns c =
    let common = c.common_front-more.ensures in
    is-difference c.args.recorded.now c.args.behind.now c.rest-left.result.now c.front-common.result.now _ _ c.args.same c.common_front-more.result _
    c.requires.within c.rest-left.ensures common.within.0 common.same (common.apart (λ e. c.requires.other (sym c.rest-left.ensures ∙ e)))
    c.front-common.ensures c.rest.ensures c.rest-2.ensures
    (ap (λ (p : TextPlace). p.line) c.behind-place.ensures.place) (ap (λ (p : TextPlace). p.column) c.behind-place.ensures.place)
    (search rules) (search rules)
