use Rattle.std.proofs.Common.{◌≡◌, ◌<◌, ℕ, length, MatchOption, Option, Some, None, sym, subst, ◌∙◌, arith}
use Rattle.std.specs.FinMap as map
use Rattle.tape_types.specs.Lemmas.RisingEntries.{keyed-get}
use Rattle.corrections.specs.declared.target.Target.{Target}
use Rattle.corrections.specs.RegisterState.{targets_of}
use Rattle.corrections.proofs.RegisterRows.{get-seen}
use Rattle.corrections.proofs.register.Register.held_near.Goals as goal

pub returns-in_err-index-clause-held : goal.returns-in_err-index-clause-held
returns-in_err-index-clause-held c =
    let inside : c.row_index.result < length c.self.inside.rows = omega arith in
    let named = map.get (targets_of c.args.self.now) (c.args.who, c.args.target) in
    subst (λ (found : Option (ℕ × Target)). MatchOption found (named ≡ None) (λ report. named ≡ Some report.1)) (sym c.from_residual.ensures)
    (get-seen c.self.inside.rows _ _ c.self.view_is c.args.who c.args.target c.row_index.result c.index-self-row_index.result c.row_index.ensures.letter inside
    ∙ c.in_err-index.ensures.position)

pub returns-clause-held : goal.returns-clause-held
returns-clause-held c =
    let inside : c.row_index.result < length c.self.inside.rows = omega arith in
    get-seen c.self.inside.rows _ _ c.self.view_is c.args.who c.args.target c.row_index.result c.index-self-row_index.result c.row_index.ensures.letter inside
    ∙ keyed-get (λ n. n) c.entries.result.now _ c.entries.ensures.entries c.args.target c.in_ok-index.index c.in_ok-index.ensures.position
    c.index-entries-index.result
