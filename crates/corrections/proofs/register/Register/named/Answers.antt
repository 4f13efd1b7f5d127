use Rattle.std.proofs.Common.{◌≡◌, ◌<◌, cond, length, get_or, Some, Ok, Err, ap, sym, ◌∙◌, arith}
use Rattle.std.specs.FinMap as map
use Rattle.std.proofs.lemmas.Option.{MatchOption-at_none}
use Rattle.corrections.specs.declared.target_fault.TargetFault.TheVariants.{OtherSymbol}
use Rattle.corrections.specs.RegisterState.{targets_of}
use Rattle.corrections.specs.Targets.{named_answer}
use Rattle.corrections.proofs.RegisterRows.{get-seen}
use Rattle.corrections.proofs.register.Register.named.Goals.{After-ne}
use Rattle.corrections.proofs.register.Register.named.Goals as goal
use Rattle.tape_types.specs.Lemmas.RisingEntries.{keyed-get}

-- the target's key names the report that was read
there : (c : After-ne) → map.get (targets_of c.args.self.now) (c.args.who, c.args.target)
    ≡ Some (get_or c.entries.result.now c.in-Some.index c.index-entries-index.result).1
there c =
    let inside : c.row_index.result < length c.self.inside.rows = omega arith in
    get-seen c.self.inside.rows _ _ c.self.view_is c.args.who c.args.target c.row_index.result c.index-self-row_index.result c.row_index.ensures.letter inside
    ∙ keyed-get (λ n. n) c.entries.result.now _ c.entries.ensures.entries c.args.target c.in-Some.index c.in-Some.ensures.position
    c.index-entries-index.result

pub returns-in_default-clause-answer : goal.returns-in_default-clause-answer
returns-in_default-clause-answer c =
    let inside : c.row_index.result < length c.self.inside.rows = omega arith in
    let none = MatchOption-at_none _ _ c.in_default.is c.position.ensures.position in
    sym (ap (named_answer c.args.symbol)
    (get-seen c.self.inside.rows _ _ c.self.view_is c.args.who c.args.target c.row_index.result c.index-self-row_index.result c.row_index.ensures.letter inside
    ∙ none))

pub returns-then-ne-clause-answer : goal.returns-then-ne-clause-answer
returns-then-ne-clause-answer c =
    let t = (get_or c.entries.result.now c.in-Some.index c.index-entries-index.result).1 in
    ap (λ b. cond b (Err OtherSymbol) (Ok (t.standing, (t.place, t.content)))) (sym c.if-ne.true ∙ c.ne.ensures)
    ∙ ap (named_answer c.args.symbol) (sym (there (goal.at.returns-then-ne-clause-answer c).After-ne))

pub returns-clause-answer : goal.returns-clause-answer
returns-clause-answer c =
    let t = (get_or c.entries.result.now c.in-Some.index c.index-entries-index.result).1 in
    ap (λ b. cond b (Err OtherSymbol) (Ok (t.standing, (t.place, t.content)))) (sym c.if-ne.false ∙ c.ne.ensures)
    ∙ ap (named_answer c.args.symbol) (sym (there (goal.at.returns-clause-answer c).After-ne))
