use Rattle.std.proofs.Common.{◌≡◌, ◌+◌, ◌++◌, ◌∷◌, [], List, take, ap, ◌∙◌, subst, sym}
use Rattle.std.proofs.lemmas.List.{take_more}
use Rattle.tape_core.specs.declared.entry.Entry.{Entry}
use Rattle.line_ledger.specs.Cursors.{AllStandAt}
use Rattle.line_ledger.proofs.CursorRows.{next}
use Rattle.line_ledger.proofs.ends.compare.Goals as goal

pub loop-entry-preserved : goal.loop-entry-preserved
loop-entry-preserved g c =
    let i = c.loop-entry.entry-index in
    let es = c.args.entries.now in
    let e = c.entry-item.result in
    let more : take (i + 1) es ≡ take i es ++ e ∷ [] = take_more es i e c.loop-entry-test.true ∙ ap (λ x. take i es ++ x ∷ []) (sym c.entry-item.is) in
    subst (λ (l : List Entry). AllStandAt c.pass.new.self.row c.args.seats.now l) (sym more)
    (next c.loop-entry.cursors c.pass.new.self c.args.seats.now (take i es) e c.loop-entry.invariant c.pass.ensures.own c.pass.ensures.others)
