use Rattle.std.proofs.Common.{rules, ◌≡◌, [], ◌∷◌, subst, slice_get, Some, arith}
use Rattle.std.proofs.lemmas.Option.{slice_get_within}
use Rattle.line_ledger.specs.Ends.{told_entry}
use Rattle.line_ledger.proofs.Cursors.{passed_on, passed_told, passed_first}
use Rattle.line_ledger.proofs.cursor.Cursor.pass.Goals as goal

pub returns-then-self : goal.returns-then-self
returns-then-self c = λ told entries at. (at.0, passed_on told entries (told_entry c.args.entry.now ∷ []) c.args.self.at c.args.self.differs at.1 c.if-self.true)

pub overflow_add-result : goal.overflow_add-result
overflow_add-result c =
    let here : slice_get c.args.self.told.now c.args.self.at ≡ Some (told_entry c.args.entry.now) = search rules in
    omega (arith, slice_get_within c.args.self.told.now c.args.self.at (told_entry c.args.entry.now) here)

pub returns-then-tells : goal.returns-then-tells
returns-then-tells c = λ told entries at.
    let here : slice_get c.args.self.told.now c.args.self.at ≡ Some (told_entry c.args.entry.now) = search rules in (
      at.0,
      passed_told told entries (told_entry c.args.entry.now) c.args.self.at c.args.self.differs at.1 c.if-self.false
          (subst (λ l. slice_get l c.args.self.at ≡ Some (told_entry c.args.entry.now)) at.0 here),
    )

pub returns-else-tells : goal.returns-else-tells
returns-else-tells c = λ told entries at.
    let other : slice_get c.args.self.told.now c.args.self.at ≡ Some (told_entry c.args.entry.now) → ⊥ = search rules in (
      at.0,
      passed_first told entries (told_entry c.args.entry.now) c.args.self.at c.args.self.differs at.1 c.if-self.false
          (subst (λ l. slice_get l c.args.self.at ≡ Some (told_entry c.args.entry.now) → ⊥) at.0 other),
    )
