use Rattle.std.proofs.Common.{rules, ◌≡◌, ◌+◌, ◌++◌, [], ◌∷◌, ℕ, length, subst, ap, ◌∙◌, arith}
use Rattle.tape_core.specs.declared.entry.Entry.{Entry}
use Rattle.tape_frames.specs.PacketEntries.{Carries, HasNoLaterPlaces}
use Rattle.line_ledger.specs.Cells.{TokenState}
use Rattle.line_ledger.proofs.Pushes.{first_push, published_push}
use Rattle.line_ledger.proofs.published.Published.look_on.Goals as goal

-- one more token, whose entry follows
pub invariant_of-self-2 : goal.invariant_of-self-2
invariant_of-self-2 g c =
    let found = c.self.inside.found.items in
    let token = c.in-Some.token in
    let pushed : c.push.new.self.items ≡ found ++ token ∷ [] =
    c.in_ok-push.ensures.items ∙ ap (λ (t : TokenState). found ++ t ∷ []) c.into_sighting.ensures.same in
    let number : token.number ≡ length found + 1 = omega (arith, c.self.invariant.0, c.in-Some.ensures.token.0) in
    let numbered : (c.entry.result.number ≡ token.number) × Carries c.entry.result × HasNoLaterPlaces c.entry.result =
    subst (λ (n : ℕ). (c.entry.result.number ≡ n) × Carries c.entry.result × HasNoLaterPlaces c.entry.result) c.number.ensures.number
    (c.can_follow.ensures.0 c.if-not-can_follow.false) in
    let follows : (token.entry.number ≡ token.number) × Carries token.entry × HasNoLaterPlaces token.entry =
    subst (λ (e : Entry). (e.number ≡ token.number) × Carries e × HasNoLaterPlaces e) c.entry.ensures.entry numbered in (
      search rules,
      first_push c.self.inside.shared.now found c.push.new.self.items token c.self.invariant.1 number c.in-Some.ensures.token.1 pushed,
      published_push found c.push.new.self.items token c.self.invariant.2 follows.0 number follows.1 follows.2 pushed,
    )
