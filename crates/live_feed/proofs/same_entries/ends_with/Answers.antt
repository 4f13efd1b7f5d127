use Rattle.std.proofs.Common.{◌≡◌, ◌+◌, ◌∙◌, arith, drop, get_or, get_or-drop, inl, inr, length-drop, rules, subst, sym}
use Rattle.std.proofs.lemmas.Bool.{cases_lt}
use Rattle.std.proofs.lemmas.List.{get_or_default, same_lists}
use Rattle.tape_core.specs.declared.entry.Entry.{Entry}
use Rattle.live_feed.proofs.Following.{found_at}
use Rattle.live_feed.proofs.same_entries.ends_with.Goals as goal

-- one entry more is found
pub loop-at-preserved : goal.loop-at-preserved
loop-at-preserved g c = λ i d less.
    let list = g.S.Source.list c.args.source.now in
    let at = c.loop-at.at in
    let e = c.index-entries-at.result in
    elim (cases_lt i at) [
      | inl before ↦ c.loop-at.invariant i d before
      | inr here ↦
          let same : i ≡ at = omega (arith, here, less) in
          let is : e ≡ get_or c.args.entries.now at e = c.index-entries-at.is in
          let found : get_or list (c.args.before + at) d ≡ e = found_at list c.args.before at e d (c.has_entry.ensures (search rules)) in
          let own : get_or c.args.entries.now at d ≡ e = sym (is ∙ get_or_default c.args.entries.now at e d c.loop-at-test.true) in
          subst (λ k. get_or list (c.args.before + k) d ≡ get_or c.args.entries.now k d) (sym same) (found ∙ sym own)
    ]

-- all are found, and there are no others
pub returns : goal.returns
returns g c = λ _.
    let list = g.S.Source.list c.args.source.now in
    same_lists (drop c.args.before list) c.args.entries.now (omega (arith, length-drop {A = Entry} c.args.before list, c.requires)) (λ k d less.
    get_or-drop c.args.before list k d
    ∙ c.loop-at.invariant k d (omega (arith, length-drop {A = Entry} c.args.before list, c.requires, c.loop-at-test.false, less)))
