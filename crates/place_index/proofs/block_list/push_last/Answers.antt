use Rattle.std.proofs.Common.{◌≡◌, ◌<◌, ◌-◌, ◌∙◌, ◌++◌, ◌∷◌, suc, length, get_or, set, [], sym, ap, subst, arith}
use Rattle.std.proofs.lemmas.List.{get_or_default}
use Rattle.std.proofs.lemmas.Result.{on_ok_weaker, on_err_weaker}
use Rattle.place_index.specs.Blocks.{IsBlockList, values_of}
use Rattle.place_index.proofs.BlockMaps.{above-block}
use Rattle.place_index.proofs.BlockOrder.{blocks-push, set-back, in-either}
use Rattle.place_index.proofs.block_list.push_last.Goals as goal

pub push-requires : goal.push-requires
push-requires g c =
    let bs = c.args.blocks.now in
    let b = length bs - 1 in
    let lt : b < length bs = omega (arith, c.requires.room.0) in
    let x = get_or bs b c.index-blocks-last.result in
    record { above = above-block c.args.place bs c.requires.valid c.requires.above b lt x (get_or_default bs b c.index-blocks-last.result [] lt) }

pub returns-clause-valid : goal.returns-clause-valid
returns-clause-valid g c =
    let bs = c.args.blocks.now in
    let b = length bs - 1 in
    let last : suc b ≡ length bs = omega (arith, c.requires.room.0) in
    let lt : b < length bs = omega (arith, last) in
    let is = get_or_default bs b c.index-blocks-last.result [] lt in
    in-either c.push.result
    (on_ok_weaker c.push.result
    (λ new. subst IsBlockList (ap (set bs b) (sym (new ∙ ap (λ x. x ++ (c.args.place, c.args.value) ∷ []) is)))
    (blocks-push c.args.place bs c.requires.valid b c.args.value last c.requires.above c.requires.room.1).0) c.push.ensures.pushed)
    (on_err_weaker c.push.result (λ same. subst IsBlockList (sym (ap (set bs b) (same ∙ is) ∙ set-back bs b lt)) c.requires.valid) c.push.ensures.err)

pub returns-clause-ok : goal.returns-clause-ok
returns-clause-ok g c =
    let bs = c.args.blocks.now in
    let b = length bs - 1 in
    let last : suc b ≡ length bs = omega (arith, c.requires.room.0) in
    let lt : b < length bs = omega (arith, last) in
    let is = get_or_default bs b c.index-blocks-last.result [] lt in
    on_ok_weaker c.push.result (λ new.
    ap (λ x. values_of (set bs b x)) (new ∙ ap (λ x. x ++ (c.args.place, c.args.value) ∷ []) is)
    ∙ (blocks-push c.args.place bs c.requires.valid b c.args.value last c.requires.above c.requires.room.1).1) c.push.ensures.pushed
