use Rattle.std.proofs.Common.{◌≡◌, ◌<◌, ◌≤◌, ◌∙◌, [], get_or, length, set, sym, ap, subst}
use Rattle.std.specs.FinMap as map
use Rattle.std.proofs.lemmas.List.{get_or_default, nil_from_length}
use Rattle.place_index.specs.Blocks.{joined, values_in, values_of}
use Rattle.place_index.proofs.BlockMaps.{found-in_block, removed-in_block}
use Rattle.place_index.proofs.BlockOrder.{blocks-drop, blocks-left, get-set}
use Rattle.place_index.proofs.block_list.remove_at.Given.{Over}
use Rattle.place_index.proofs.block_list.remove_at.Goals as goal
use Rattle.place_index.proofs.block_list.remove_at.Goals.{After-remove}
use Rattle.tape_types.specs.RisingEntries.{HasRisingKeys}

-- what the removal leaves in the list, with the block as it is then
done : (g : Over) (c : After-remove g) → let bs = c.args.blocks.now in let b = c.args.at in let y = c.remove.new.self in
    HasRisingKeys (joined (set bs b y))
    × ((values_of (set bs b y) ≡ map.remove (values_of bs) c.args.place) × (length y ≤ length (get_or bs b [])))
done g c =
    let bs = c.args.blocks.now in
    let b = c.args.at in
    let d = c.index-blocks-at.result in
    removed-in_block c.args.place bs c.requires.valid b c.requires.block c.requires.within (get_or bs b d) c.remove.new.self
    (get_or_default bs b d [] c.requires.within) c.remove.result c.remove.ensures.value c.remove.ensures.absent c.remove.ensures.taken

pub returns-clause-value : goal.returns-clause-value
returns-clause-value g c =
    let bs = c.args.blocks.now in
    let b = c.args.at in
    let is = get_or_default bs b c.index-blocks-at.result [] c.requires.within in
    c.remove.ensures.value ∙ ap (λ x. map.get (values_in x) c.args.place) is
    ∙ sym (found-in_block c.args.place bs c.requires.valid b c.requires.block c.requires.within)

pub returns-clause-removed : goal.returns-clause-removed
returns-clause-removed g c = (done g (goal.at.returns-clause-removed g c).After-remove).1.0

pub returns-clause-left : goal.returns-clause-left
returns-clause-left g c = λ some.
    let bs = c.args.blocks.now in
    let after = done g (goal.at.returns-clause-left g c).After-remove in
    blocks-left bs c.args.at c.remove.new.self c.requires.valid c.requires.within after.0
    (subst (λ x. 0 < length x) (get-set bs c.args.at c.remove.new.self [] c.requires.within) some) after.1.1

pub returns-clause-emptied : goal.returns-clause-emptied
returns-clause-emptied g c = λ none.
    let bs = c.args.blocks.now in
    let y = c.remove.new.self in
    let after = done g (goal.at.returns-clause-emptied g c).After-remove in
    blocks-drop bs c.args.at y c.requires.valid c.requires.within after.0
    (nil_from_length y (sym (ap length (get-set bs c.args.at y [] c.requires.within)) ∙ none))
