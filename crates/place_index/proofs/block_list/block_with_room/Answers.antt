use Rattle.std.proofs.Common.{◌≡◌, ◌+◌, ◌<◌, ◌≤◌, ◌∙◌, length, get_or, [], sym, ap, subst, arith, add-one}
use Rattle.place_index.specs.Blocks.{BLOCK_MOST, IsBlockList, HasRoomAt, values_of}
use Rattle.place_index.proofs.BlockOrder.{block-is, blocks-split, lower-read, split-lower, split-upper}
use Rattle.place_index.proofs.block_list.block_with_room.Given.{Over}
use Rattle.place_index.proofs.block_list.block_with_room.Goals as goal
use Rattle.place_index.proofs.block_list.block_with_room.Goals.{After-top}

-- the block that is split has two entries or more
long : (g : Over) (c : After-top g) → 1 < length (get_or c.args.blocks.now.items c.args.at [])
long g c =
    let x = c.index-deref-at.result in
    let is = block-is c.args.blocks.now.items c.args.at x (c.index-deref-at.is ∙ ap (λ l. get_or l c.args.at x) c.deref.ensures) c.requires.within in
    omega (arith, ap length is, c.len.ensures, c.if-len-lt-BLOCK_MOST.false)

-- it has no more than a block may have
most : (g : Over) (c : After-top g) → length (get_or c.args.blocks.now.items c.args.at []) ≤ BLOCK_MOST
most g c = (c.requires.valid.sized c.args.at [] c.requires.within).1

-- the blocks after the split are valid, and have the values of before
cut : (g : Over) (c : After-top g) → IsBlockList c.split.new.blocks.items × (values_of c.split.new.blocks.items ≡ values_of c.args.blocks.now.items)
cut g c =
    let done = blocks-split c.args.blocks.now.items c.args.at c.requires.within (long g c) (most g c) c.requires.valid in
    (subst IsBlockList (sym c.in_ok-split.ensures.ok) done.0, ap values_of c.in_ok-split.ensures.ok ∙ done.1)

pub returns-then-value-top-clause-valid : goal.returns-then-value-top-clause-valid
returns-then-value-top-clause-valid g c = (cut g (goal.at.returns-then-value-top-clause-valid g c).After-top).0

pub returns-then-value-top-clause-values : goal.returns-then-value-top-clause-values
returns-then-value-top-clause-values g c = (cut g (goal.at.returns-then-value-top-clause-values g c).After-top).1

pub returns-then-value-top-clause-room : goal.returns-then-value-top-clause-room
returns-then-value-top-clause-room g c =
    let bs = c.args.blocks.now.items in
    let b = c.args.at in
    let lt = c.requires.within in
    let after = (goal.at.returns-then-value-top-clause-room g c).After-top in
    let read = lower-read bs b lt (long g after) (most g after) c.split.new.blocks.items c.index-deref-at-2.result
    (c.index-deref-at-2.is ∙ ap (λ l. get_or l b c.index-deref-at-2.result) c.deref-2.ensures) c.in_ok-split.ensures.ok in
    subst (λ l. HasRoomAt c.args.place l b) (sym c.in_ok-split.ensures.ok)
    (split-lower bs b lt (long g after) (most g after) c.args.place c.requires.block
    (omega (arith, read, c.if-value-top.true, c.value.ensures.value, c.top.ensures)))

pub returns-else-value-top-clause-valid : goal.returns-else-value-top-clause-valid
returns-else-value-top-clause-valid g c = (cut g (goal.at.returns-else-value-top-clause-valid g c).After-top).0

pub returns-else-value-top-clause-values : goal.returns-else-value-top-clause-values
returns-else-value-top-clause-values g c = (cut g (goal.at.returns-else-value-top-clause-values g c).After-top).1

pub returns-else-value-top-clause-room : goal.returns-else-value-top-clause-room
returns-else-value-top-clause-room g c =
    let bs = c.args.blocks.now.items in
    let b = c.args.at in
    let lt = c.requires.within in
    let after = (goal.at.returns-else-value-top-clause-room g c).After-top in
    let read = lower-read bs b lt (long g after) (most g after) c.split.new.blocks.items c.index-deref-at-2.result
    (c.index-deref-at-2.is ∙ ap (λ l. get_or l b c.index-deref-at-2.result) c.deref-2.ensures) c.in_ok-split.ensures.ok in
    subst (λ l. HasRoomAt c.args.place l (b + 1)) (sym c.in_ok-split.ensures.ok)
    (subst (HasRoomAt c.args.place _) (sym (add-one b))
    (split-upper bs b lt (long g after) (most g after) c.args.place c.requires.block
    (omega (arith, read, c.if-value-top.false, c.value.ensures.value, c.top.ensures))))
