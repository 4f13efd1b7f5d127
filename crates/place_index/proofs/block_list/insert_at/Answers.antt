use Rattle.std.proofs.Common.{[], get_or}
use Rattle.std.proofs.lemmas.List.{get_or_default}
use Rattle.place_index.proofs.BlockMaps.{insert-in_block, vacant-in_block}
use Rattle.place_index.proofs.block_list.insert_at.Goals as goal

pub insert-requires : goal.insert-requires
insert-requires g c =
    let bs = c.args.blocks.now in
    let b = c.args.at in
    let room = c.requires.room in
    let x = get_or bs b c.index-blocks-at.result in
    let is = get_or_default bs b c.index-blocks-at.result [] room.within in
    record { vacant = vacant-in_block c.args.place bs c.requires.valid b room.block room.within x x is c.requires.vacant }

pub returns-clause-valid : goal.returns-clause-valid
returns-clause-valid g c =
    let bs = c.args.blocks.now in
    let b = c.args.at in
    let room = c.requires.room in
    let x = get_or bs b c.index-blocks-at.result in
    let is = get_or_default bs b c.index-blocks-at.result [] room.within in
    (insert-in_block c.args.place bs c.requires.valid b room.block room.within x c.insert.new.self is c.insert.result c.args.value c.requires.vacant room.room
    c.insert.ensures.placed c.insert.ensures.err).0

pub returns-clause-ok : goal.returns-clause-ok
returns-clause-ok g c =
    let bs = c.args.blocks.now in
    let b = c.args.at in
    let room = c.requires.room in
    let x = get_or bs b c.index-blocks-at.result in
    let is = get_or_default bs b c.index-blocks-at.result [] room.within in
    (insert-in_block c.args.place bs c.requires.valid b room.block room.within x c.insert.new.self is c.insert.result c.args.value c.requires.vacant room.room
    c.insert.ensures.placed c.insert.ensures.err).1
