use Rattle.std.proofs.Common.{◌≡◌, ◌∙◌, length, get_or, drop, [], ap, refl, add-one, length-set}
use Rattle.std.proofs.lemmas.List.{take_at}
use Rattle.place_index.proofs.BlockOrder.{block-is, one-inserted}
use Rattle.place_index.proofs.block_list.split.Goals as goal

pub returns-clause-ok : goal.returns-clause-ok
returns-clause-ok g c =
    let bs = c.args.blocks.now.items in
    let b = c.args.at in
    let x1 = c.index-deref-at.result in
    let x2 = c.index-deref-at-2.result in
    let is1 = block-is bs b x1 (c.index-deref-at.is ∙ ap (λ l. get_or l b x1) c.deref.ensures) c.requires in
    let is2 = block-is bs b x2 (c.index-deref-at-2.is ∙ ap (λ l. get_or l b x2) c.deref-2.ensures) c.requires in
    let count : c.len-half.result ≡ length (get_or bs b []) = c.len-half.ensures ∙ ap length is1 in
    let new = c.insert.new.self.items in
    let ws = c.shorten.new.blocks in
    let size : length ws ≡ length new = ap length c.shorten.ensures ∙ length-set c.as_mut_slice.result.now _ _ ∙ ap length c.as_mut_slice.ensures.value in
    take_at ws (drop (length ws) new) (length new) size
    ∙ rw (
      c.shorten.ensures,
      c.as_mut_slice.ensures.value,
      c.in_ok-insert.ensures.ok,
      one-inserted bs b c.in_ok-upper.upper c.requires,
      c.in_ok-upper.ensures,
      is2,
      add-one b,
      count,
    ) refl
