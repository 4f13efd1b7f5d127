use Rattle.std.proofs.Common.{◌++◌, ◌∷◌, ◌∙◌, [], List, ℕ, ap, append_assoc}
use Rattle.whole_io.proofs.LineLemmas.{HasNoLineFeed-push}
use Rattle.whole_io.proofs.lines.push_without_line_feeds.Goals as goal

pub loop-byte-preserved : goal.loop-byte-preserved
loop-byte-preserved c =
    let so_far = c.loop-byte.invariant in
    let byte = c.without_line_feed.result in (
      so_far.0 ++ byte ∷ [],
      HasNoLineFeed-push so_far.0 byte so_far.1 c.without_line_feed.ensures,
      c.in_ok-push.ensures.items ∙ ap (λ (l : List ℕ). l ++ byte ∷ []) so_far.2 ∙ append_assoc c.args.line.now.items so_far.0 (byte ∷ []),
    )
