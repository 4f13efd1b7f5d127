use Rattle.std.proofs.Common.{rules, ◌≡◌}
use Rattle.std.specs.Io.Buffered.{writer_contents}
use Rattle.desk_words.proofs.WatchLemmas.{whole_kept}
use Rattle.desk_words.proofs.watching.watch_buffered.Goals as goal

pub returns-clause-whole : goal.returns-clause-whole
returns-clause-whole g c =
    let same : writer_contents g.W.Write.contents c.in-Ok.buffer ≡ g.W.Write.contents c.args.writer = search rules in
    whole_kept g.W.Write.contents c.args.day.terms.day.listing c.args.day.terms.day.matrix c.args.day.terms.day.limit c.unbuffered.result.ended _ c.args.writer
    c.unbuffered.result.writer _ _ same c.watch_day-ended.ensures.whole c.unbuffered.ensures.kept c.unbuffered.ensures.done c.unbuffered.ensures.some
