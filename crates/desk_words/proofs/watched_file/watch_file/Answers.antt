use Rattle.std.proofs.Common.{rules, ◌≡◌, ◌∙◌, sym}
use Rattle.std.specs.Io.Buffered.{writer_contents}
use Rattle.desk_words.proofs.WatchLemmas.{done_well, whole_kept}
use Rattle.desk_words.proofs.watched_file.watch_file.Goals as goal

pub returns-clause-whole : goal.returns-clause-whole
returns-clause-whole g c = λ done.
    let same : writer_contents g.W.Write.contents c.in-Ok.buffer ≡ g.W.Write.contents c.args.writer = search rules in
    done_well c.unbuffered-ended.result.ended _ (sym c.ended_status-status.ensures ∙ done)
    (whole_kept g.W.Write.contents c.args.terms.day.listing c.args.terms.day.matrix c.args.terms.day.limit c.unbuffered-ended.result.ended _ c.args.writer
    c.unbuffered-ended.result.writer _ _ same c.watch_rows-end.ensures.whole c.unbuffered-ended.ensures.kept c.unbuffered-ended.ensures.done
    c.unbuffered-ended.ensures.some)
