use Rattle.std.proofs.Common.{inr}
use Rattle.desk_words.proofs.WatchLemmas.{ended_well, on_well, tape_part, tape_whole}
use Rattle.desk_words.proofs.watched_file.watch_rows.Goals as goal

pub returns-clause-whole : goal.returns-clause-whole
returns-clause-whole g c = on_well c.flushed-ended.result _ (λ well.
    tape_whole c.args.terms.day.listing c.args.terms.day.matrix c.args.terms.day.limit (g.W.Write.contents c.args.writer) (g.W.Write.contents c.write_head.new.writer)
    (g.W.Write.contents c.follow_tape_day-sink.result.1.writer) (g.W.Write.contents c.flushed-ended.new.writer)
    c.in_default.ensures.written
    (ended_well _ _ _ c.outcome.ensures.fault (c.flushed-ended.ensures.done well) c.follow_tape_day-sink.ensures.given) c.flushed-ended.ensures.kept)

pub returns-clause-part : goal.returns-clause-part
returns-clause-part g c = inr (
    tape_part c.args.terms.day.listing c.args.terms.day.matrix c.args.terms.day.limit (g.W.Write.contents c.args.writer) (g.W.Write.contents c.write_head.new.writer)
    (g.W.Write.contents c.follow_tape_day-sink.result.1.writer) (g.W.Write.contents c.flushed-ended.new.writer)
    c.in_default.ensures.written c.follow_tape_day-sink.ensures.part c.flushed-ended.ensures.kept)
