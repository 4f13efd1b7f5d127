use Rattle.std.proofs.Common.{inr}
use Rattle.desk_words.proofs.WatchLemmas.{of_well, on_well, tape_part, tape_whole}
use Rattle.desk_words.proofs.watching.watch_day.Goals as goal

pub returns-clause-whole : goal.returns-clause-whole
returns-clause-whole g c = on_well c.flushed-ended.result _ (λ well.
    tape_whole c.args.day.terms.day.listing c.args.day.terms.day.matrix c.args.day.terms.day.limit (g.W.Write.contents c.args.writer) (g.W.Write.contents c.write_head.new.writer)
    (g.W.Write.contents c.follow_tape-ended.result.1.writer) (g.W.Write.contents c.flushed-ended.new.writer)
    c.in_default-write_head.ensures.written (of_well _ _ (c.flushed-ended.ensures.done well) c.follow_tape-ended.ensures.given) c.flushed-ended.ensures.kept)

pub returns-clause-part : goal.returns-clause-part
returns-clause-part g c = inr (
    tape_part c.args.day.terms.day.listing c.args.day.terms.day.matrix c.args.day.terms.day.limit (g.W.Write.contents c.args.writer) (g.W.Write.contents c.write_head.new.writer)
    (g.W.Write.contents c.follow_tape-ended.result.1.writer) (g.W.Write.contents c.flushed-ended.new.writer)
    c.in_default-write_head.ensures.written c.follow_tape-ended.ensures.part c.flushed-ended.ensures.kept)
