use Rattle.std.proofs.Common.{subst}
use Rattle.std.proofs.KnownBytes.{Appends-kept}
use Rattle.std.specs.Io.KnownBytes.{Appends}
use Rattle.whole_io.specs.Lemmas.WriteLemmas.{WritesPrefix-kept, WritesPrefix-whole}
use Rattle.tape_core.specs.Tape.{TapeState}
use Rattle.csv_days.specs.TapeRows.{tape_text, text_from}
use Rattle.csv_days.proofs.EndLemmas.{any_ok}
use Rattle.csv_days.proofs.ListingLemmas.{first-lists}
use Rattle.csv_days.proofs.TapeLemmas.{nothing_written}
use Rattle.csv_days.proofs.tape.write_tape.Goals as goal

pub returns-in_err-day-clause-prefix : goal.returns-in_err-day-clause-prefix
returns-in_err-day-clause-prefix g c = λ _. nothing_written (tape_text c.args.matrix c.args.messages.now) (g.W.Write.contents c.args.writer.now)

pub returns-in_err-head-clause-prefix : goal.returns-in_err-head-clause-prefix
returns-in_err-head-clause-prefix g c = λ _. nothing_written (tape_text c.args.matrix c.args.messages.now) (g.W.Write.contents c.args.writer.now)

pub returns-clause-written : goal.returns-clause-written
returns-clause-written g c =
    let old = g.W.Write.contents c.args.writer.now in
    let mid = g.W.Write.contents c.write_rows.new.writer in
    let text = tape_text c.args.matrix c.args.messages.now in
    any_ok c.flushed.result _
    (Appends-kept old mid (g.W.Write.contents c.flushed.new.writer) text
    (subst (λ (t : TapeState). Appends old mid (text_from t c.args.messages.now)) c.in_ok-day.ensures.day.tape c.in_ok-write_rows.ensures.written)
    c.flushed.ensures.kept)

pub returns-clause-prefix : goal.returns-clause-prefix
returns-clause-prefix g c = λ _.
    let old = g.W.Write.contents c.args.writer.now in
    let mid = g.W.Write.contents c.write_rows.new.writer in
    let text = tape_text c.args.matrix c.args.messages.now in
    WritesPrefix-kept text old mid (g.W.Write.contents c.flushed.new.writer)
    (WritesPrefix-whole text old mid
    (subst (λ (t : TapeState). Appends old mid (text_from t c.args.messages.now)) c.in_ok-day.ensures.day.tape c.in_ok-write_rows.ensures.written))
    c.flushed.ensures.kept

pub write_rows-requires-clause-listed : goal.write_rows-requires-clause-listed
write_rows-requires-clause-listed g c = rw c.in_ok-day.ensures.day.tape (first-lists c.args.matrix c.args.messages.now)
