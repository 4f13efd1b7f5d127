use Rattle.csv_messages.specs.TableTexts.{table_text}
use Rattle.message_texts.specs.DecodedTexts.{IsText}
use Rattle.message_texts.proofs.EndLemmas.{text_kept, text_part, text_part-memory, text_written}
use Rattle.message_texts.proofs.decode.decode_over.Goals as goal

pub returns-clause-written : goal.returns-clause-written
returns-clause-written g c =
    text_written IsText table_text (g.R.Read.remaining c.args.reader) c.in_ok-messages.messages.items c.deref.result.now c.write_flushed.result
    (g.W.Write.contents c.args.writer.now) (g.W.Write.contents c.write_flushed.new.writer) c.deref.ensures.value c.in_ok-messages.ensures.messages
    c.write_flushed.ensures.written

pub returns-clause-prefix : goal.returns-clause-prefix
returns-clause-prefix g c = λ ended.
    text_part IsText table_text (g.R.Read.remaining c.args.reader) c.in_ok-messages.messages.items c.deref.result.now
    (g.W.Write.contents c.args.writer.now) (g.W.Write.contents c.write_flushed.new.writer) c.deref.ensures.value c.in_ok-messages.ensures.messages
    c.write_flushed.ensures.prefix

pub returns-clause-memory : goal.returns-clause-memory
returns-clause-memory g c = λ ended.
    text_part-memory IsText table_text (g.R.Read.remaining c.args.reader) c.in_ok-messages.messages.items c.deref.result.now
    (g.W.Write.contents c.args.writer.now) (g.W.Write.contents c.write_flushed.new.writer) c.deref.ensures.value c.in_ok-messages.ensures.messages
    c.write_flushed.ensures.prefix

pub returns-in_err-messages-clause-memory : goal.returns-in_err-messages-clause-memory
returns-in_err-messages-clause-memory g c = λ ended. text_kept IsText table_text (g.R.Read.remaining c.args.reader) (g.W.Write.contents c.args.writer.now)
