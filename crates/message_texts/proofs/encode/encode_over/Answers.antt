use Rattle.csv_messages.specs.Tables.{IsTable}
use Rattle.message_texts.specs.EncodedTexts.{encoded_text}
use Rattle.message_texts.proofs.EndLemmas.{text_part, text_written}
use Rattle.message_texts.proofs.encode.encode_over.Goals as goal

pub returns-clause-written : goal.returns-clause-written
returns-clause-written g c =
    text_written IsTable encoded_text (g.R.Read.remaining c.args.reader) c.in_ok-messages.messages.items c.deref.result.now c.write_encoded.result
    (g.W.Write.contents c.args.writer.now) (g.W.Write.contents c.write_encoded.new.writer) c.deref.ensures.value c.in_ok-messages.ensures.messages
    c.write_encoded.ensures.written

pub returns-clause-prefix : goal.returns-clause-prefix
returns-clause-prefix g c = λ ended.
    text_part IsTable encoded_text (g.R.Read.remaining c.args.reader) c.in_ok-messages.messages.items c.deref.result.now
    (g.W.Write.contents c.args.writer.now) (g.W.Write.contents c.write_encoded.new.writer) c.deref.ensures.value c.in_ok-messages.ensures.messages
    c.write_encoded.ensures.prefix
