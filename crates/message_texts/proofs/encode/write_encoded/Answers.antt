use Rattle.message_texts.proofs.EncodedPrefix.{encoded_part}
use Rattle.message_texts.proofs.WrittenPieces.{nothing_written}
use Rattle.message_texts.specs.EncodedTexts.{encoded_text}
use Rattle.message_texts.proofs.encode.write_encoded.Goals as goal

pub returns-in_err-listing-clause-prefix : goal.returns-in_err-listing-clause-prefix
returns-in_err-listing-clause-prefix g c = nothing_written (encoded_text c.args.messages.now) (g.W.Write.contents c.args.writer.now)

pub returns-in_err-head-clause-prefix : goal.returns-in_err-head-clause-prefix
returns-in_err-head-clause-prefix g c = nothing_written (encoded_text c.args.messages.now) (g.W.Write.contents c.args.writer.now)

pub returns-in_err-write_messages-clause-prefix : goal.returns-in_err-write_messages-clause-prefix
returns-in_err-write_messages-clause-prefix g c =
    encoded_part c.args.messages.now c.in_ok-listing.listing c.in_ok-head.head.items (g.W.Write.contents c.args.writer.now)
    (g.W.Write.contents c.write_messages.new.writer) c.in_ok-listing.ensures.names c.in_ok-head.ensures c.write_messages.ensures.prefix

pub returns-clause-prefix : goal.returns-clause-prefix
returns-clause-prefix g c =
    encoded_part c.args.messages.now c.in_ok-listing.listing c.in_ok-head.head.items (g.W.Write.contents c.args.writer.now)
    (g.W.Write.contents c.write_messages.new.writer) c.in_ok-listing.ensures.names c.in_ok-head.ensures c.write_messages.ensures.prefix
