use Rattle.std.proofs.Common.{Ok, ap, rules}
use Rattle.message_texts.proofs.DecodeLemmas.{has_header, header_wrong, text_read, text_wrong}
use Rattle.message_texts.proofs.decode.text_messages.Goals as goal

pub returns-clause-messages : goal.returns-clause-messages
returns-clause-messages g c =
    let remaining = g.B.Read.remaining in
    let header = has_header (remaining c.args.reader.now) (remaining c.next_line.new.reader) (remaining c.next_line-2.new.reader) _ _
    c.next_line.new.line.items c.next_line-2.new.line.items c.in_ok-next_line.ensures.took (λ e. c.in_ok-next_line.ensures.end (ap Ok e))
    c.in_ok-next_line-2.ensures.took (λ e. c.in_ok-next_line-2.ensures.end (ap Ok e)) in
    text_read (λ messages. messages.items) _ _ _ _ c.messages_left.result header
    (rw (c.deref.ensures.value, c.deref-2.ensures.value) at c.in_ok-check_header.ensures.ok) c.messages_left.ensures.messages

pub returns-clause-end : goal.returns-clause-end
returns-clause-end g c =
    let remaining = g.B.Read.remaining in
    let header = has_header (remaining c.args.reader.now) (remaining c.next_line.new.reader) (remaining c.next_line-2.new.reader) _ _
    c.next_line.new.line.items c.next_line-2.new.line.items c.in_ok-next_line.ensures.took (λ e. c.in_ok-next_line.ensures.end (ap Ok e))
    c.in_ok-next_line-2.ensures.took (λ e. c.in_ok-next_line-2.ensures.end (ap Ok e)) in
    text_wrong _ _ _ _ c.messages_left.result header
    (rw (c.deref.ensures.value, c.deref-2.ensures.value) at c.in_ok-check_header.ensures.ok) c.messages_left.ensures.end

pub returns-in_err-check_header-clause-end : goal.returns-in_err-check_header-clause-end
returns-in_err-check_header-clause-end g c =
    let remaining = g.B.Read.remaining in
    let header = has_header (remaining c.args.reader.now) (remaining c.next_line.new.reader) (remaining c.next_line-2.new.reader) _ _
    c.next_line.new.line.items c.next_line-2.new.line.items c.in_ok-next_line.ensures.took (λ e. c.in_ok-next_line.ensures.end (ap Ok e))
    c.in_ok-next_line-2.ensures.took (λ e. c.in_ok-next_line-2.ensures.end (ap Ok e)) in
    let wrong = header_wrong _ _ _ _ c.in_err-check_header.field-0.0 header (rw (c.deref.ensures.value, c.deref-2.ensures.value) at c.in_err-check_header.ensures.end) in
    search (rules, wrong)
