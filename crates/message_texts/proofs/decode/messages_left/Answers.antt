use Rattle.std.proofs.Common.{◌≡◌, ◌∷◌, [], ap, arith, length, length-append, rules, sym, true}
use Rattle.std.specs.Result.{is_ok}
use Rattle.message_texts.proofs.DecodeLemmas.{has_lines-all, has_lines-more, has_lines-none, has_lines-wrong}
use Rattle.message_texts.proofs.decode.messages_left.Goals as goal

pub loop-number-init : goal.loop-number-init
loop-number-init g c = record { count = search rules; read = has_lines-none (g.B.Read.remaining c.args.reader.now) c.new-messages.result.items (search rules) }

pub loop-number-preserved : goal.loop-number-preserved
loop-number-preserved g c =
    let good : is_ok c.push.result ≡ true = search rules in
    let items = rw good at c.push.ensures.items in
    let had = c.loop-number.invariant in
    record {
      count = omega (arith, had.count, ap length items, length-append c.loop-number.messages.items (c.in_ok-message.message ∷ []));
      read = rw items (has_lines-more (g.B.Read.remaining c.args.reader.now) (g.B.Read.remaining c.loop-number.reader) (g.B.Read.remaining c.next_line.new.reader)
          c.loop-number.messages.items c.next_line.new.line.items c.loop-number.number c.in_ok-message.message _ had.read c.in_ok-next_line.ensures.took
          (search rules) had.count (rw c.deref.ensures.value at (sym c.in_ok-message.ensures)));
    }

pub returns-then-not-branch-clause-messages : goal.returns-then-not-branch-clause-messages
returns-then-not-branch-clause-messages g c =
    has_lines-all (g.B.Read.remaining c.args.reader.now) (g.B.Read.remaining c.loop-number.reader) c.loop-number.messages.items c.loop-number.invariant.read
    ((c.in_ok-next_line.ensures.end (search rules)).0)

pub returns-in_err-message-clause-end : goal.returns-in_err-message-clause-end
returns-in_err-message-clause-end g c =
    let wrong = has_lines-wrong (g.B.Read.remaining c.args.reader.now) (g.B.Read.remaining c.loop-number.reader) (g.B.Read.remaining c.next_line.new.reader)
    c.loop-number.messages.items c.next_line.new.line.items c.loop-number.number c.in_err-message.field-0.0 _ c.loop-number.invariant.read c.in_ok-next_line.ensures.took
    (search rules) c.loop-number.invariant.count (rw c.deref.ensures.value at (sym c.in_err-message.ensures)) in
    search (rules, wrong)
