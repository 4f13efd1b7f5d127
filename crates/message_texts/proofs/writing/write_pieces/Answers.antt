use Rattle.std.proofs.Common.{◌≡◌, ◌==◌, length, rules, true}
use Rattle.whole_io.specs.Lemmas.WriteLemmas.{WritesUpTo-none}
use Rattle.message_texts.proofs.WrittenPieces.{last_written, next_made, no_messages, ok_map, piece_begun, two_parts}
use Rattle.message_texts.proofs.writing.write_pieces.Goals as goal

pub loop-rest-init : goal.loop-rest-init
loop-rest-init g c = WritesUpTo-none _ (g.W.Write.contents c.args.writer.now)

pub loop-rest-preserved : goal.loop-rest-preserved
loop-rest-preserved g c =
    next_made (g.F.Form.text c.args.form.now) _ c.loop-rest.text.items c.in_ok-text.text.items c.loop-rest.rest.now c.split_at.result.0.now
    c.split_at.result.1.now _ (g.W.Write.contents c.loop-rest.writer) (g.W.Write.contents c.next_text.new.writer)
    (two_parts _ _ _ _ c.split_at.ensures.front c.split_at.ensures.back) c.in_ok-text.ensures.text c.loop-rest.invariant
    c.in_ok-text.ensures.written

pub returns-clause-written : goal.returns-clause-written
returns-clause-written g c =
    let test : (length c.loop-rest.rest.now == 0) ≡ true = search rules in
    ok_map c.write_part.result _ _
    (λ written. last_written (g.F.Form.text c.args.form.now) _ c.loop-rest.text.items c.loop-rest.rest.now (g.W.Write.contents c.args.writer.now)
    (g.W.Write.contents c.loop-rest.writer) (g.W.Write.contents c.write_part.new.writer) (no_messages c.loop-rest.rest.now test)
    c.loop-rest.invariant written)
    (rw c.deref.ensures.value at c.write_part.ensures.written)

pub returns-clause-prefix : goal.returns-clause-prefix
returns-clause-prefix g c =
    piece_begun _ c.loop-rest.text.items _ (g.W.Write.contents c.args.writer.now) (g.W.Write.contents c.loop-rest.writer)
    (g.W.Write.contents c.write_part.new.writer) c.loop-rest.invariant (rw c.deref.ensures.value at c.write_part.ensures.prefix)

pub returns-in_err-text-clause-prefix : goal.returns-in_err-text-clause-prefix
returns-in_err-text-clause-prefix g c =
    piece_begun _ c.loop-rest.text.items _ (g.W.Write.contents c.args.writer.now) (g.W.Write.contents c.loop-rest.writer)
    (g.W.Write.contents c.next_text.new.writer) c.loop-rest.invariant c.next_text.ensures.prefix
