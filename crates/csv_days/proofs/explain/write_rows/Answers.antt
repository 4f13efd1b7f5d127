use Rattle.std.proofs.Common.{ap, arith, length}
use Rattle.csv_days.proofs.EndLemmas.{any_error, ok_map}
use Rattle.csv_days.proofs.ExplainLemmas.{text-fault, text-next, text-none, text-whole}
use Rattle.csv_days.proofs.explain.write_rows.Goals as goal

pub loop-from-init : goal.loop-from-init
loop-from-init g c = record {
  within = omega arith;
  pending = text-none c.args.account.now.day.tape c.args.account.now.rows.items c.args.head.items (g.W.Write.contents c.args.writer.now) c.requires.head;
}

pub returns-in_err-text-clause-prefix : goal.returns-in_err-text-clause-prefix
returns-in_err-text-clause-prefix g c =
    any_error c.from_residual.result _
    (text-fault c.args.account.now.day.tape c.args.account.now.rows.items c.loop-from.from c.loop-from.text.items
    (g.W.Write.contents c.args.writer.now) (g.W.Write.contents c.loop-from.writer) (g.W.Write.contents c.next_lines.new.writer) c.in_err-text.ensures.prefix
    c.loop-from.invariant.pending)

pub loop-from-preserved : goal.loop-from-preserved
loop-from-preserved g c = record {
  within = omega arith;
  pending = text-next c.args.account.now.day.tape c.args.account.now.rows.items c.loop-from.from _ c.loop-from.text.items c.in_ok-text.text.items
      (g.W.Write.contents c.args.writer.now) (g.W.Write.contents c.loop-from.writer) (g.W.Write.contents c.next_lines.new.writer) c.in_ok-text.ensures.lines
      c.in_ok-text.ensures.written c.loop-from.invariant.pending;
}

pub returns-clause-written : goal.returns-clause-written
returns-clause-written g c =
    ok_map c.write_part.result _ _
    (λ written. text-whole c.args.account.now.day.tape c.args.account.now.rows.items c.loop-from.from c.loop-from.text.items
    (g.W.Write.contents c.args.writer.now) (g.W.Write.contents c.loop-from.writer) (g.W.Write.contents c.write_part.new.writer)
    (omega (arith, ap length c.entries-count.ensures.entries)) written c.loop-from.invariant.pending)
    (rw c.deref.ensures.value at c.write_part.ensures.written)

pub returns-clause-prefix : goal.returns-clause-prefix
returns-clause-prefix g c =
    any_error c.write_part.result _
    (text-fault c.args.account.now.day.tape c.args.account.now.rows.items c.loop-from.from c.loop-from.text.items
    (g.W.Write.contents c.args.writer.now) (g.W.Write.contents c.loop-from.writer) (g.W.Write.contents c.write_part.new.writer)
    (rw c.deref.ensures.value at c.write_part.ensures.prefix) c.loop-from.invariant.pending)
