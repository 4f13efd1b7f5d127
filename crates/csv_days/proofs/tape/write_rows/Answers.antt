use Rattle.std.proofs.Common.{◌≡◌, ◌==◌, arith, length, rules, true}
use Rattle.csv_days.proofs.EndLemmas.{any_error, any_ok, ok_map}
use Rattle.csv_days.proofs.TapeLemmas.{WrittenSome-answered, WrittenSome-fault, WrittenSome-few, WrittenSome-listed, WrittenSome-next, WrittenSome-none, WrittenSome-stale, WrittenSome-whole, no_messages, two_parts}
use Rattle.csv_days.proofs.tape.write_rows.Goals as goal

pub loop-rest-init : goal.loop-rest-init
loop-rest-init g c =
    WrittenSome-none c.args.day.now.tape c.args.day.now c.args.messages.now c.args.head.items (g.W.Write.contents c.args.writer.now) c.requires.head
    c.requires.fresh

pub next_lines-requires : goal.next_lines-requires
next_lines-requires g c =
    let cut = two_parts _ _ _ _ c.split_at.ensures.front c.split_at.ensures.back in
    record {
      few = omega (
        arith,
        WrittenSome-few c.args.day.now.tape c.loop-rest.day c.args.messages.now c.loop-rest.rest.now c.split_at.result.0.now c.split_at.result.1.now
            c.loop-rest.text.items _ _ cut c.loop-rest.invariant,
        c.requires.few,
      );
      listed = WrittenSome-listed c.args.day.now.tape c.loop-rest.day c.args.messages.now c.loop-rest.rest.now c.split_at.result.0.now
          c.split_at.result.1.now c.loop-rest.text.items _ _ cut c.requires.listed c.loop-rest.invariant;
    }

pub loop-rest-preserved : goal.loop-rest-preserved
loop-rest-preserved g c =
    WrittenSome-next c.args.day.now.tape c.loop-rest.day c.next_lines.new.day c.args.messages.now c.loop-rest.rest.now c.split_at.result.0.now
    c.split_at.result.1.now c.loop-rest.text.items c.in_ok-text.text.items _ (g.W.Write.contents c.loop-rest.writer) (g.W.Write.contents c.next_lines.new.writer)
    (two_parts _ _ _ _ c.split_at.ensures.front c.split_at.ensures.back) c.in_ok-text.ensures.text c.in_ok-text.ensures.more c.in_ok-text.ensures.written
    c.loop-rest.invariant

pub returns-in_err-text-clause-prefix : goal.returns-in_err-text-clause-prefix
returns-in_err-text-clause-prefix g c =
    any_error c.from_residual.result _
    (WrittenSome-fault c.args.day.now.tape c.loop-rest.day c.args.messages.now c.loop-rest.rest.now c.loop-rest.text.items
    (g.W.Write.contents c.args.writer.now) (g.W.Write.contents c.loop-rest.writer) (g.W.Write.contents c.next_lines.new.writer) c.loop-rest.invariant
    c.in_err-text.ensures.prefix)

pub returns-clause-refused : goal.returns-clause-refused
returns-clause-refused g c =
    let test : (length c.loop-rest.rest.now == 0) ≡ true = search rules in
    any_ok c.write_part.result _
    (WrittenSome-answered c.args.day.now.tape c.loop-rest.day c.args.messages.now c.loop-rest.rest.now c.loop-rest.text.items
    (g.W.Write.contents c.args.writer.now) (g.W.Write.contents c.loop-rest.writer) (no_messages c.loop-rest.rest.now test) c.loop-rest.invariant)

pub returns-clause-stale : goal.returns-clause-stale
returns-clause-stale g c =
    let test : (length c.loop-rest.rest.now == 0) ≡ true = search rules in
    any_ok c.write_part.result _
    (WrittenSome-stale c.args.day.now.tape c.loop-rest.day c.args.messages.now c.loop-rest.rest.now c.loop-rest.text.items
    (g.W.Write.contents c.args.writer.now) (g.W.Write.contents c.loop-rest.writer) (no_messages c.loop-rest.rest.now test) c.loop-rest.invariant)

pub returns-clause-written : goal.returns-clause-written
returns-clause-written g c =
    let test : (length c.loop-rest.rest.now == 0) ≡ true = search rules in
    ok_map c.write_part.result _ _
    (λ written. WrittenSome-whole c.args.day.now.tape c.loop-rest.day c.args.messages.now c.loop-rest.rest.now c.loop-rest.text.items
    (g.W.Write.contents c.args.writer.now) (g.W.Write.contents c.loop-rest.writer) (g.W.Write.contents c.write_part.new.writer)
    (no_messages c.loop-rest.rest.now test) c.loop-rest.invariant written)
    (rw c.deref.ensures.value at c.write_part.ensures.written)

pub returns-clause-prefix : goal.returns-clause-prefix
returns-clause-prefix g c =
    any_error c.write_part.result _
    (WrittenSome-fault c.args.day.now.tape c.loop-rest.day c.args.messages.now c.loop-rest.rest.now c.loop-rest.text.items
    (g.W.Write.contents c.args.writer.now) (g.W.Write.contents c.loop-rest.writer) (g.W.Write.contents c.write_part.new.writer) c.loop-rest.invariant
    (rw c.deref.ensures.value at c.write_part.ensures.prefix))
