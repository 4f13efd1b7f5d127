use Rattle.std.proofs.Common.{◌-◌, length, get_or, ap, subst, ◌∙◌, arith}
use Rattle.std.proofs.lemmas.List.{length-map, take_all}
use Rattle.tape_types.specs.Ranges.{TAPE_MOST}
use Rattle.tape_core.specs.Ending.{AreTableOf, sent_of}
use Rattle.tape_core.specs.Tape.{messages_of}
use Rattle.tape_core.proofs.EndFigures.{AreOfAtMost-up}
use Rattle.tape_core.proofs.EndFolding.{table-next}
use Rattle.tape_core.proofs.EndKeeping.{kept-few}
use Rattle.tape_core.proofs.end_tape.EndTape.count_all.Goals as goal

pub count-requires : goal.count-requires
count-requires c = record {
  kept = c.requires.kept;
  few = λ k d within. AreOfAtMost-up c.loop-sent.sent-index (TAPE_MOST - 1) (get_or c.loop-sent.table.items k d)
      (let many = kept-few c.requires.kept.0 _ c.requires.kept.1 in omega (arith, ap length c.as_slice-sent-items.ensures.value, c.loop-sent-test.true))
      (c.loop-sent.invariant.few k d within);
}

pub loop-sent-preserved : goal.loop-sent-preserved
loop-sent-preserved c = record {
  few = c.count.ensures.few c.loop-sent.sent-index c.loop-sent.invariant.few;
  count = c.count.ensures.count ∙ c.loop-sent.invariant.count;
  table = λ t keeps listing first.
      table-next t c.args.self.now c.args.listing.now keeps listing c.loop-sent.sent-index c.sent-item.result c.loop-sent.table.items c.count.new.table.items
      (omega (arith, ap length c.as_slice-sent-items.ensures.value, c.loop-sent-test.true))
      (c.sent-item.is ∙ ap (λ l. get_or l c.loop-sent.sent-index c.sent-item.result) c.as_slice-sent-items.ensures.value)
      c.count.ensures.figures (c.loop-sent.invariant.table t keeps listing first);
}

pub returns-clause-figures : goal.returns-clause-figures
returns-clause-figures c = λ t keeps listing first.
    subst (λ ns. AreTableOf t ns c.loop-sent.table.items)
    (take_all c.loop-sent.sent-index (messages_of t.entries)
    (omega (arith, ap length keeps.reports, length-map (messages_of t.entries) sent_of, ap length c.as_slice-sent-items.ensures.value, c.loop-sent-test.false)))
    (c.loop-sent.invariant.table t keeps listing first)
