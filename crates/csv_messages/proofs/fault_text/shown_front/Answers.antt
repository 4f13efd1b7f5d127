use Rattle.std.proofs.Common.{arith, length-take-le, sym}
use Rattle.std.proofs.lemmas.List.{take_all}
use Rattle.csv_messages.proofs.fault_text.shown_front.Goals as goal

pub slice_bounds-result-end : goal.slice_bounds-result-end
slice_bounds-result-end c = sym (length-take-le 40 c.args.text.now (omega (arith, c.if-text-gt-SHOWN_MOST.true)))

pub returns-else-text-gt-SHOWN_MOST : goal.returns-else-text-gt-SHOWN_MOST
returns-else-text-gt-SHOWN_MOST c = sym (take_all 40 c.args.text.now (omega (arith, c.if-text-gt-SHOWN_MOST.false)))
