use Rattle.std.proofs.Common.{◌≡◌, ◌∙◌, ap, arith, length}
use Rattle.std.proofs.lemmas.List.{length-take}
use Rattle.csv_messages.proofs.CutLemmas.{cut-fits, cut-is}
use Rattle.csv_messages.proofs.fault_text.FaultText.new.Goals as goal

pub invariant_of-result : goal.invariant_of-result
invariant_of-result c =
    let used = c.min-used.result in
    let text = c.args.text.now in
    let long : length c.copy_from_slice.new.self ≡ used =
    ap length c.copy_from_slice.ensures.after ∙ length-take used text ∙ omega (arith, c.min-used.ensures) in
    cut-fits c.copy_from_slice.new.self used long (omega (arith, c.min-used.ensures))

pub returns : goal.returns
returns c = record {
  text = cut-is c.copy_from_slice.new.self c.args.text.now c.min-used.result c.min-used.ensures c.copy_from_slice.ensures.after;
}
