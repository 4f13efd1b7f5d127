use Rattle.std.proofs.Common.{sym, rules}
use Rattle.tape_types.specs.Ranges.{name_of}
use Rattle.message_texts.proofs.NameLemmas.{names_written}
use Rattle.message_texts.proofs.header_text.push_symbols.Goals as goal

pub loop-symbol-preserved : goal.loop-symbol-preserved
loop-symbol-preserved c = record {
  first = search rules;
  text = names_written name_of c.args.symbols.now c.loop-symbol.symbol-index c.symbol-item.result _ _ _ _ c.loop-symbol-test.true (sym c.symbol-item.is)
      c.loop-symbol.invariant.first c.loop-symbol.invariant.text (rw c.name.ensures.name at c.in_ok-push_name.ensures);
}
