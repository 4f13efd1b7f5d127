use Rattle.std.proofs.Common.{◌≡◌, ◌∷◌, ◌++◌, ◌<◌, length, get_or, slice_get, Some, IfSome, sym, ap, subst, ◌∙◌, arith, rules, append_assoc}
use Rattle.std.specs.List.{flat_map, position}
use Rattle.std.specs.Slice.Iter.{iter_rest}
use Rattle.std.proofs.lemmas.Option.{slice_get-get_or}
use Rattle.tape_types.specs.Names.{Names, symbol_eq}
use Rattle.tape_core.specs.Ending.{AreFiguresOf}
use Rattle.tape_core.specs.Tape.{messages_of}
use Rattle.tape_core.specs.declared.end_figures.SymbolFigures.{SymbolFigures}
use Rattle.day_report.specs.Rows.{symbol_rows}
use Rattle.day_report.proofs.ends.end_rows.Goals as goal

pub loop-symbol-preserved : goal.loop-symbol-preserved
loop-symbol-preserved c = record {
  rows = λ t keeps names.
      let symbol = c.in-Some.symbol.now in
      let table = c.in_ok-table.table.items in
      let at = c.in-Some-position.at in
      let found : position (symbol_eq symbol) t.listing.symbols ≡ Some at =
      ap (λ (l : Names). position (symbol_eq symbol) l.symbols) names ∙ sym c.position.ensures.position ∙ c.in-Some-position.is in
      let inside : at < length table = omega (arith, c.if-at-len.false, c.len.ensures) in
      let old : SymbolFigures = c.index.result.now in
      let value : old ≡ get_or table at old = search rules in
      let held : slice_get table at ≡ Some old = slice_get-get_or table at old inside ∙ ap Some (sym value) in
      let figures : AreFiguresOf t (messages_of t.entries) symbol old =
      subst (λ o. IfSome o (AreFiguresOf t (messages_of t.entries) symbol)) held (c.in_ok-table.ensures.figures t keeps names symbol at found) in
      let step : iter_rest c.loop-symbol.symbol-iterator ≡ symbol ∷ iter_rest c.next.new.self = search rules in
      ap (λ l. l ++ flat_map (symbol_rows t) (iter_rest c.next.new.self)) (c.in_ok-push_figures.ensures t names figures)
      ∙ append_assoc c.loop-symbol.rows.items (symbol_rows t symbol) (flat_map (symbol_rows t) (iter_rest c.next.new.self))
      ∙ ap (λ l. c.loop-symbol.rows.items ++ l) (sym (ap (flat_map (symbol_rows t)) step))
      ∙ c.loop-symbol.invariant.rows t keeps names;
}
