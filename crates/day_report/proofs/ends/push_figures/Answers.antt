use Rattle.std.proofs.Common.{◌≡◌, ◌∷◌, ◌++◌, ◌<◌, length, slice_index_or, None, sym, ap, ◌∙◌, arith, rules, append_assoc}
use Rattle.std.specs.List.{cons_option, filter_map}
use Rattle.std.specs.Slice.Iter.{iter_rest}
use Rattle.scratch_fold.specs.declared.summary.Summary.{Summary}
use Rattle.tape_types.specs.Ranges.{IsParticipant, row_index}
use Rattle.tape_core.specs.Standing.{participant_summary}
use Rattle.tape_core.specs.Tape.{messages_of}
use Rattle.day_report.specs.Rows.{participant_row}
use Rattle.day_report.proofs.EndRowLemmas.{own-there}
use Rattle.day_report.proofs.RowLemmas.{own_row-None, own_row-Some}
use Rattle.day_report.proofs.ends.push_figures.Goals as goal

pub loop-who-preserved-then-summary-eq0 : goal.loop-who-preserved-then-summary-eq0
loop-who-preserved-then-summary-eq0 c = record {
  rows = λ t same figures.
      let who = c.in-Some.who.now in
      let own = c.args.figures.now.own in
      let z : Summary = slice_index_or own c.row_index.result c.index-figures-row_index.result in
      let is : IsParticipant who = (omega arith, omega arith) in
      let inside : c.row_index.result < length own = omega arith in
      let there : participant_summary t.matrix (messages_of t.entries) c.args.symbol who ≡ z =
      own-there own who c.row_index.result c.index-figures-row_index.result _ c.row_index.ensures.index inside (figures.own who is) in
      let none : participant_row t c.args.symbol who ≡ None = own_row-None t c.args.symbol who z there c.if-summary-eq0.true in
      let step : iter_rest c.loop-who.who-iterator ≡ who ∷ iter_rest c.next.new.self = search rules in
      ap (λ l. c.loop-who.rows.items ++ l)
      (sym (ap (filter_map (participant_row t c.args.symbol)) step
      ∙ ap (λ o. cons_option o (filter_map (participant_row t c.args.symbol) (iter_rest c.next.new.self))) none))
      ∙ c.loop-who.invariant.rows t same figures;
}

pub loop-who-preserved : goal.loop-who-preserved
loop-who-preserved c = record {
  rows = λ t same figures.
      let who = c.in-Some.who.now in
      let own = c.args.figures.now.own in
      let z : Summary = slice_index_or own c.row_index.result c.index-figures-row_index.result in
      let is : IsParticipant who = (omega arith, omega arith) in
      let inside : c.row_index.result < length own = omega arith in
      let there : participant_summary t.matrix (messages_of t.entries) c.args.symbol who ≡ z =
      own-there own who c.row_index.result c.index-figures-row_index.result _ c.row_index.ensures.index inside (figures.own who is) in
      let some = own_row-Some t c.args.symbol who z there c.if-summary-eq0.false in
      let step : iter_rest c.loop-who.who-iterator ≡ who ∷ iter_rest c.next.new.self = search rules in
      ap (λ l. l ++ filter_map (participant_row t c.args.symbol) (iter_rest c.next.new.self)) c.in_ok-push-2.ensures.items
      ∙ append_assoc c.loop-who.rows.items _ (filter_map (participant_row t c.args.symbol) (iter_rest c.next.new.self))
      ∙ ap (λ l. c.loop-who.rows.items ++ l)
      (sym (ap (filter_map (participant_row t c.args.symbol)) step
      ∙ ap (λ o. cons_option o (filter_map (participant_row t c.args.symbol) (iter_rest c.next.new.self))) some))
      ∙ c.loop-who.invariant.rows t same figures;
}
