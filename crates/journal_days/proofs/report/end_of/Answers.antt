use Rattle.std.proofs.Common.{◌∙◌, ap, length, sym, subst}
use Rattle.std.specs.Prelude.{◌<◌, get_or, List}
use Rattle.sale_matrix.specs.declared.matrix.Matrix.{Matrix}
use Rattle.tape_core.specs.declared.entry.Entry.{Entry}
use Rattle.tape_core.specs.Ending.{KeepsEnd}
use Rattle.tape_core.specs.Tape.{empty_tape}
use Rattle.tape_types.specs.Ranges.{TAPE_MOST}
use Rattle.journal_days.specs.Days.{unlimited_before}
use Rattle.journal_days.proofs.EndLemmas.{kept_for_next, kept_more, lists_next}
use Rattle.journal_days.proofs.report.end_of.Goals as goal

pub loop-entry-init : goal.loop-entry-init
loop-entry-init c =
    subst (λ (m : Matrix). KeepsEnd (empty_tape c.args.tape.now.listing TAPE_MOST m) c.new-end.result) c.matrix.ensures.value
    (c.new-end.ensures c.args.tape.now.listing)

pub admit-requires : goal.admit-requires
admit-requires c =
    let same = c.entries-entry-items.ensures.entries in
    let e = c.entry-item.result in
    let i = c.loop-entry.entry-index in
    record {
      kept = kept_for_next c.args.tape.now i e c.loop-entry.end c.entries-entry-items.ensures.legal
          (subst (λ (es : List Entry). i < length es) same c.loop-entry-test.true)
          (ap (λ (es : List Entry). get_or es i e) (sym same) ∙ sym c.entry-item.is) c.loop-entry.invariant;
    }

pub loop-entry-preserved : goal.loop-entry-preserved
loop-entry-preserved c =
    let t = c.args.tape.now in
    let same = c.entries-entry-items.ensures.entries in
    let legal = c.entries-entry-items.ensures.legal in
    let e = c.entry-item.result in
    let i = c.loop-entry.entry-index in
    let within = subst (λ (es : List Entry). i < length es) same c.loop-entry-test.true in
    let is = ap (λ (es : List Entry). get_or es i e) (sym same) ∙ sym c.entry-item.is in
    kept_more t i e c.admit.new.self legal within is
    (c.in-Ok.ensures.answers (unlimited_before t i) c.loop-entry.invariant (lists_next t i e legal within is)).2
