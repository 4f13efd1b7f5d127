use Rattle.std.proofs.Common.{◌≡◌, ◌∙◌, List, Option, Some, IfSome, ap, length, refl, slice_get, subst, sym, true}
use Rattle.std.proofs.lemmas.Option.{slice_get_read}
use Rattle.corrections.specs.declared.target.Target.{Target}
use Rattle.sale_matrix.specs.Matrix.{is_within}
use Rattle.tape_core.specs.Tape.{IsLegal, TapeState}
use Rattle.tape_core.specs.declared.entry.Entry.{Entry}
use Rattle.tape_core.proofs.list.Reported.{report_of-at, report_of-within}
use Rattle.tape_core.proofs.tape.Tape.report_at.Goals as goal

pub returns-clause-report : goal.returns-clause-report
returns-clause-report g c =
    let t : TapeState = c.args.self.now in
    let lent : List Entry = c.deref.result.now in
    let read = slice_get_read lent (length lent) c.args.index c.in_ok-entry.entry.now refl c.in_ok-entry.ensures.lookup.3.0 c.in_ok-entry.ensures.lookup.1 in
    let at : slice_get t.entries c.args.index ≡ Some c.in_ok-entry.entry.now =
    ap (λ (s : TapeState). slice_get s.entries c.args.index) (sym c.self.view_is)
    ∙ ap (λ (l : List Entry). slice_get l c.args.index) (sym c.deref.ensures.value) ∙ read in
    c.report_of.ensures.report
    ∙ report_of-at t (subst IsLegal c.self.view_is c.self.invariant.tape.legal) c.args.index c.in_ok-entry.entry.now at c.in_ok-header.header c.in_ok-header.ensures

pub returns-clause-within : goal.returns-clause-within
returns-clause-within g c =
    let t : TapeState = c.args.self.now in
    let lent : List Entry = c.deref.result.now in
    let read = slice_get_read lent (length lent) c.args.index c.in_ok-entry.entry.now refl c.in_ok-entry.ensures.lookup.3.0 c.in_ok-entry.ensures.lookup.1 in
    let at : slice_get t.entries c.args.index ≡ Some c.in_ok-entry.entry.now =
    ap (λ (s : TapeState). slice_get s.entries c.args.index) (sym c.self.view_is)
    ∙ ap (λ (l : List Entry). slice_get l c.args.index) (sym c.deref.ensures.value) ∙ read in
    subst (λ (o : Option Target). IfSome o (λ report. is_within t.matrix report.content.condition ≡ true)) (sym c.report_of.ensures.report)
    (report_of-within t (subst IsLegal c.self.view_is c.self.invariant.tape.legal) c.args.index c.in_ok-entry.entry.now at c.in_ok-header.header
    c.in_ok-header.ensures)
