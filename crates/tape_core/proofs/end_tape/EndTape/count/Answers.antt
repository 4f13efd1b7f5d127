use Rattle.std.proofs.Common.{◌≡◌, ◌+◌, ◌∷◌, ◌++◌, [], ◌<◌, length, get_or, false, None, Some, IfSome, sym, ap, subst, ◌∙◌, arith, rules, slice_get}
use Rattle.std.specs.List.{position}
use Rattle.std.proofs.lemmas.List.Elements.{All-set}
use Rattle.std.proofs.lemmas.Option.{none-some, same_Some, slice_get-get_or, slice_get_past}
use Rattle.std.proofs.lemmas.Slice.Eq.{bytes_eq-Decides}
use Rattle.tape_types.specs.Names.{symbol_eq}
use Rattle.sale_matrix.specs.Matrix.{cells_of}
use Rattle.corrections.specs.declared.target.Target.{Target}
use Rattle.corrections.specs.declared.target.Standing.TheVariants.{Cancelled}
use Rattle.reports.specs.Messages.{header_of}
use Rattle.tape_core.specs.Books.{latest_content, target_of}
use Rattle.tape_core.specs.declared.end_figures.SymbolFigures.{SymbolFigures}
use Rattle.tape_core.specs.Ending.{AreFigures, AreOfAtMost}
use Rattle.tape_core.specs.Standing.{StandingReport, is_cancelled, named_report, standing_content}
use Rattle.tape_core.specs.Tape.{messages_of}
use Rattle.tape_core.proofs.EndFigures.{AreOfAtMost-up}
use Rattle.tape_core.proofs.EndFolding.{kept-within, sent-is, sent-none, standing-gone, standing-here, standing-kind, stands-as, table-count, table-skip, table-unlisted, target-is}
use Rattle.tape_core.proofs.list.Reinstatements.{latest-there}
use Rattle.tape_core.proofs.end_tape.EndTape.count.Goals as goal

pub returns-in_default-clause-figures : goal.returns-in_default-clause-figures
returns-in_default-clause-figures c = λ t first n keeps listing is was.
    table-skip t first n c.args.table.now.items (λ symbol. standing-kind (messages_of t.entries) symbol n (sent-none n (sym c.in_default.is ∙ is.0))) was

pub returns-then-eq-clause-figures : goal.returns-then-eq-clause-figures
returns-then-eq-clause-figures c = λ t first n keeps listing is was.
    let found : c.in-Some-held_near.target ≡ target_of (messages_of t.entries) n =
    target-is t _ keeps n c.in-Some.sent c.args.sent c.in-Some.is is c.in-Some-held_near.target c.in-Some-held_near.ensures.held in
    let cancelled : c.in-Some-held_near.target.standing ≡ Cancelled = search rules in
    table-skip t first n c.args.table.now.items
    (λ symbol. standing-gone (messages_of t.entries) symbol n
    ((stands-as (is_cancelled (messages_of t.entries) n.0)).0 (sym (ap (λ (x : Target). x.standing) found) ∙ cancelled))) was

pub returns-in_default-position-clause-figures : goal.returns-in_default-position-clause-figures
returns-in_default-position-clause-figures c = λ t first n keeps listing is was.
    let found : c.in-Some-held_near.target ≡ target_of (messages_of t.entries) n =
    target-is t _ keeps n c.in-Some.sent c.args.sent c.in-Some.is is c.in-Some-held_near.target c.in-Some-held_near.ensures.held in
    let none : position (symbol_eq c.in-Some-held_near.target.symbol) c.args.listing.now.symbols ≡ None =
    sym c.position.ensures.position ∙ c.in_default-position.is in
    table-unlisted t first n c.args.table.now.items
    (λ index listed. absurd (none-some index (sym none
    ∙ (λ i. position (symbol_eq (found i).symbol) (sym listing i).symbols) ∙ listed))) was

pub cells-cells-requires : goal.cells-cells-requires
cells-cells-requires c = record {
  within = kept-within c.requires.kept.0 _ c.requires.kept.1 c.in-Some.sent.who c.in-Some.sent.number c.in-Some-held_near.target c.in-Some-held_near.ensures.held;
}

pub returns-then-at-len-clause-figures : goal.returns-then-at-len-clause-figures
returns-then-at-len-clause-figures c = λ t first n keeps listing is was.
    let table = c.args.table.now.items in
    let found : c.in-Some-held_near.target ≡ target_of (messages_of t.entries) n =
    target-is t _ keeps n c.in-Some.sent c.args.sent c.in-Some.is is c.in-Some-held_near.target c.in-Some-held_near.ensures.held in
    let at : position (symbol_eq c.in-Some-held_near.target.symbol) c.args.listing.now.symbols ≡ Some c.in-Some-position.at =
    sym c.position.ensures.position ∙ c.in-Some-position.is in
    let none : slice_get table c.in-Some-position.at ≡ None =
    slice_get_past table c.in-Some-position.at (omega (arith, c.if-at-len.true, c.len.ensures)) in
    table-unlisted t first n table
    (λ index listed.
    let same : c.in-Some-position.at ≡ index = same_Some _ _ (sym at
    ∙ (λ i. position (symbol_eq (found i).symbol) (sym listing i).symbols) ∙ listed) in
    ap (slice_get table) (sym same) ∙ none) was

pub returns-clause-few : goal.returns-clause-few
returns-clause-few c = λ most was.
    let table = c.args.table.now.items in
    let at = c.in-Some-position.at in
    let old : SymbolFigures = c.index_mut.result.now in
    let inside : at < length table = omega (arith, c.if-at-len.false, c.len.ensures) in
    let value : old ≡ get_or table at old = search rules in
    let before : AreOfAtMost most old = subst (AreOfAtMost most) (sym value) (was at old inside) in
    All-set (AreOfAtMost (most + 1)) table at c.count.new.self (c.count.ensures.few most before)
    (λ k d within. AreOfAtMost-up most (most + 1) (get_or table k d) (omega arith) (was k d within))

pub returns-clause-figures : goal.returns-clause-figures
returns-clause-figures c = λ t first n keeps listing is was.
    let tape = messages_of t.entries in
    let s = c.in-Some.sent in
    let target = c.in-Some-held_near.target in
    let found : target ≡ target_of tape n = target-is t _ keeps n s c.args.sent c.in-Some.is is target c.in-Some-held_near.ensures.held in
    let kind = sent-is n s (sym c.in-Some.is ∙ is.0) in
    let named : named_report tape s.who s.number ≡ Some n = subst (λ o. IfSome o (λ x. named_report tape x.who x.number ≡ Some n)) c.in-Some.is is.1 in
    let stands : is_cancelled tape n.0 ≡ false =
    (stands-as (is_cancelled tape n.0)).1 (λ gone. let cancelled : target.standing ≡ Cancelled = ap (λ (x : Target). x.standing) found ∙ gone in absurd (search rules)) in
    let now : standing_content tape n.0 ≡ Some (latest_content tape n.0) = latest-there tape s.who s.number n named in
    let at : position (symbol_eq target.symbol) c.args.listing.now.symbols ≡ Some c.in-Some-position.at =
    sym c.position.ensures.position ∙ c.in-Some-position.is in
    let table = c.args.table.now.items in
    let old : SymbolFigures = c.index_mut.result.now in
    let inside : c.in-Some-position.at < length table = omega (arith, c.if-at-len.false, c.len.ensures) in
    let value : old ≡ get_or table c.in-Some-position.at old = search rules in
    let held : slice_get table c.in-Some-position.at ≡ Some old = slice_get-get_or table c.in-Some-position.at old inside ∙ ap Some (sym value) in
    let r : StandingReport = record { place = n.0; who = (header_of n.1).participant; content = latest_content tape n.0 } in
    let same : ◌≡◌ {A = StandingReport} (record { place = target.place; who = s.who; content = target.content }) r =
    (λ i. record { place = (found i).place; who = kind.1 i; content = (found i).content }) in
    table-count t first n table c.in-Some-position.at old c.count.new.self
    ((λ i. position (symbol_eq (sym found i).symbol) (listing i).symbols) ∙ at) held r
    (λ symbol is. standing-here tape symbol n (latest_content tape n.0) kind.0 ((bytes_eq-Decides (header_of n.1).symbol symbol).1 is) stands now)
    (λ reports before. subst (λ x. AreFigures t.matrix (reports ++ x ∷ []) c.count.new.self) same
    (c.count.ensures.figures t.matrix reports (c.cells-cells.ensures.cells ∙ ap (λ m. cells_of m target.content.condition) (sym keeps.matrix)) before))
    was
