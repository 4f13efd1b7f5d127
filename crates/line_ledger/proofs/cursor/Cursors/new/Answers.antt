use Rattle.std.proofs.Common.{rules, ◌≡◌, ◌+◌, [], ◌++◌, ◌∷◌, append-nil, append_assoc, ap, ◌∙◌, sym, subst}
use Rattle.tape_types.specs.Ranges.{FIRST_PARTICIPANT}
use Rattle.line_ledger.specs.Cursors.{Compared}
use Rattle.line_ledger.proofs.CursorRows.{none_told, one_more}
use Rattle.line_ledger.proofs.cursor.Cursors.new.Goals as goal

pub loop-seat-init : goal.loop-seat-init
loop-seat-init g c =
    let whole : c.into_iter-seat-iterator.result.iter.rest.now ≡ c.args.seats.now = search rules in
    ([], append-nil c.into_iter-seat-iterator.result.iter.rest.now ∙ whole, none_told c.new-row.result (c.new-row.ensures.told, c.new-row.ensures.compared))

pub loop-seat-preserved : goal.loop-seat-preserved
loop-seat-preserved g c =
    let last = c.loop-seat.invariant.0 in
    let seat = c.in-Some.seat.now in
    let letter : c.row_index.result + FIRST_PARTICIPANT ≡ seat.who = search rules in
    let told : c.new.result.told.now ≡ seat.told = search rules in (
      seat ∷ last,
      sym (append_assoc c.next.new.self.iter.rest.now (seat ∷ []) last) ∙ ap (λ xs. xs ++ last) (sym c.in-Some.ensures.steps) ∙ c.loop-seat.invariant.1,
      one_more c.loop-seat.row last seat c.row_index.result c.new.result c.loop-seat.invariant.2 letter told
          (subst (λ l. Compared l [] c.new.result.at c.new.result.differs) c.told.ensures.told c.new.ensures.compared),
    )
