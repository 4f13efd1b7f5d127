use Rattle.std.proofs.Common.{subst, sym, ap, ◌∙◌, take, length-take-le, ◌+◌, ℕ}
use Rattle.std.proofs.BufReadLemmas.{Consumes_shown}
use Rattle.std.specs.Io.BufRead.{FillKeeps}
use Rattle.batch.proofs.DayLemmas.{AnswersTaken-front, AnswersTaken-none, OnOk-always}
use Rattle.batch.proofs.day.BatchDay.answer_piece.Goals as goal

pub returns-in-Err-clause-answered : goal.returns-in-Err-clause-answered
returns-in-Err-clause-answered g c =
    OnOk-always c.unread_piece.result (AnswersTaken-none c.args.self.now _ _ c.args.input.now.taken c.fill_buf.follows.holds-at-none.0)

pub returns-clause-answered : goal.returns-clause-answered
returns-clause-answered g c =
    let whole = c.whole_lines-whole in
    let rested = c.fill_buf.follows.lender-at-none in
    let filled = subst (FillKeeps _ (g.B.Read.remaining rested) (g.B.BufRead.consumable_len rested)) c.in-Ok.is c.fill_buf.follows.holds-at-none in
    let lost = Consumes_shown _ _ _ _ c.in-Ok.piece.now whole.result whole.ensures.within c.in-Ok.ensures.front c.in-Ok.ensures.end filled.0 filled.1
    c.consume.ensures.bytes in
    AnswersTaken-front _ _ _ _ (take whole.result c.in-Ok.piece.now) _ _
    (rw c.new.ensures at c.in_ok-answered.ensures.answered) whole.ensures.whole (rw c.count.ensures.left lost.0)
    (c.in_ok-count.ensures.taken ∙ ap (λ (n : ℕ). c.args.input.now.taken + n) (sym (length-take-le whole.result c.in-Ok.piece.now whole.ensures.within)))
