use Rattle.std.proofs.Common.{subst}
use Rattle.std.proofs.lemmas.Result.{err_from_is_err_and}
use Rattle.csv_days.specs.EndDays.{EndsMore}
use Rattle.csv_days.proofs.DayReadingLemmas.{EndsWith-fault, IsEnding-read, ReadsAll-piece, ReadsMore-none, ReadsMore-piece}
use Rattle.csv_days.proofs.day_reading.answer_rows.Goals as goal

pub loop-init : goal.loop-init
loop-init g c = record { reads = c.requires.reads; more = ReadsMore-none g.R.Read.remaining c.args.rows.now c.args.day.now }

pub answer_all-requires : goal.answer_all-requires
answer_all-requires g c = record {
  ending = IsEnding-read g.R.Read.remaining c.args.rows.now c.loop.rows c.args.day.now c.loop.day c.loop.invariant.more c.requires.ending;
}

pub returns-in_err-piece-clause-end : goal.returns-in_err-piece-clause-end
returns-in_err-piece-clause-end g c =
    let p = err_from_is_err_and c.from_residual.result c.from_residual.ensures.1 in
    rw (p.1, p.2) (
      λ is. cc,
      EndsWith-fault g.R.Read.remaining c.args.rows.now c.loop.rows c.args.day.now c.loop.day c.in_err-piece.field-0.0 c.loop.invariant.more c.in_err-piece.ensures.fault,
    )

pub returns-then-piece-clause-all : goal.returns-then-piece-clause-all
returns-then-piece-clause-all g c =
    ReadsAll-piece g.R.Read.remaining c.args.rows.now c.loop.rows c.args.day.now c.loop.day c.answer_all.new.self c.in_ok-piece.piece.messages.items
    c.loop.invariant.more (c.in_ok-piece.ensures.rest c.if-piece.true)
    (subst (EndsMore c.loop.day c.answer_all.new.self) c.deref.ensures.value c.in_ok-answer_all.ensures.more)

pub loop-preserved : goal.loop-preserved
loop-preserved g c = record {
  reads = c.in_ok-piece.ensures.reads;
  more = ReadsMore-piece g.R.Read.remaining c.args.rows.now c.loop.rows c.piece.new.self c.args.day.now c.loop.day c.answer_all.new.self
      c.in_ok-piece.piece.messages.items c.loop.invariant.more (c.in_ok-piece.ensures.more c.if-piece.false)
      (subst (EndsMore c.loop.day c.answer_all.new.self) c.deref.ensures.value c.in_ok-answer_all.ensures.more);
}
