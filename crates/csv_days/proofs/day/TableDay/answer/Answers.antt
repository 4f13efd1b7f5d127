use Rattle.std.proofs.Common.{◌∙◌, ap, refl}
use Rattle.reports.specs.declared.message.Header.{Header}
use Rattle.tape_core.specs.Standing.{last_number}
use Rattle.tape_core.specs.Tape.{messages_of}
use Rattle.csv_days.proofs.DayLemmas.{AnswersMore-answer}
use Rattle.csv_days.proofs.day.TableDay.answer.Goals as goal

pub returns-clause-more : goal.returns-clause-more
returns-clause-more c =
    AnswersMore-answer c.args.self.now _ c.args.message c.in_ok-answered.answered c.last_of-greatest.result c.in_ok-answered.ensures.answer
    c.in_ok-answered.ensures.tape refl
    (c.last_of-greatest.ensures.last ∙ ap (λ (h : Header). last_number (messages_of c.args.self.now.tape.entries) h.participant) c.header.ensures.header)
    c.count.ensures.stale c.count.ensures.counts
