use Rattle.std.proofs.Common.{◌≡◌, ◌+◌, ◌∙◌, ap, rules}
use Rattle.reports.specs.declared.message.Header.{Header}
use Rattle.tape_core.specs.Standing.{last_number}
use Rattle.tape_core.specs.Tape.{messages_of}
use Rattle.csv_days.proofs.EndDayLemmas.{EndsMore-answer, IsKeptFor-next}
use Rattle.csv_days.proofs.end_day.EndDay.answer.Goals as goal

pub answer-requires : goal.answer-requires
answer-requires c = record { kept = IsKeptFor-next c.args.self.now c.args.message c.requires.ending }

pub returns : goal.returns
returns c =
    let row : c.in-Some.row ≡ c.args.self.now.row + 1 = search rules in
    record {
      more = EndsMore-answer c.args.self.now _ c.args.message c.in_ok-answered.answered c.last_of-greatest.result c.in_ok-add.ensures
          c.in_ok-answered.ensures.answer c.in_ok-answered.ensures.tape
          (λ t keeps. c.last_of-greatest.ensures.last t keeps
          ∙ ap (λ (h : Header). last_number (messages_of t.entries) h.participant) c.header.ensures.header)
          c.count.ensures.stale row c.count.ensures.counts;
    }
