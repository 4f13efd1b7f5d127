use Rattle.std.proofs.Common.{[]}
use Rattle.csv_days.specs.EndDays.{HasEnded}
use Rattle.csv_days.proofs.strict.refusals_of.Goals as goal

pub answer_all-requires : goal.answer_all-requires
answer_all-requires c = record { ending = (c.args.matrix, [], c.new-day.ensures.day) }

pub returns : goal.returns
returns c =
    let had : HasEnded c.args.matrix c.args.messages.now c.answer_all.new.self = c.in_ok-answer_all.ensures.more c.args.matrix [] c.new-day.ensures.day in
    record {
      told = c.refusals_of_day.ensures.told c.args.matrix c.args.messages.now had;
      end = c.refusals_of_day.ensures.end c.args.matrix c.args.messages.now had;
      unwritten = c.refusals_of_day.ensures.unwritten;
    }
