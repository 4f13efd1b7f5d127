use Rattle.std.proofs.Common.{◌≡◌, ◌∙◌, Ok, ap, refl, rules}
use Rattle.std.proofs.lemmas.Result.{IfOk-at_ok}
use Rattle.tape_types.specs.Names.{Names}
use Rattle.tape_types.specs.Ranges.{TAPE_MOST}
use Rattle.tape_core.specs.Tape.{empty_tape}
use Rattle.csv_days.specs.Days.{first_tape}
use Rattle.csv_days.proofs.DayLemmas.{HasAnswered-none}
use Rattle.csv_days.proofs.day.TableDay.of_names.Goals as goal

pub returns-clause-day : goal.returns-clause-day
returns-clause-day c =
    let made : c.new.result ≡ Ok c.in_ok-tape.tape = search rules in
    HasAnswered-none (first_tape c.args.matrix c.args.messages.now) _
    (IfOk-at_ok _ made c.new.ensures.ok ∙ ap (λ (n : Names). empty_tape n TAPE_MOST c.args.matrix) c.in_ok-listing.ensures.names) c.none.ensures.counts c.none.ensures.stale refl
