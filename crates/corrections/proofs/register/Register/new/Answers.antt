use Rattle.std.proofs.Common.{◌<◌, arith, rules}
use Rattle.corrections.specs.TargetRows.{empty_row}
use Rattle.corrections.proofs.LastNumbers.{slice_index-replicate_zero}
use Rattle.corrections.proofs.RegisterRows.{targets-empty}
use Rattle.corrections.proofs.register.Register.new.Goals as goal
use Rattle.tape_types.specs.Ranges.{row_index, PARTICIPANTS_MOST}

pub returns-clause-targets : goal.returns-clause-targets
returns-clause-targets c = targets-empty c.from_fn.result (λ i lt.
    let inside : i < PARTICIPANTS_MOST = omega (arith, c.from_fn.ensures.items.long) in
    let made = c.from_fn.ensures.items.at i empty_row inside in
    search rules)

pub returns-clause-last_numbers : goal.returns-clause-last_numbers
returns-clause-last_numbers c = λ who. slice_index-replicate_zero PARTICIPANTS_MOST (row_index who)
