use Rattle.std.proofs.Common.{arith, false, rules, true}
use Rattle.std.proofs.lemmas.Grind.{common_steps}
use Rattle.command_line.specs.Statuses.{status_code}
use Rattle.desk_words.proofs.InputLemmas.{answered}
use Rattle.desk_words.proofs.inputs.run_command.Goals as goal

pub returns-then-is_journal-clause-answers : goal.returns-then-is_journal-clause-answers
returns-then-is_journal-clause-answers g c =
    answered (status_code c.run_journal.result) _ c.args.writer.now c.run_journal.new.writer _ _ c.args.errors.now c.run_journal.new.errors _ _
    true c.args.command (g.R.Read.remaining c.args.reader.now) (g.R.Read.remaining c.fill.new.reader) _ c.fill.new.row c.in-Some.len
    c.chain-input.ensures.bytes (grind (arith, common_steps)) (search rules) c.in-Some.ensures.within c.in-Some.ensures.bytes c.in-Some.ensures.end
    c.if-is_journal.ensures.begins c.run_journal.ensures.answers

pub returns-else-is_journal-clause-answers : goal.returns-else-is_journal-clause-answers
returns-else-is_journal-clause-answers g c =
    answered (status_code c.run_rows.result) _ c.args.writer.now c.run_rows.new.writer _ _ c.args.errors.now c.run_rows.new.errors _ _
    false c.args.command (g.R.Read.remaining c.args.reader.now) (g.R.Read.remaining c.fill.new.reader) _ c.fill.new.row c.in-Some.len
    c.chain-input.ensures.bytes (grind (arith, common_steps)) (search rules) c.in-Some.ensures.within c.in-Some.ensures.bytes c.in-Some.ensures.end
    c.if-is_journal.ensures.begins c.run_rows.ensures.answers
