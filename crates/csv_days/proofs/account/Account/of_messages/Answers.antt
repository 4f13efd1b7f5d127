use Rattle.std.proofs.Common.{◌≡◌, ◌∙◌, [], ap, length, sym, ℕ}
use Rattle.csv_messages.specs.Tables.{FIRST_ROW}
use Rattle.tape_core.specs.Tape.{TapeState}
use Rattle.tape_core.specs.Answers.{answers}
use Rattle.csv_days.specs.Days.{first_tape}
use Rattle.csv_days.specs.Explained.{admitted_rows, rows_of}
use Rattle.csv_days.proofs.AccountLemmas.{length-rows_of}
use Rattle.csv_days.proofs.account.Account.of_messages.Goals as goal

pub returns-clause-day : goal.returns-clause-day
returns-clause-day c =
    c.in_ok-rows.ensures.more (first_tape c.args.matrix c.args.messages.now) [] c.in_ok-day.ensures.day

pub returns-clause-account : goal.returns-clause-account
returns-clause-account c =
    let matrix = c.args.matrix in
    let messages = c.args.messages.now in
    let answered = c.in_ok-rows.ensures.more (first_tape matrix messages) [] c.in_ok-day.ensures.day in
    let noted : c.in_ok-rows.rows.items ≡ rows_of matrix messages =
    c.in_ok-rows.ensures.rows
    ∙ ap (λ (n : ℕ). admitted_rows n (answers c.in_ok-day.day.tape messages)) c.in_ok-day.ensures.day.row
    ∙ ap (λ (t : TapeState). admitted_rows FIRST_ROW (answers t messages)) c.in_ok-day.ensures.day.tape in
    record {
      rows = ap length noted ∙ length-rows_of matrix messages ∙ ap (λ (t : TapeState). length t.entries) (sym answered.tape);
      changes = c.in_ok-changes.ensures;
      own = c.in_ok-own.ensures;
    }
