use Rattle.std.proofs.Common.{◌≡◌, rules}
use Rattle.csv_messages.specs.Tables.{FIRST_ROW}
use Rattle.csv_messages.proofs.RowLemmas.{FailsWith-none, FailsWith-row, TakesMore-one, TakesRest-none}
use Rattle.csv_messages.proofs.row_reader.RowReader.message.Goals as goal

pub returns-then-number-eq-FIRST_ROW-clause-fault : goal.returns-then-number-eq-FIRST_ROW-clause-fault
returns-then-number-eq-FIRST_ROW-clause-fault g c =
    let first : c.args.self.now.number ≡ FIRST_ROW = search rules in
    FailsWith-none g.R.Read.remaining c.args.self.now first (rw c.in_default.is at c.in_ok-row.ensures.row)

pub returns-in_default-clause-rest : goal.returns-in_default-clause-rest
returns-in_default-clause-rest g c = λ _.
    TakesRest-none g.R.Read.remaining c.args.self.now (λ first. absurd (search rules)) (rw c.in_default.is at c.in_ok-row.ensures.row)

pub returns-in-Ok-clause-more : goal.returns-in-Ok-clause-more
returns-in-Ok-clause-more g c =
    TakesMore-one g.R.Read.remaining c.args.self.now c.next.new.self c.in-Ok.message (rw (c.in-Some.is, c.in-Ok.is) at c.in_ok-row.ensures.row)

pub returns-in-Err-clause-fault : goal.returns-in-Err-clause-fault
returns-in-Err-clause-fault g c =
    FailsWith-row g.R.Read.remaining c.args.self.now c.next.new.self c.in-Err.fault (rw (c.in-Some.is, c.in-Err.is) at c.in_ok-row.ensures.row)
