use Rattle.std.proofs.Common.{◌≡◌, ◌∷◌, ◌++◌, [], IfSome, None, Some, ap, append-nil, arith, length, length-append, rules, subst, sym, true}
use Rattle.std.proofs.lemmas.Result.{err_from_is_err_and}
use Rattle.std.specs.Result.{is_ok}
use Rattle.csv_messages.specs.TableReading.{TakesMore, TakesRest}
use Rattle.csv_messages.proofs.RowLemmas.{FailsWith-after, TakesMore-both, TakesRest-both}
use Rattle.csv_messages.proofs.row_reader.RowReader.piece.Goals as goal

pub loop-taken-preserved : goal.loop-taken-preserved
loop-taken-preserved g c =
    let good : is_ok c.push.result ≡ true = search rules in
    let items : c.push.new.self.items ≡ c.loop-taken.messages.items ++ c.in-Some.message ∷ [] = rw good at c.push.ensures.items in
    let some : c.in_ok-message.field-0 ≡ Some c.in-Some.message = search rules in
    record {
      reads = c.in_ok-message.ensures.reads;
      count = omega (arith, c.loop-taken.invariant.count, ap length items, length-append c.loop-taken.messages.items (c.in-Some.message ∷ []));
      more = subst (TakesMore g.R.Read.remaining c.args.self.now c.message.new.self) (sym items)
          (TakesMore-both g.R.Read.remaining c.args.self.now c.loop-taken.self c.message.new.self c.loop-taken.messages.items (c.in-Some.message ∷ [])
          c.loop-taken.invariant.more
          (subst (λ o. IfSome o (λ m. TakesMore g.R.Read.remaining c.loop-taken.self c.message.new.self (m ∷ []))) some c.in_ok-message.ensures.more));
    }

pub returns-in_default-clause-rest : goal.returns-in_default-clause-rest
returns-in_default-clause-rest g c = λ _.
    let none : c.in_ok-message.field-0 ≡ None = search rules in
    subst (TakesRest g.R.Read.remaining c.args.self.now) (append-nil c.loop-taken.messages.items)
    (TakesRest-both g.R.Read.remaining c.args.self.now c.loop-taken.self c.loop-taken.messages.items [] c.loop-taken.invariant.more
    (c.in_ok-message.ensures.rest none))

pub returns-in_err-message-clause-fault : goal.returns-in_err-message-clause-fault
returns-in_err-message-clause-fault g c =
    let p = err_from_is_err_and c.from_residual.result c.from_residual.ensures.1 in
    rw (p.1, p.2) (FailsWith-after g.R.Read.remaining c.args.self.now c.loop-taken.self c.loop-taken.messages.items c.in_err-message.field-0.0
    c.loop-taken.invariant.more c.in_err-message.ensures.fault)
