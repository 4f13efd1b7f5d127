use Rattle.std.proofs.Common.{◌≡◌, ◌∷◌, ◌++◌, [], arith, inl, length-append, rules, subst, sym, true}
use Rattle.std.specs.Result.{is_ok}
use Rattle.csv_messages.specs.declared.columns.Columns.{Columns}
use Rattle.csv_days.specs.Checks.{HasNoted}
use Rattle.csv_days.proofs.ToldLemmas.{on-ok}
use Rattle.csv_days.proofs.table_check.TableCheck.add_rows.Goals as goal

pub returns-in_default-clause-check : goal.returns-in_default-clause-check
returns-in_default-clause-check g c = λ input start.
    let (read, has, count, noted) = c.loop-number.invariant.noted input start in
    let all = rw c.in_default.is at c.in_ok-row.ensures.row in
    let (names, whole, named) = all input read has in
    (names ∷ read, inl whole, c.in_ok-end_at.ensures c.loop-number.rows.columns names read named (omega (arith, count)) noted)

pub loop-number-preserved : goal.loop-number-preserved
loop-number-preserved g c =
    let good : is_ok c.add_row.result ≡ true = search rules in
    let notes = on-ok c.add_row.result _ good c.add_row.ensures.notes in
    let next = rw c.in-Some.is at c.in_ok-row.ensures.row in
    record {
      reads = c.in_ok-row.ensures.reads;
      noted = λ input start.
          let (read, has, count, noted) = c.loop-number.invariant.noted input start in (
            read ++ next.fields ∷ [],
            next.more input read has,
            omega (arith, count, length-append read (next.fields ∷ [])),
            subst (λ (k : Columns). HasNoted k (read ++ next.fields ∷ []) c.add_row.new.self) (sym next.columns)
                (notes c.loop-number.rows.columns read next.fields count next.is noted),
          );
    }
