use Rattle.std.proofs.Common.{sym}
use Rattle.std.proofs.lemmas.Bool.{false≢true}
use Rattle.toml.specs.View.{table_view}
use Rattle.day_terms.proofs.TableLemmas.{table_read, table_refused}
use Rattle.day_terms.proofs.table.table_of.Goals as goal

pub returns-in-Ok-clause-table : goal.returns-in-Ok-clause-table
returns-in-Ok-clause-table c = table_read c.args.text.now (table_view c.in-Ok.table) c.in-Ok.ensures.ok.0 c.in-Ok.ensures.ok.1

pub returns-in-Some-clause-table : goal.returns-in-Some-clause-table
returns-in-Some-clause-table c = table_refused c.args.text.now (c.in-Err.ensures.refused (λ memory. absurd (false≢true (sym (c.in-Some.ensures.none.1 memory)))))
