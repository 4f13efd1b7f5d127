use Rattle.std.proofs.Common.{◌≡◌}
use Rattle.toml.specs.View.{table_view}
use Rattle.day_terms.specs.Tables.{known_keys}
use Rattle.day_terms.proofs.TableLemmas.{known_names}
use Rattle.day_terms.proofs.table.judge_keys.Given as goal

-- the names so far are keys, so those that are left decide
abbrev pub invariant-loop-name : goal.invariant-loop-name
invariant-loop-name l = record {
  can : (goal.iterator-loop-name).can_next l.name-iterator;
  finite : (goal.iterator-loop-name).is_finite l.name-iterator;
  known : known_names l.name-iterator ≡ known_keys (table_view l.fn.table);
}
