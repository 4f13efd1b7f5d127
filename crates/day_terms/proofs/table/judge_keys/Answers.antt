use Rattle.day_terms.proofs.TableLemmas.{known_names_all}
use Rattle.day_terms.proofs.table.judge_keys.Goals as goal

pub loop-name-init : goal.loop-name-init
loop-name-init c = record {
  can = tt;
  finite = tt;
  known = rw (c.into_iter-name-iterator.ensures.into_iter_gives, c.keys-name-items.ensures.rest) (known_names_all c.args.table.now.entries);
}
