use Rattle.std.proofs.Common.{◌∙◌, sym}
use Rattle.csv_days.proofs.RefusalLemmas.{RefusesNone-all, all-RefusesNone}
use Rattle.csv_days.proofs.refusals.Refusals.is_empty.Goals as goal

pub returns : goal.returns
returns c = record {
  empty = (λ is. RefusesNone-all c.args.self.now (sym c.has_none_of.ensures.none ∙ is), λ none. c.has_none_of.ensures.none ∙ all-RefusesNone c.args.self.now none);
}
