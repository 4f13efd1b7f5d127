use Rattle.std.proofs.lemmas.Result.{err_from_is_err_and}
use Rattle.csv_days.proofs.EndDayLemmas.{HasEnded-refusals, HasEnded-stale}
use Rattle.csv_days.proofs.strict.refusals_of_day.Goals as goal

pub returns-clause-told : goal.returns-clause-told
returns-clause-told c = λ matrix messages had. record {
  listed = c.in_ok-listing.ensures.ok messages had.names;
  refused = HasEnded-refusals matrix messages c.args.day.now had;
  stale = HasEnded-stale matrix messages c.args.day.now had;
}

pub returns-in_err-listing-clause-end : goal.returns-in_err-listing-clause-end
returns-in_err-listing-clause-end c = λ matrix messages had.
    let p = err_from_is_err_and c.from_residual.result c.from_residual.ensures.1 in
    rw (p.1, p.2) (c.in_err-listing.ensures.fault messages had.names)
