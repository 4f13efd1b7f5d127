use Rattle.std.proofs.Common.{◌≡◌, Ok, rules}
use Rattle.std.proofs.lemmas.Result.{IfOk-at_ok, err_from_is_err_and}
use Rattle.batch.proofs.InputLemmas.{EndsReading-line, TakesLines-skipped, skipped-too_large}
use Rattle.batch.proofs.input.Input.skip_line.Goals as goal

pub returns-clause-took : goal.returns-clause-took
returns-clause-took g c =
    let skipped = c.skip_until-skipped in
    let read : skipped.result ≡ Ok c.in_ok-len.len = search rules in
    TakesLines-skipped (g.B.Read.remaining c.args.self.now.left) (g.B.Read.remaining c.count.new.self.left) _ c.count.new.self.taken c.in_ok-len.len
    (rw c.count.ensures.left (IfOk-at_ok _ read skipped.ensures.rest)) (IfOk-at_ok _ read skipped.ensures.count) c.in_ok-count.ensures.taken
    c.in_ok-count.ensures.fits

pub returns-in_err-count-clause-err : goal.returns-in_err-count-clause-err
returns-in_err-count-clause-err g c =
    let skipped = c.skip_until-skipped in
    let read : skipped.result ≡ Ok c.in_ok-len.len = search rules in
    let over = skipped-too_large (g.B.Read.remaining c.args.self.now.left) _ c.in_ok-len.len _ c.in_err-count.ensures.err (IfOk-at_ok _ read skipped.ensures.count) in
    search (rules, over)

pub returns-in_err-len-clause-err : goal.returns-in_err-len-clause-err
returns-in_err-len-clause-err g c =
    let p = err_from_is_err_and c.from_residual.result c.from_residual.ensures.1 in
    rw p.1 (EndsReading-line (g.B.Read.remaining c.args.self.now.left) c.args.self.now.taken c.in_err-len.field-0.0 p.0 p.2)
