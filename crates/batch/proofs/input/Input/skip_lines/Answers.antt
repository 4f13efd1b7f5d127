use Rattle.batch.proofs.InputLemmas.{TakesLines-both, TakesLines-within}
use Rattle.batch.proofs.input.Input.skip_lines.Goals as goal

pub loop-preserved : goal.loop-preserved
loop-preserved g c =
    let remaining = g.B.Read.remaining in (
      _,
      TakesLines-both (remaining c.args.self.now.left) (remaining c.loop.self.left)
          (remaining c.skip_line.new.self.left) _ c.loop.self.taken _ _ _ c.loop.invariant.1 c.in_ok-skip_line.ensures.took.1,
    )

pub returns-clause-fits : goal.returns-clause-fits
returns-clause-fits g c =
    let remaining = g.B.Read.remaining in
    let end = c.in_ok-skip_line.ensures.end (cc) in
    TakesLines-within (remaining c.args.self.now.left) (remaining c.loop.self.left) _ c.loop.self.taken _ c.loop.invariant.1 end.0
    (rw end.1 at c.in_ok-skip_line.ensures.fits)
