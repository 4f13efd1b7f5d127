use Rattle.std.proofs.Common.{length, subst}
use Rattle.std.proofs.BufReadLemmas.{Consumes_shown}
use Rattle.std.specs.Io.BufRead.{FillKeeps}
use Rattle.std.specs.Io.KnownBytes.{Consumes}
use Rattle.participant_lines.proofs.frame.read_at_hand.Goals as goal

pub returns-clause-some : goal.returns-clause-some
returns-clause-some g c =
    let remaining = g.R.Read.remaining in
    let rested = c.fill_buf.follows.lender-at-none in
    let filled = subst (FillKeeps _ (remaining rested) (g.R.BufRead.consumable_len rested)) c.in-Ok.is c.fill_buf.follows.holds-at-none in
    let frame = c.in-Some.frame.now in
    let lost = Consumes_shown _ _ _ _ c.in-Ok.piece.now (length frame) c.in-Some.ensures.within c.in-Ok.ensures.front c.in-Ok.ensures.end
    filled.0 filled.1 c.consume.ensures.bytes in (
      frame,
      c.in-Some.ensures.frame,
      subst (Consumes (remaining c.args.reader.now) (remaining c.consume.new.self)) c.in-Some.ensures.front lost.0,
      c.spelled-found.ensures,
    )
