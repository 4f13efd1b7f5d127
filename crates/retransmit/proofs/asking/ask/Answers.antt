use Rattle.std.proofs.Common.{rules, subst}
use Rattle.std.specs.Io.KnownBytes.{Appends}
use Rattle.retransmit.proofs.asking.ask.Goals as goal

pub returns-clause-wrote : goal.returns-clause-wrote
returns-clause-wrote g c =
    let held = g.W.Write.contents c.args.writer.now in
    let holds = g.W.Write.contents c.send.new.writer in
    let sent : Appends held holds c.write_request.result = search rules in
    λ other. subst (Appends held holds) c.write_request.ensures.text sent
