use Rattle.std.proofs.Common.{sym}
use Rattle.retransmit.specs.declared.reply.Answer.TheVariants.{Refused, Range}
use Rattle.retransmit.proofs.ReadAgain.{OnOk-always, OnOk-then, answer_is_read, fault_is_read}
use Rattle.retransmit.proofs.putting.put_answer.Goals as goal

pub returns-in-Err-clause-read : goal.returns-in-Err-clause-read
returns-in-Err-clause-read g c =
    OnOk-always c.extend_from_slice.result
    (fault_is_read (g.S.Source.list c.args.source.now) c.args.session c.args.version c.args.bytes.now c.in-Err.fault (sym c.in-Err.ensures.exact))

pub returns-in-Refused-clause-read : goal.returns-in-Refused-clause-read
returns-in-Refused-clause-read g c =
    OnOk-always c.extend_from_slice-in-Refused.result
    (answer_is_read (g.S.Source.list c.args.source.now) c.args.session c.args.version c.args.bytes.now c.in-Ok.request (Refused c.in-Refused.refusal)
    (sym c.in-Ok.ensures.exact) (sym c.in-Refused.ensures.exact)
    c.in-Refused.ensures.within tt)

pub returns-in-Range-clause-read : goal.returns-in-Range-clause-read
returns-in-Range-clause-read g c =
    OnOk-then c.put_range.result
    (answer_is_read (g.S.Source.list c.args.source.now) c.args.session c.args.version c.args.bytes.now c.in-Ok.request (Range c.in-Range.from c.in-Range.to)
    (sym c.in-Ok.ensures.exact) (sym c.in-Range.ensures.exact)
    c.in-Range.ensures.within)
    c.put_range.ensures.short
