use Rattle.std.proofs.Common.{◌∙◌, List, Some, ap, sym}
use Rattle.retransmit.specs.Answers.{answer_text}
use Rattle.tape_core.specs.declared.entry.Entry.{Entry}
use Rattle.tapebox_c.proofs.Served.{served_one}
use Rattle.tapebox_c.proofs.readings.answer_in.Goals as goal

pub returns-in-Clean : goal.returns-in-Clean
returns-in-Clean c =
    served_one c.serve-end.result.ended c.args.session c.args.version c.of-source.result c.serve-end.new.source c.args.request.now c.new-text.result.items
    c.serve-end.new.writer.items (Some c.serve-end.new.reader.now) c.serve-end.result.served c.serve-end.ensures.serves c.in-Clean.is c.new-text.ensures.items c.told-request
    (sym c.published.ensures.count ∙ c.if-published.false ∙ c.published-published.ensures.count)
    ∙ ap (λ (es : List Entry). answer_text es c.args.session c.args.version c.args.request.now) c.of-source.ensures.entries
