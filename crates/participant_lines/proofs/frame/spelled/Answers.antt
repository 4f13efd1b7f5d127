use Rattle.participant_lines.proofs.Spelled.{spelled}
use Rattle.participant_lines.proofs.frame.spelled.Goals as goal

pub returns : goal.returns
returns c =
    spelled c.args.frame.now (c.in_ok-message.message, c.in_ok-message.field-0-1) c.requires c.in_ok-message.ensures.exact c.in_ok-message.ensures.found
