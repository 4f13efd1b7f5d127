use Rattle.std.proofs.Common.{◌∙◌, ap}
use Rattle.command_line.proofs.WordLemmas.{word_of-name}
use Rattle.command_line.specs.Commands.{word_of}
use Rattle.command_line.proofs.word.Word.named.Goals as goal

pub returns-clause-each : goal.returns-clause-each
returns-clause-each c = λ word is. c.first_named.ensures ∙ ap word_of is ∙ word_of-name word
