use Rattle.whole_io.specs.Lemmas.WriteLemmas.{WritesUpTo-none}
use Rattle.desk_words.proofs.telling.say_socket_fault.Goals as goal

-- nothing is said
pub returns-in_default : goal.returns-in_default
returns-in_default g c = (_, WritesUpTo-none _ _)
