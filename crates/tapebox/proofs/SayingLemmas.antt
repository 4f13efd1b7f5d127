-- What is said on standard error.
use Rattle.std.proofs.Common.{[], List, Option, refl, ℕ}
use Rattle.std.proofs.lemmas.List.Elements.{All-nil}
use Rattle.whole_io.specs.Lemmas.WriteLemmas.{WritesUpTo-none}
use Rattle.whole_io.specs.Lines.{IsLine, WritesLines}
use Rattle.whole_io.specs.Writing.{WritesPrefix}

-- nothing is a prefix of each text
pub nothing_said : (text : List ℕ) (known : Option (List ℕ)) → WritesPrefix text known known
nothing_said text known = (text, WritesUpTo-none text known)

-- no line is said
pub no_lines : (known : Option (List ℕ)) → WritesLines known known
no_lines known = ([], ([], All-nil IsLine, refl), nothing_said [] known)
