-- Lemmas about lines on standard error, and about what a writer gets.
use Rattle.std.proofs.Common.{◌≡◌, ◌≢◌, ◌++◌, ◌∷◌, [], ℕ, List, Option, Bool, true, ap, append-nil, refl, subst, sym}
use Rattle.std.proofs.lemmas.Bool.{false≢true}
use Rattle.std.proofs.lemmas.List.Elements.{All-cons, All-nil, All-weaker}
use Rattle.std.proofs.lemmas.List.Sums.{AllPass-from_list_all}
use Rattle.std.specs.Io.KnownBytes.{Appends}
use Rattle.std.specs.List.{concat, list_all}
use Rattle.std.specs.Prelude.{◌==◌, codes, not}
use Rattle.whole_io.specs.Lemmas.WriteLemmas.{WritesPrefix-longer, WritesPrefix-then, WritesPrefix-whole, WritesUpTo-none}
use Rattle.whole_io.specs.Lines.{AreLines, HasNoLineFeed, IsLine, WritesLines}
use Rattle.whole_io.specs.Writing.{WritesPrefix}
use Rattle.command_line.specs.Statuses.{status_text}
use Rattle.command_line.specs.declared.status.Status.{Status}
use Rattle.command_line.specs.declared.status.Status.TheVariants.{Done, Differs, Bad, ReadFault, WriteFault, OutOfMemory, NotStarted, Disagrees}
use Rattle.desk_words.specs.Outputs.{Grows}
use Rattle.desk_words.specs.Tellings.{SaysBadArguments, bad_arguments_line}

-- ## Lines

-- whether a byte is no line feed
abbrev is_other : ℕ → Bool
is_other byte = not (byte == 10)

other : (byte : ℕ) → is_other byte ≡ true → byte ≢ 10
other byte is same = false≢true (subst (λ (b : ℕ). not (b == 10) ≡ true) same is)

-- no byte is a line feed if each passes the test
no_line_feed : (words : List ℕ) → list_all is_other words ≡ true → HasNoLineFeed words
no_line_feed words is = All-weaker (λ byte. is_other byte ≡ true) (λ byte. byte ≢ 10) other words (AllPass-from_list_all is_other words is)

-- a text of no line
no_line : AreLines []
no_line = ([], All-nil IsLine, refl)

-- a text of one line
one_line : (words : List ℕ) → HasNoLineFeed words → AreLines (codes "tapebox: " ++ words ++ 10 ∷ [])
one_line words none =
    let line : List ℕ = codes "tapebox: " ++ words ++ 10 ∷ [] in
    (line ∷ [], All-cons IsLine line [] (words, none, refl) (All-nil IsLine), sym (append-nil line))

-- the text of a status is a line, or empty
status_are : (status : Status) → AreLines (status_text status)
status_are Done = no_line
status_are Differs = no_line
status_are Bad = no_line
status_are ReadFault = one_line (codes "read fault") (no_line_feed (codes "read fault") refl)
status_are WriteFault = one_line (codes "write fault") (no_line_feed (codes "write fault") refl)
status_are OutOfMemory = one_line (codes "out of memory") (no_line_feed (codes "out of memory") refl)
status_are NotStarted = one_line (codes "worker not started") (no_line_feed (codes "worker not started") refl)
status_are Disagrees = one_line (codes "tape disagrees") (no_line_feed (codes "tape disagrees") refl)

-- what is said of a status is a prefix of lines
pub status_lines : (status : Status) (old new : Option (List ℕ)) → WritesPrefix (status_text status) old new → WritesLines old new
status_lines status old new said = (status_text status, status_are status, said)

-- ## Bad arguments

-- the line about bad arguments, and lines behind it
pub bad_then : (old now new : Option (List ℕ)) → Appends old now bad_arguments_line → WritesLines now new → SaysBadArguments old new
bad_then old now new written more = (more.0, more.1, WritesPrefix-then bad_arguments_line more.0 old now new written more.2)

-- a part of the line about bad arguments
pub bad_part : (old new : Option (List ℕ)) → WritesPrefix bad_arguments_line old new → SaysBadArguments old new
bad_part old new part = ([], no_line, WritesPrefix-longer bad_arguments_line [] old new part)

-- the line about bad arguments alone
pub bad_alone : (old new : Option (List ℕ)) → Appends old new bad_arguments_line → SaysBadArguments old new
bad_alone old new written = bad_part old new (WritesPrefix-whole bad_arguments_line old new written)

-- these are lines
pub bad_lines : (old new : Option (List ℕ)) → SaysBadArguments old new → WritesLines old new
bad_lines old new said =
    let more = said.1 in (
      bad_arguments_line ++ said.0,
      (
        bad_arguments_line ∷ more.0,
        All-cons IsLine bad_arguments_line more.0 (codes "bad arguments", no_line_feed (codes "bad arguments") refl, refl) more.1,
        ap (λ (l : List ℕ). bad_arguments_line ++ l) more.2,
      ),
      said.2,
    )

-- ## Nothing and something

-- nothing is said
pub nothing_said : (text : List ℕ) (known : Option (List ℕ)) → WritesPrefix text known known
nothing_said text known = (text, WritesUpTo-none text known)

-- no line is said
pub no_lines : (known : Option (List ℕ)) → WritesLines known known
no_lines known = ([], no_line, nothing_said [] known)

-- a text was written
pub grown : (text : List ℕ) (old new : Option (List ℕ)) → Appends old new text → Grows old new
grown text old new written = (text, written)

-- a part of a text was written
pub grows : (text : List ℕ) (old new : Option (List ℕ)) → WritesPrefix text old new → Grows old new
grows text old new part = (part.1.prefix, part.1.written)
