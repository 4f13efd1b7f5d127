-- Which option or command an argument may have been meant for.
use Rattle.std.specs.Prelude.{ℕ, List, Option, None, Some, Bool, find, length, nat_eq, nat_le, if◌then◌else◌}
use Rattle.strsim.specs.Edits.{levenshtein_row}
use Rattle.command_line.specs.Given.{is_option, option_name}
use Rattle.command_line.specs.Commands.{all_words, flag_name, flags_of, word_name}
use Rattle.command_line.specs.declared.flag.Flag.{Flag}
use Rattle.command_line.specs.declared.word.Word.{Word}

-- whether at most so many edits lead from one name to another
abbrev pub are_near : ℕ → List ℕ → List ℕ → Bool
are_near edits name other = nat_le (levenshtein_row nat_eq name other (length other)) edits

-- whether a name is similar to an option's
abbrev pub is_flag_near : List ℕ → Flag → Bool
is_flag_near name flag = are_near 2 name (flag_name flag)

-- the option of a command that an argument may have been meant for
abbrev pub similar_flag : Word → List ℕ → Option Flag
similar_flag word argument = if is_option argument then find (is_flag_near (option_name argument)) (flags_of word) else None

-- whether at most so many edits lead from a name to a command's
abbrev pub is_word_near : ℕ → List ℕ → Word → Bool
is_word_near edits name word = are_near edits name (word_name word)

-- this command, or the other if there is none
abbrev pub word_or : Option Word → Option Word → Option Word
word_or (Some word) other = Some word
word_or None other = other

-- the command that a name may have been meant for: the first at one edit from it, else the first at two
abbrev pub similar_word : List ℕ → Option Word
similar_word name = word_or (find (is_word_near 1 name) all_words) (find (is_word_near 2 name) all_words)
