-- Shows that a part of a header and of messages' lines is a part of a batch's text.
use Rattle.std.proofs.Common.{◌≡◌, ◌++◌, ℕ, List, Option}
use Rattle.std.specs.List.{flat_map}
use Rattle.reports.specs.declared.message.Message.{Message}
use Rattle.whole_io.specs.Writing.{WritesPrefix}
use Rattle.csv_days.specs.Days.{names_of}
use Rattle.message_texts.specs.EncodedTexts.{encoded_text, header_text, message_line}
use Rattle.tape_types.specs.Names.{Names}

-- a part of a header and of messages' lines is one of their text
pub encoded_part : (messages : List Message) (names : Names) (head : List ℕ) (old new : Option (List ℕ)) → names ≡ names_of messages → head ≡ header_text names
    → WritesPrefix (head ++ flat_map message_line messages) old new → WritesPrefix (encoded_text messages) old new
unfolding encoded_text
encoded_part messages names head old new are is written = rw (is, are) at written
