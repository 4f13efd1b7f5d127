-- Each word is found by its name.
use Rattle.std.proofs.Common.{◌≡◌, Some, refl}
use Rattle.command_line.specs.Commands.{word_name, word_of}
use Rattle.command_line.specs.declared.word.Word.{Word}
use Rattle.command_line.specs.declared.word.Word.TheVariants.{Report, Tape, Explain, Check, Verify, Encode, Decode, Line, Batch, Live, Follow, Watch, Status, End}

-- the word of a word's name is that word
pub word_of-name : (word : Word) → word_of (word_name word) ≡ Some word
word_of-name Report = refl
word_of-name Tape = refl
word_of-name Explain = refl
word_of-name Check = refl
word_of-name Verify = refl
word_of-name Encode = refl
word_of-name Decode = refl
word_of-name Line = refl
word_of-name Batch = refl
word_of-name Live = refl
word_of-name Follow = refl
word_of-name Watch = refl
word_of-name Status = refl
word_of-name End = refl
