-- States the law that an encoded text reads back.
use Rattle.std.specs.Prelude.{◌≡◌, List, All, None}
use Rattle.reports.specs.Spelling.{IsMessage}
use Rattle.reports.specs.declared.message.Message.{Message}
use Rattle.csv_days.specs.Days.{participants_of, symbols_of}
use Rattle.message_texts.specs.DecodedTexts.{IsText}
use Rattle.message_texts.specs.EncodedTexts.{encoded_text}
use Rattle.tape_types.specs.Names.{names_fault}

-- the text of messages whose names make a listing reads back as those messages
abbrev pub EncodedReadsBack : Type 0
EncodedReadsBack =
    (messages : List Message) → All IsMessage messages → names_fault (symbols_of messages) (participants_of messages) ≡ None
    → IsText (encoded_text messages) messages
