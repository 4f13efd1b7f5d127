-- Defines the end of a batch for each end of its reading, and the status and the text of each end.
use Rattle.std.specs.Prelude.{ℕ, List, [], codes}
use Rattle.batch.specs.declared.batch_end.BatchEnd.{BatchEnd}
use Rattle.batch.specs.declared.batch_end.BatchEnd.TheVariants.{Done, BadHeader, TooLarge, ReadFault, WriteFault, OutOfMemory}
use Rattle.whole_io.specs.declared.reading.ReadFault.{ReadFault as Unread}
use Rattle.whole_io.specs.declared.reading.ReadFault.TheVariants as line
use Rattle.batch.specs.declared.read_end.ReadEnd.{ReadEnd}
use Rattle.batch.specs.declared.read_end.ReadEnd.TheVariants.{TooLarge as ReadTooLarge, ReadFault as ReadFailed, OutOfMemory as ReadOutOfMemory}

-- the end of reading if a line could not be taken
abbrev pub end_of_line : Unread → ReadEnd
end_of_line line.Failed = ReadFailed
end_of_line line.OutOfMemory = ReadOutOfMemory

-- the end of a batch whose reading ended so
abbrev pub end_of_reading : ReadEnd → BatchEnd
end_of_reading ReadTooLarge = TooLarge
end_of_reading ReadFailed = ReadFault
end_of_reading ReadOutOfMemory = OutOfMemory

-- the status that the program ends with
abbrev pub end_status : BatchEnd → ℕ
end_status Done = 0
end_status BadHeader = 2
end_status TooLarge = 2
end_status ReadFault = 3
end_status WriteFault = 4
end_status OutOfMemory = 5

-- the text on standard error
abbrev pub end_text : BatchEnd → List ℕ
end_text Done = []
end_text BadHeader = []
end_text TooLarge = codes "tapebox: input too large\n"
end_text ReadFault = codes "tapebox: read fault\n"
end_text WriteFault = codes "tapebox: write fault\n"
end_text OutOfMemory = codes "tapebox: out of memory\n"
