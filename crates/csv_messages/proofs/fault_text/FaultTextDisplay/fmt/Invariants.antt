use Rattle.std.proofs.Common.{take}
use Rattle.std.specs.List.{flat_map}
use Rattle.std.specs.Fmt.{HasWritten, IsPlainFormatter}
use Rattle.csv_messages.specs.FaultTexts.{shown_byte}
use Rattle.csv_messages.proofs.fault_text.FaultTextDisplay.fmt.Given as goal

-- the bytes so far are written
abbrev pub invariant-loop-byte : goal.invariant-loop-byte
invariant-loop-byte g l =
    IsPlainFormatter l.initial.f → HasWritten g.W.Write.write_str_gives l.initial.f (flat_map shown_byte (take l.byte-index l.byte-items)) l.f
