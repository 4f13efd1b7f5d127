-- Defines the numbers of the calls' faults.
use Rattle.std.specs.Prelude.{ℕ}
use Rattle.tape_types.specs.Header.{header_fault_code}
use Rattle.reports.specs.Faults.{message_fault_code}
use Rattle.retransmit.specs.Faults.{ask_fault_code}
use Rattle.subscriber.specs.Faults.{delivery_fault_code, stop_code}
use Rattle.tape_core.specs.Refusals.{refusal_code, tape_fault_code}
use Rattle.tape_frames.specs.Faults.{packet_fault_code, request_fault_code}
use Rattle.tapebox_c.specs.declared.fault.CallFault.{CallFault}
use Rattle.tapebox_c.specs.declared.fault.CallFault.TheVariants.{NoTape, NoSubscriber, InUse, BadMatrix, NoEntry, NoLine, NoListing, NotMade}
use Rattle.tapebox_c.specs.declared.fault.CallFault.TheVariants.{NoMessage, ExtraBytes, Refused, NotDelivered, Stopped}
use Rattle.tapebox_c.specs.declared.fault.CallFault.TheVariants.{NoRequest, NoRoom, OutOfMemory, NoTable, BadTable, NoPacket, BadRequest, NotAnswered}

-- the number of a fault
abbrev pub fault_code : CallFault → ℕ
fault_code NoTape = 101
fault_code NoSubscriber = 102
fault_code InUse = 103
fault_code BadMatrix = 104
fault_code NoEntry = 105
fault_code NoLine = 106
fault_code NoRequest = 107
fault_code NoRoom = 108
fault_code OutOfMemory = 109
fault_code NoTable = 110
fault_code BadTable = 111
fault_code (NoListing fault) = header_fault_code fault
fault_code (NotMade fault) = tape_fault_code fault
fault_code (NoMessage fault) = message_fault_code fault
fault_code ExtraBytes = 23
fault_code (Refused refusal) = refusal_code refusal
fault_code (NotDelivered fault) = delivery_fault_code fault
fault_code (Stopped stop) = stop_code stop
fault_code (NoPacket fault) = packet_fault_code fault
fault_code (BadRequest fault) = request_fault_code fault
fault_code (NotAnswered fault) = ask_fault_code fault
