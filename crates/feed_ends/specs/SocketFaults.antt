-- The text that says which socket could not be opened, and why.
use Rattle.std.specs.Prelude.{◌++◌, ◌∷◌, ℕ, List, codes, decimal}
use Rattle.std.specs.declared.io.ErrorKind.{ErrorKind}
use Rattle.std.specs.declared.io.ErrorKind.TheVariants as kind
use Rattle.feed_ends.specs.declared.cause.Cause.{Cause}
use Rattle.feed_ends.specs.declared.cause.Cause.TheVariants as cause
use Rattle.feed_ends.specs.declared.socket_fault.SocketFault.{SocketFault}
use Rattle.feed_ends.specs.declared.place.SocketPlace.{SocketPlace}
use Rattle.feed_ends.specs.declared.place.SocketPlace.TheVariants as place

-- the cause of a socket error, by its kind
abbrev pub cause_of : ErrorKind → Cause
cause_of kind.AddrInUse = cause.AddressInUse
cause_of kind.AddrNotAvailable = cause.AddressNotAvailable
cause_of kind.PermissionDenied = cause.PermissionDenied
cause_of kind.ConnectionRefused = cause.Refused
cause_of kind.ConnectionReset = cause.Reset
cause_of kind.TimedOut = cause.TimedOut
cause_of kind.NotFound = cause.NotFound
cause_of _ = cause.Other

-- a cause in words
abbrev pub cause_text : Cause → List ℕ
cause_text cause.AddressInUse = codes "address in use"
cause_text cause.AddressNotAvailable = codes "address not available"
cause_text cause.PermissionDenied = codes "permission denied"
cause_text cause.Refused = codes "connection refused"
cause_text cause.Reset = codes "connection reset"
cause_text cause.TimedOut = codes "timed out"
cause_text cause.NotFound = codes "not found"
cause_text cause.Other = codes "not opened"

-- a place and its port in words; the sender's socket takes any free port
abbrev pub place_text : SocketPlace → ℕ → List ℕ
place_text (place.Line participant) port = codes "port " ++ decimal port ++ codes " (" ++ (participant ∷ codes ")")
place_text place.A port = codes "line A " ++ decimal port
place_text place.B port = codes "line B " ++ decimal port
place_text place.Retransmission port = codes "retransmission " ++ decimal port
place_text place.Sender port = codes "the sender's socket"
place_text place.Control port = codes "control " ++ decimal port

-- which socket could not be opened, and why, in words
abbrev pub socket_fault_text : SocketFault → List ℕ
socket_fault_text fault = place_text fault.place fault.port ++ codes ": " ++ cause_text fault.cause
