-- Defines where a control socket is, and who can enter its folder.
use Rattle.std.specs.Prelude.{◌≡◌, ℕ, List, [], ◌∷◌, bit_and, codes, Bool, true, false, Option, Some, None, Result, Ok, Err}
use Rattle.std.specs.Path.{path_parent}
use Rattle.std.specs.Net.Addr.{ipv4_octets}
use Rattle.std.specs.Net.Socket.{socket_ip, socket_port}
use Rattle.std.specs.declared.net.ip_addr.IpAddr.TheVariants.{V4}
use Rattle.std.specs.declared.net.ipv4_addr.Ipv4Addr.{Ipv4Addr}
use Rattle.std.specs.declared.net.socket_addr.SocketAddr.{SocketAddr}
use Rattle.day_control.specs.declared.control_fault.ControlFault.{ControlFault}
use Rattle.day_control.specs.declared.control_fault.ControlFault.TheVariants.{NotASocket, InUse}
use Rattle.day_control.specs.declared.standing.Occupant.{Occupant}
use Rattle.day_control.specs.declared.standing.Occupant.TheVariants.{Nothing, OtherFile, Deserted, Answered}

-- the address is that of a port on 127.0.0.1, which no other machine reaches
pub record IsHere (address : SocketAddr) (port : ℕ) : Type 0 where
  pub ip : Ipv4Addr
  pub has_ip : socket_ip address ≡ V4 ip
  pub octets : ipv4_octets ip ≡ 127 ∷ 0 ∷ 0 ∷ 1 ∷ []
  pub has_port : socket_port address ≡ port

-- the folder before a name, or the program's working folder if none is there
abbrev pub named_folder : Option (List ℕ) → List ℕ
named_folder None = codes "."
named_folder (Some []) = codes "."
named_folder (Some (byte ∷ rest)) = byte ∷ rest

-- the folder of the file at a path
abbrev pub folder_of : List ℕ → List ℕ
folder_of path = named_folder (path_parent path)

-- a folder of this mode grants its group and others nothing
abbrev pub IsPrivate : ℕ → Type 0
IsPrivate mode = bit_and mode 63 ≡ 0

-- whether what is at a path is removed before a socket is made there: only a socket that nobody answers at
abbrev pub cleared : Occupant → Result Bool ControlFault
cleared Nothing = Ok false
cleared Deserted = Ok true
cleared OtherFile = Err NotASocket
cleared Answered = Err InUse
