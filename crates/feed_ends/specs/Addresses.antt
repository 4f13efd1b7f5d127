-- Addresses of this machine.
use Rattle.std.specs.Prelude.{◌≡◌, ℕ, [], ◌∷◌}
use Rattle.std.specs.Net.Addr.{ipv4_octets}
use Rattle.std.specs.Net.Socket.{socket_ip, socket_port}
use Rattle.std.specs.declared.net.ip_addr.IpAddr.TheVariants.{V4}
use Rattle.std.specs.declared.net.ipv4_addr.Ipv4Addr.{Ipv4Addr}
use Rattle.std.specs.declared.net.socket_addr.SocketAddr.{SocketAddr}

-- the address is that of a port on 127.0.0.1, which no other machine reaches
pub record IsHere (address : SocketAddr) (port : ℕ) : Type 0 where
  pub ip : Ipv4Addr
  pub has_ip : socket_ip address ≡ V4 ip
  pub octets : ipv4_octets ip ≡ 127 ∷ 0 ∷ 0 ∷ 1 ∷ []
  pub has_port : socket_port address ≡ port
