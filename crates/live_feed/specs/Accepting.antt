-- Why no connection was accepted.
use Rattle.std.specs.Prelude.{ℕ, ℤ, pos, negsuc, ◌==◌, ◌||◌, Bool, false, Option, None, Some}

-- the error numbers of Linux after which another connection may be accepted: an interrupted call; memory, files of the system
-- and of the process, or room for sockets that lack for now; a connection that its peer gave up
abbrev pub EINTR : ℕ
EINTR = 4

abbrev pub ENOMEM : ℕ
ENOMEM = 12

abbrev pub ENFILE : ℕ
ENFILE = 23

abbrev pub EMFILE : ℕ
EMFILE = 24

abbrev pub ECONNABORTED : ℕ
ECONNABORTED = 103

abbrev pub ENOBUFS : ℕ
ENOBUFS = 105

-- another connection may be accepted after an error of this number; an error that is not the system's has none
abbrev pub is_transient : Option ℤ → Bool
is_transient None = false
is_transient (Some (negsuc code)) = false
is_transient (Some (pos code)) =
    code == EINTR || code == ENOMEM || code == ENFILE || code == EMFILE || code == ECONNABORTED || code == ENOBUFS
