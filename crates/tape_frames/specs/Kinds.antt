-- The kinds of packets, each by the byte after the version.
use Rattle.std.specs.Prelude.{ℕ}

-- the kind of a packet with entries: 'D'
abbrev pub DATA : ℕ
DATA = 68

-- the kind of a beat: 'H'
abbrev pub BEAT : ℕ
BEAT = 72

-- the kind of an end: 'E'
abbrev pub END : ℕ
END = 69
