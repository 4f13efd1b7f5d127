-- The keys of a day's file, and the numbers that may stand at them.
use Rattle.std.specs.Prelude.{ℕ, Bool, List, codes}
use Rattle.std.specs.List.{list_any}
use Rattle.std.specs.Str.{bytes_eq}
use Rattle.tape_types.specs.Ranges.{TAPE_MOST}
use Rattle.std.specs.Prelude.{◌∷◌, []}
use Rattle.day_terms.specs.declared.day_key.DayKey.{DayKey}
use Rattle.day_terms.specs.declared.day_key.DayKey.TheVariants.{Symbols, Participants, Port, A, B, Retransmission, Followers, Session, Matrix, Limit, ConnectWithin, FollowersWait, Control, Journal, JournalSync}

-- the name of a key, as the file spells it
abbrev pub key_text : DayKey → List ℕ
key_text Symbols = codes "symbols"
key_text Participants = codes "participants"
key_text Port = codes "port"
key_text A = codes "a"
key_text B = codes "b"
key_text Retransmission = codes "retransmission"
key_text Followers = codes "followers"
key_text Session = codes "session"
key_text Matrix = codes "matrix"
key_text Limit = codes "limit"
key_text ConnectWithin = codes "connect_within"
key_text FollowersWait = codes "followers_wait"
key_text Control = codes "control"
key_text Journal = codes "journal"
key_text JournalSync = codes "journal_sync"

-- all keys, in the order in which they are read
abbrev pub all_keys : List DayKey
all_keys = Symbols ∷ Participants ∷ Port ∷ A ∷ B ∷ Retransmission ∷ Followers ∷ Session ∷ Matrix ∷ Limit ∷ ConnectWithin ∷ FollowersWait ∷ Control ∷ Journal ∷ JournalSync ∷ []

-- whether a day's file may have a key of this name
unfoldable pub is_key : List ℕ → Bool
is_key name = list_any (λ key. bytes_eq (key_text key) name) all_keys

-- the greatest number of seconds: those of one day
abbrev pub SECONDS_MOST : ℕ
SECONDS_MOST = 86400

-- the least number that a key or its list may have
abbrev pub key_least : DayKey → ℕ
key_least Followers = 0
key_least Session = 0
key_least FollowersWait = 0
key_least _ = 1

-- the greatest number that a key or its list may have
abbrev pub key_most : DayKey → ℕ
key_most Session = 9223372036854775807
key_most Matrix = 2
key_most Limit = TAPE_MOST
key_most ConnectWithin = SECONDS_MOST
key_most FollowersWait = SECONDS_MOST
key_most _ = 65535
