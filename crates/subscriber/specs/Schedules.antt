-- The schedules of a tape and a subscriber: messages are admitted, packets come, the subscriber drains and restarts.
use Rattle.std.specs.Prelude.{◌≡◌, ℕ, Bool, true, false, List, [], ◌∷◌, length, max, is_some, ◌⊎◌}
use Rattle.tape_types.specs.Names.{Names}
use Rattle.sale_matrix.specs.declared.matrix.Matrix.{Matrix}
use Rattle.reports.specs.declared.message.Message.{Message}
use Rattle.tape_core.specs.Answers.{tape_after}
use Rattle.tape_core.specs.Tape.{TapeState, empty_tape, tape_before}
use Rattle.tape_frames.specs.declared.packet.Packet.{Packet}
use Rattle.tape_frames.specs.Cuts.{IsCutOf}
use Rattle.tape_frames.specs.Packets.{entries_of, last_of}
use Rattle.arbitration.specs.declared.line.Line.{Line}
use Rattle.arbitration.specs.Deliveries.{window_after, entry_numbered}
use Rattle.subscriber.specs.Subscribers.{SubscriberState, new_subscriber, subscriber_after}

-- a tape, the session that it is sent under, and a subscriber with its own limit
pub record World : Type 0 where
  pub session : ℕ
  pub limit : ℕ
  pub tape : TapeState
  pub subscriber : SubscriberState

-- an empty tape of the listing and the matrix, and a new subscriber of the same listing, matrix and session
abbrev pub start : Names → Matrix → ℕ → ℕ → ℕ → World
start listing matrix tape_limit limit session = record {
  session = session;
  limit = limit;
  tape = empty_tape listing tape_limit matrix;
  subscriber = new_subscriber listing limit session matrix;
}

-- what may happen next
pub data Event : Type 0 where
  -- the tape gets a message, which it admits or refuses
  Admits : (message : Message) → Event
  -- the tape is closed
  Closes : Event
  -- a packet comes by a line and is taken
  Comes : (line : Line) → (packet : Packet) → Event
  -- the subscriber drains, and ends after this many entries: nothing more is ready, memory runs out, or it stops for another
  -- reason
  Drains : (count : ℕ) → Event
  -- the subscriber restarts
  Restarts : Event

-- the world after an event
abbrev pub world_after : World → Event → World
world_after w (Admits message) = record w { tape = tape_after w.tape message }
world_after w Closes = record w { tape = record w.tape { closed = true } }
world_after w (Comes line packet) = record w { subscriber = record w.subscriber { window = window_after w.subscriber.window line packet } }
world_after w (Drains count) = record w { subscriber = subscriber_after count w.subscriber }
world_after w Restarts = record w { subscriber = new_subscriber w.tape.listing w.limit w.session w.tape.matrix }

-- the world after the events
abbrev pub run : World → List Event → World
run w [] = w
run w (event ∷ events) = run (world_after w event) events

-- the tape as far as the subscriber holds it
abbrev pub held_prefix : World → TapeState
held_prefix w = tape_before w.tape (length w.subscriber.tape.entries)

-- a packet cut from the tape as it is at this point
abbrev pub IsCut : World → Packet → Type 0
IsCut w packet = IsCutOf w.session w.tape packet

-- each packet that comes is cut from the tape as it is at that point
abbrev pub IsAllowed : World → Event → Type 0
IsAllowed w (Admits message) = Unit {0}
IsAllowed w Closes = Unit {0}
IsAllowed w (Comes line packet) = IsCut w packet
IsAllowed w (Drains count) = Unit {0}
IsAllowed w Restarts = Unit {0}

-- each event is allowed in its turn
abbrev pub IsSchedule : World → List Event → Type 0
IsSchedule w [] = Unit {0}
IsSchedule w (event ∷ events) = IsAllowed w event × IsSchedule (world_after w event) events

-- a schedule of these events leads to this world
pub record LeadsTo (events : List Event) (w : World) : Type 0 where
  pub listing : Names
  pub matrix : Matrix
  pub tape_limit : ℕ
  pub limit : ℕ
  pub session : ℕ
  pub allowed : IsSchedule (start listing matrix tape_limit limit session) events
  pub ends : run (start listing matrix tape_limit limit session) events ≡ w

-- these events lead to this world, whatever comes
pub record EndsIn (events : List Event) (w : World) : Type 0 where
  pub listing : Names
  pub matrix : Matrix
  pub tape_limit : ℕ
  pub limit : ℕ
  pub session : ℕ
  pub ends : run (start listing matrix tape_limit limit session) events ≡ w

-- the greatest last number of the packets that came since the last restart
abbrev pub announced_by : ℕ → List Event → ℕ
announced_by most [] = most
announced_by most (Admits message ∷ events) = announced_by most events
announced_by most (Closes ∷ events) = announced_by most events
announced_by most (Comes line packet ∷ events) = announced_by (max most (last_of packet)) events
announced_by most (Drains count ∷ events) = announced_by most events
announced_by most (Restarts ∷ events) = announced_by 0 events

-- the event is a restart
abbrev pub is_restart : Event → Bool
is_restart (Admits message) = false
is_restart Closes = false
is_restart (Comes line packet) = false
is_restart (Drains count) = false
is_restart Restarts = true

-- a packet that comes has an entry of this number
abbrev pub brings : ℕ → Event → Bool
brings n (Admits message) = false
brings n Closes = false
brings n (Comes line packet) = is_some (entry_numbered n (entries_of packet))
brings n (Drains count) = false
brings n Restarts = false

-- none of the events is a restart
abbrev pub HasNoRestart : List Event → Type 0
HasNoRestart [] = Unit {0}
HasNoRestart (event ∷ events) = (is_restart event ≡ false) × HasNoRestart events

-- one of the events brings the number
abbrev pub Brings : ℕ → List Event → Type 0
Brings n [] = ⊥
Brings n (event ∷ events) = (brings n event ≡ true) ⊎ Brings n events
