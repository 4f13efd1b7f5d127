-- When a packet is taken, when it is refused, and the window after it.
use Rattle.std.specs.Prelude.{◌≡◌, ◌≢◌, ℕ, ◌+◌, ◌-◌, ◌<◌, ◌==◌, ◌||◌, Bool, true, false, not, nat_lt, if◌then◌else◌}
use Rattle.std.specs.Prelude.{List, [], ◌∷◌, Option, None, Some, slice_get, max, find, All, Contains, IfSome}
use Rattle.std.specs.Option.{option_or}
use Rattle.tape_core.specs.declared.entry.Entry.{Entry}
use Rattle.tape_frames.specs.declared.packet.Packet.{Packet}
use Rattle.tape_frames.specs.Packets.{session_of, entries_of, last_of, end_of}
use Rattle.arbitration.specs.declared.line.Line.{Line}
use Rattle.arbitration.specs.declared.deliver_fault.DeliverFault.{DeliverFault}
use Rattle.arbitration.specs.declared.deliver_fault.DeliverFault.TheVariants.{Foreign, Conflict, PastEnd}
use Rattle.arbitration.specs.Windows.{WindowState, flat}
use Rattle.arbitration.specs.Counts.{taken_of, brought_with}

-- the entry of a packet that has a number
abbrev pub entry_numbered : ℕ → List Entry → Option Entry
entry_numbered n es = find (λ e. e.number == n) es

-- each slot keeps its entry, and an empty one takes the packet's entry of its number
abbrev pub slots_after : ℕ → List (Option Entry) → List Entry → List (Option Entry)
slots_after next [] es = []
slots_after next (slot ∷ slots) es = option_or slot (entry_numbered next es) ∷ slots_after (next + 1) slots es

-- the entry that is known under a number: held, or waiting
abbrev pub known_entry : List Entry → ℕ → List (Option Entry) → ℕ → Option Entry
known_entry held next slots n = if nat_lt n next then slice_get held (n - 1) else flat (slice_get slots (n - next))

-- no other entry is known under its number
abbrev pub Agrees : List Entry → ℕ → List (Option Entry) → Entry → Type 0
Agrees held next slots e = IfSome (known_entry held next slots e.number) (λ other. other ≡ e)

-- the least number of an entry that does not agree
pub record IsLeastConflict (held : List Entry) (next : ℕ) (slots : List (Option Entry)) (es : List Entry) (n : ℕ) : Type 0 where
  pub entry : Entry
  pub sent : Contains es entry
  pub number : entry.number ≡ n
  pub differs : ¬ (Agrees held next slots entry)
  pub least : All (λ e. e.number < n → Agrees held next slots e) es

-- a last number is above the known end
abbrev pub is_beyond : Option ℕ → ℕ → Bool
is_beyond None last = false
is_beyond (Some count) last = nat_lt count last

-- an end is not the known one, or is below the greatest number announced
abbrev pub is_other_end : Option ℕ → ℕ → Option ℕ → Bool
is_other_end ended announced None = false
is_other_end None announced (Some count) = nat_lt count announced
is_other_end (Some known) announced (Some count) = not (count == known)

-- the packet's last number or its end contradicts what is known of the end
abbrev pub is_past_end : WindowState → Packet → Bool
is_past_end w q = is_beyond w.ended (last_of q) || is_other_end w.ended w.announced (end_of q)

-- the packet is taken
pub record Accepts (w : WindowState) (held : List Entry) (q : Packet) : Type 0 where
  pub session : session_of q ≡ w.session
  pub agrees : All (Agrees held (w.base + 1) w.slots) (entries_of q)
  pub in_time : is_past_end w q ≡ false

-- the packet is refused, by the first reason that applies
abbrev pub Refuses : WindowState → List Entry → Packet → DeliverFault → Type 0
Refuses w held q Foreign = session_of q ≢ w.session
Refuses w held q (Conflict n) = (session_of q ≡ w.session) × IsLeastConflict held (w.base + 1) w.slots (entries_of q) n
Refuses w held q PastEnd =
    (session_of q ≡ w.session) × All (Agrees held (w.base + 1) w.slots) (entries_of q) × (is_past_end w q ≡ true)

-- the window after a packet is taken
abbrev pub window_after : WindowState → Line → Packet → WindowState
window_after w line q = record {
  session = w.session;
  base = w.base;
  slots = slots_after (w.base + 1) w.slots (entries_of q);
  announced = max w.announced (last_of q);
  ended = option_or (end_of q) w.ended;
  brought = brought_with w.brought line (taken_of (w.base + 1) w.slots (entries_of q)).fresh;
}
