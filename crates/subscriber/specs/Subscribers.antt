-- The state of a subscriber as contracts see it, and how its next entry changes it.
use Rattle.std.specs.Prelude.{◌≡◌, ℕ, zero, suc, Bool, false, not, nat_lt, ◌||◌, length, Option, None, Some, is_some, IfSome, if◌then◌else◌}
use Rattle.tape_types.specs.Names.{Names}
use Rattle.sale_matrix.specs.declared.matrix.Matrix.{Matrix}
use Rattle.reports.specs.declared.message.Message.{Message}
use Rattle.tape_core.specs.declared.entry.Entry.{Entry}
use Rattle.tape_core.specs.Laws.{entry_eq}
use Rattle.tape_core.specs.Tape.{TapeState, empty_tape, refusal, next_entry, with_message}
use Rattle.arbitration.specs.Windows.{WindowState, empty_window, next_of, window_past}

-- a window, the subscriber's own tape, and whether an entry of that tape ever differed from the feed's
pub record SubscriberState : Type 0 where
  pub window : WindowState
  pub tape : TapeState
  pub failed : Bool

-- a new subscriber
abbrev pub new_subscriber : Names → ℕ → ℕ → Matrix → SubscriberState
new_subscriber listing limit session matrix =
    record { window = empty_window session; tape = empty_tape listing limit matrix; failed = false }

-- the entry that its own tape makes from a message
abbrev pub own_entry : SubscriberState → Message → Entry
own_entry s m = next_entry s.tape.matrix s.tape.entries m

-- the next entry is taken out of the window, and its own tape's entry is added; it has failed if that is not the feed's
abbrev pub with_entry : Entry → SubscriberState → SubscriberState
with_entry e s = record {
  window = window_past 1 s.window;
  tape = with_message s.tape e.message;
  failed = not (entry_eq (own_entry s e.message) e);
}

-- the subscriber after its next entry: nothing changes if none is ready, if it has failed, or if its own tape refuses the
-- message
abbrev pub subscriber_after_entry : Option Entry → SubscriberState → SubscriberState
subscriber_after_entry None s = s
subscriber_after_entry (Some e) s = if s.failed || is_some (refusal s.tape e.message) then s else with_entry e s

-- the subscriber after n entries, one by one
abbrev pub subscriber_after : ℕ → SubscriberState → SubscriberState
subscriber_after zero s = s
subscriber_after (suc n) s = subscriber_after n (subscriber_after_entry (next_of s.window) s)

-- the next entry, if one is ready, is the one that its own tape makes from the message
abbrev pub NextIsOwn : SubscriberState → Type 0
NextIsOwn s = IfSome (next_of s.window) (λ e. own_entry s e.message ≡ e)

-- more was announced than is held
abbrev pub has_gap : SubscriberState → Bool
has_gap s = nat_lt (length s.tape.entries) s.window.announced
