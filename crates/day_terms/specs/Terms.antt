-- The terms of `live` and of `follow` that a day's file makes.
use Rattle.std.specs.Prelude.{ℕ, zero, suc, List, [], ◌∷◌, length, Option, Some, None, Result, Ok, Err, slice_get}
use Rattle.std.specs.Borrow.{Bor}
use Rattle.days.specs.declared.day.Day.{Day}
use Rattle.tape_types.specs.Names.{Names}
use Rattle.day_terms.specs.Days.{FileDay}
use Rattle.day_terms.specs.Faults.{Fault, ◌>>=◌, no_follower}
use Rattle.day_terms.specs.Listings.{listing_in}
use Rattle.day_terms.specs.NamedDays.{LiveView}
use Rattle.day_terms.specs.declared.follow_day.FollowDay.{FollowDay}

-- the text of the symbols' file, which is empty if there is none
abbrev pub text_or_none : Option (Bor (List ℕ)) → List ℕ
text_or_none (Some text) = text.now
text_or_none None = []

-- the day with this listing
abbrev pub day_with : FileDay → Names → Day
day_with day listing = record { listing = listing; matrix = day.matrix; limit = day.limit; session = day.session }

-- the day of `live`
unfoldable pub live_of : FileDay → List ℕ → Result LiveView Fault
live_of day text = do
  listing ← listing_in day.symbols day.participants text
  Ok (record {
    terms = record {
      day = day_with day listing;
      serves = day.followers;
      connect_within = day.connect_within;
      followers_wait = day.followers_wait;
    };
    first_port = day.port;
    a = day.a;
    b = day.b;
    retransmission = day.retransmission;
  })

-- the port of a follower's place, from 1
abbrev pub port_of_place : List ℕ → ℕ → Option ℕ
port_of_place ports zero = None
port_of_place ports (suc n) = slice_get ports n

-- both ports of a follower's place
abbrev pub both_ports : ℕ → ℕ → Option ℕ → Option ℕ → Result (List ℕ) Fault
both_ports follower places (Some a) (Some b) = Ok (a ∷ b ∷ [])
both_ports follower places _ _ = Err (no_follower follower places)

-- the day of `follow` for a follower's place
unfoldable pub follow_of : FileDay → List ℕ → ℕ → Result FollowDay Fault
follow_of day text follower = do
  ports ← both_ports follower (length day.a) (port_of_place day.a follower) (port_of_place day.b follower)
  listing ← listing_in day.symbols day.participants text
  Ok (record {
    terms = record { day = day_with day listing; connect_within = day.connect_within };
    ports = ports;
    retransmission = day.retransmission;
  })
