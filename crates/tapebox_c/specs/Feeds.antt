-- Defines the results of the calls of a subscriber.
use Rattle.std.specs.Prelude.{◌≡◌, ◌==◌, ◌≤◌, ℕ, List, length, Option, None, Some, Result, Ok, Err, if◌then◌else◌}
use Rattle.arbitration.specs.Gaps.{IsMissing, IsGap}
use Rattle.arbitration.specs.declared.deliver_fault.DeliverFault.TheVariants.{Conflict}
use Rattle.arbitration.specs.declared.line.Brought.{Brought}
use Rattle.arbitration.specs.declared.line.Line.{Line}
use Rattle.arbitration.specs.declared.line.Line.TheVariants.{A, B, R}
use Rattle.arbitration.specs.declared.taken.Taken.{Taken}
use Rattle.subscriber.specs.Drains.{Delivers, RefusesDelivery, DrainsAll, DrainStops}
use Rattle.subscriber.specs.Faults.{delivery_fault_code, stop_code}
use Rattle.subscriber.specs.Subscribers.{SubscriberState}
use Rattle.subscriber.specs.declared.delivery_fault.DeliveryFault.{DeliveryFault}
use Rattle.subscriber.specs.declared.delivery_fault.DeliveryFault.TheVariants.{Refused}
use Rattle.subscriber.specs.declared.drain_fault.DrainFault.{DrainFault}
use Rattle.tape_frames.specs.Requests.{request_text}
use Rattle.tape_frames.specs.declared.request.Request.{Request}
use Rattle.tapebox_c.specs.declared.held.Held.{Held}
use Rattle.tapebox_c.specs.declared.held.Held.TheVariants.{Subscriber}
use Rattle.tapebox_c.specs.declared.rows.NewsRow.{NewsRow}
use Rattle.tapebox_c.specs.declared.rows.RequestRow.{RequestRow}
use Rattle.tapebox_c.specs.declared.rows.TakenRow.{TakenRow}

-- the line of a number
abbrev pub line_numbered : ℕ → Option Line
line_numbered n = if n == 0 then Some A else if n == 1 then Some B else if n == 2 then Some R else None

-- what became of a packet's entries, as a row
abbrev pub taken_row : Taken → TakenRow
taken_row t = record { fresh = t.fresh; repeated = t.repeated; beyond = t.beyond; conflict = 0 }

-- the entry of which another is known, if a packet is refused for it, else 0
abbrev pub conflict_of : DeliveryFault → ℕ
conflict_of (Refused (Conflict number)) = number
conflict_of fault = 0

-- what is held answers bytes that came on a line
abbrev pub DeliversTo : Held → Line → List ℕ → Option (Result Taken DeliveryFault) → Held → Type 0
DeliversTo (Subscriber s) line bytes (Some (Ok taken)) (Subscriber u) = Delivers line bytes taken s u
DeliversTo (Subscriber s) line bytes (Some (Err fault)) (Subscriber u) = RefusesDelivery s bytes fault × (u ≡ s)
DeliversTo (Subscriber s) line bytes answer new = ⊥
DeliversTo held line bytes answer new = (answer ≡ None) × (new ≡ held)

-- the result as a number and a row
abbrev pub TellsTaken : Option (Result Taken DeliveryFault) → ℕ → TakenRow → TakenRow → Type 0
TellsTaken None code old new = (code ≡ 102) × (new ≡ old)
TellsTaken (Some (Ok taken)) code old new = (code ≡ 0) × (new ≡ taken_row taken)
TellsTaken (Some (Err fault)) code old new = (code ≡ delivery_fault_code fault) × (new ≡ record old { conflict = conflict_of fault })

-- a handle answers bytes that came on a line: 106 if there is no such line, 102 without a subscriber
abbrev pub DeliversIn : Option Held → Option Line → List ℕ → ℕ → TakenRow → TakenRow → Option Held → Type 0
DeliversIn held None bytes code row row' held' = (code ≡ 106) × (row' ≡ row) × (held' ≡ held)
DeliversIn None (Some line) bytes code row row' held' = (code ≡ 102) × (row' ≡ row) × (held' ≡ None)
DeliversIn (Some held) (Some line) bytes code row row' None = ⊥
DeliversIn (Some held) (Some line) bytes code row row' (Some held') =
    (answer : Option (Result Taken DeliveryFault)) × DeliversTo held line bytes answer held' × TellsTaken answer code row row'

-- what is held drains what is ready
abbrev pub DrainsTo : Held → Option (Result ℕ DrainFault) → Held → Type 0
DrainsTo (Subscriber s) (Some (Ok n)) (Subscriber u) = DrainsAll n s u
DrainsTo (Subscriber s) (Some (Err fault)) (Subscriber u) = DrainStops fault s u
DrainsTo (Subscriber s) answer new = ⊥
DrainsTo held answer new = (answer ≡ None) × (new ≡ held)

-- the result as two numbers
abbrev pub TellsDrained : Option (Result ℕ DrainFault) → ℕ → ℕ → ℕ → Type 0
TellsDrained None code old new = (code ≡ 102) × (new ≡ old)
TellsDrained (Some (Ok n)) code old new = (code ≡ 0) × (new ≡ n)
TellsDrained (Some (Err fault)) code old new = (code ≡ stop_code fault.why) × (new ≡ fault.drained)

-- a handle drains what is ready
abbrev pub DrainsIn : Option Held → ℕ → ℕ → ℕ → Option Held → Type 0
DrainsIn None code old new held' = (code ≡ 102) × (new ≡ old) × (held' ≡ None)
DrainsIn (Some held) code old new None = ⊥
DrainsIn (Some held) code old new (Some held') =
    (answer : Option (Result ℕ DrainFault)) × DrainsTo held answer held' × TellsDrained answer code old new

-- the first gap in what is held
abbrev pub Misses : Held → Option (Option Request) → Type 0
Misses (Subscriber s) None = ⊥
Misses (Subscriber s) (Some None) = (n : ℕ) → ¬ (IsMissing s.window n)
Misses (Subscriber s) (Some (Some r)) = (r.session ≡ s.window.session) × IsGap s.window r.from r.count
Misses held answer = answer ≡ None

-- a request asks for the first gap
pub record AsksFor (s : SubscriberState) (row : RequestRow) : Type 0 where
  pub request : Request
  pub session : request.session ≡ s.window.session
  pub gap : IsGap s.window request.from request.count
  pub count : row.count ≡ request.count
  pub bytes : row.bytes ≡ request_text request

-- a gap: 102 without a subscriber; a count of 0 if nothing is missing, else the request for the first gap
abbrev pub MissingIn : Option Held → ℕ → RequestRow → RequestRow → Type 0
MissingIn (Some (Subscriber s)) code old new =
    (code ≡ 0) × (new.count ≡ 0 → (n : ℕ) → ¬ (IsMissing s.window n)) × (1 ≤ new.count → AsksFor s new)
MissingIn held code old new = (code ≡ 102) × (new ≡ old)

-- what a subscriber knows of the feed, as a row: an unknown end is 0 without the flag
abbrev pub end_row : ℕ → ℕ → Brought → Option ℕ → NewsRow
end_row held announced brought None =
    record { held = held; announced = announced; is_ended = 0; ended = 0; brought_a = brought.a; brought_b = brought.b; brought_r = brought.r }
end_row held announced brought (Some n) =
    record { held = held; announced = announced; is_ended = 1; ended = n; brought_a = brought.a; brought_b = brought.b; brought_r = brought.r }

-- what a subscriber knows of the feed
abbrev pub news_row : SubscriberState → NewsRow
news_row s = end_row (length s.tape.entries) s.window.announced s.window.brought s.window.ended

-- what is known of the feed, if a subscriber is held
abbrev pub held_news : Held → Option NewsRow
held_news (Subscriber s) = Some (news_row s)
held_news held = None

-- what is known of the feed, as a number and a row: 102 without a subscriber
abbrev pub news_told : Option Held → NewsRow → ℕ × NewsRow
news_told (Some (Subscriber s)) row = (0, news_row s)
news_told held row = (102, row)
