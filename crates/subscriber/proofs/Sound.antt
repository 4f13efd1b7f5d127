-- The invariant of a world that every event of a schedule keeps.
use Rattle.std.proofs.Common.{◌≡◌, ℕ, zero, suc, ◌+◌, ◌-◌, ◌≤◌, true, false, List, [], ◌∷◌, ◌++◌, length, take, drop, Option}
use Rattle.std.proofs.Common.{None, Some, refl, sym, ap, subst, ◌∙◌, arith, length-append, length-take-le, append-nil, append_assoc}
use Rattle.std.specs.Prelude.{slice_get, IfSome, is_some}
use Rattle.std.specs.Option.{option_or}
use Rattle.std.proofs.lemmas.List.{length_push, length-replicate, take-append-drop}
use Rattle.std.proofs.Math.Seq.{take-append_seam}
use Rattle.std.proofs.lemmas.Bool.{both_ways}
use Rattle.std.proofs.lemmas.Option.{none-some, same_Some}
use Rattle.tape_types.specs.Names.{Names}
use Rattle.sale_matrix.specs.declared.matrix.Matrix.{Matrix}
use Rattle.reports.specs.declared.message.Message.{Message}
use Rattle.tape_core.specs.declared.entry.Entry.{Entry}
use Rattle.tape_core.specs.declared.refusal.Refusal.{Refusal}
use Rattle.tape_core.specs.Laws.{limit_refusal}
use Rattle.tape_core.specs.Tape.{TapeState, IsLegal, refusal, next_entry, with_message}
use Rattle.tape_core.specs.Lemmas.LegalNext.{IsLegal-with_message, admissible}
use Rattle.tape_core.specs.Lemmas.LegalPrefix.{refusal-next, entry-next}
use Rattle.tape_frames.specs.declared.packet.Packet.{Packet}
use Rattle.tape_frames.specs.declared.packet.Packet.TheVariants.{Data, Beat, End}
use Rattle.tape_frames.specs.PacketEntries.{last_number}
use Rattle.tape_frames.specs.Packets.{session_of, entries_of, last_of, end_of}
use Rattle.tape_frames.specs.Lemmas.Legal.{legal-IsPublished}
use Rattle.tape_frames.specs.Lemmas.Numbers.{slice_get-append-add, slice_get-append-lt}
use Rattle.arbitration.specs.declared.line.Line.{Line}
use Rattle.arbitration.specs.Deliveries.{entry_numbered}
use Rattle.arbitration.specs.Windows.{next_of, flat, REACH}
use Rattle.arbitration.specs.Lemmas.Numbers.{find_place}
use Rattle.arbitration.specs.Lemmas.Slots.{length-slots_after}
use Rattle.subscriber.specs.Drains.{DrainsAll}
use Rattle.subscriber.specs.Subscribers.{SubscriberState, NextIsOwn, new_subscriber, own_entry, with_entry, subscriber_after_entry, subscriber_after}
use Rattle.subscriber.specs.Schedules.{World, Event, Admits, Closes, Comes, Drains, Restarts, world_after}
use Rattle.subscriber.specs.Schedules.{run, start, IsCut, IsAllowed, IsSchedule, LeadsTo}
use Rattle.tape_core.specs.Answers.{tape_after}
use Rattle.tape_core.specs.Lemmas.Answered.{tape_after-admitted, tape_after-kept}
use Rattle.subscriber.proofs.Parts.{part_at, part_stands, part_last}
use Rattle.subscriber.proofs.Due.{FromDue, FromDue-replicate, FromDue-grow, FromDue-append, FromDue-slots_after}
use Rattle.subscriber.specs.Lemmas.Turns.{after_entry-admitted, after_entry-refused, own_runs}
use Rattle.subscriber.specs.Lemmas.Legal.{IsLegal-empty}

-- a world that a schedule leads to: the entries that are due were announced and are not held yet
pub record IsSound (w : World) : Type 0 where
  pub due : List Entry
  pub later : List Entry
  pub legal : IsLegal w.tape
  pub tape : w.tape.entries ≡ w.subscriber.tape.entries ++ (due ++ later)
  pub listing : w.subscriber.tape.listing ≡ w.tape.listing
  pub matrix : w.subscriber.tape.matrix ≡ w.tape.matrix
  pub limit : w.subscriber.tape.limit ≡ w.limit
  pub unclosed : w.subscriber.tape.closed ≡ false
  pub base : w.subscriber.window.base ≡ length w.subscriber.tape.entries
  pub announced : w.subscriber.window.announced ≡ length w.subscriber.tape.entries + length due
  pub slots : FromDue w.subscriber.window.slots due
  pub session : w.subscriber.window.session ≡ w.session
  pub size : length w.subscriber.window.slots ≡ REACH
  pub ended : IfSome w.subscriber.window.ended (λ count. (w.tape.closed ≡ true) × (count ≡ length w.tape.entries))
  pub running : w.subscriber.failed ≡ false

-- a world with a new subscriber is sound: all entries of its tape are later
restart-sound : (w : World) → IsLegal w.tape → IsSound (record w { subscriber = new_subscriber w.tape.listing w.limit w.session w.tape.matrix })
restart-sound w legal = record {
  due = [];
  later = w.tape.entries;
  legal = legal;
  tape = refl;
  listing = refl;
  matrix = refl;
  limit = refl;
  unclosed = refl;
  base = refl;
  announced = refl;
  slots = FromDue-replicate REACH [];
  session = refl;
  size = length-replicate REACH None;
  ended = tt;
  running = refl;
}

-- a new subscriber of an empty tape is sound
pub start-sound : (listing : Names) (matrix : Matrix) (tape_limit limit session : ℕ) → IsSound (start listing matrix tape_limit limit session)
start-sound listing matrix tape_limit limit session =
    restart-sound (start listing matrix tape_limit limit session) (IsLegal-empty listing tape_limit matrix)

-- a world stays sound if its tape goes on with these entries or is closed
tape-sound : (w : World) (t : TapeState) (more : List Entry) → IsSound w → IsLegal t → t.entries ≡ w.tape.entries ++ more
    → t.listing ≡ w.tape.listing → t.matrix ≡ w.tape.matrix → IfSome w.subscriber.window.ended (λ count. (t.closed ≡ true) × (count ≡ length t.entries))
    → IsSound (record w { tape = t })
tape-sound w t more s legal entries listing matrix ended = record {
  due = s.due;
  later = s.later ++ more;
  legal = legal;
  tape =
      entries ∙ ap (λ l. l ++ more) s.tape ∙ append_assoc w.subscriber.tape.entries (s.due ++ s.later) more
      ∙ ap (λ l. w.subscriber.tape.entries ++ l) (append_assoc s.due s.later more);
  listing = s.listing ∙ sym listing;
  matrix = s.matrix ∙ sym matrix;
  limit = s.limit;
  unclosed = s.unclosed;
  base = s.base;
  announced = s.announced;
  slots = s.slots;
  session = s.session;
  size = s.size;
  ended = ended;
  running = s.running;
}

-- a message is admitted, so the tape is open
admits : (w : World) (m : Message) → IsSound w → refusal w.tape m ≡ None → IsSound (record w { tape = with_message w.tape m })
admits w m s free =
    tape-sound w (with_message w.tape m) (next_entry w.tape.matrix w.tape.entries m ∷ []) s (IsLegal-with_message w.tape m s.legal free) refl refl refl
    (not_ended w.subscriber.window.ended s.ended)
  where
    not_ended : (o : Option ℕ) → IfSome o (λ count. (w.tape.closed ≡ true) × (count ≡ length w.tape.entries))
        → IfSome o (λ count. (w.tape.closed ≡ true) × (count ≡ length (w.tape.entries ++ next_entry w.tape.matrix w.tape.entries m ∷ [])))
    not_ended None h = tt
    not_ended (Some count) h = absurd (both_ways w.tape.closed (admissible w.tape m free).open_tape h.0)

-- a tape is sent a message
sends : (w : World) (m : Message) → IsSound w → IsSound (record w { tape = tape_after w.tape m })
sends w m s = by (refusal w.tape m) refl
  where
    by : (r : Option Refusal) → refusal w.tape m ≡ r → IsSound (record w { tape = tape_after w.tape m })
    by None free =
        subst (λ t. IsSound (record w { tape = t })) (sym (tape_after-admitted w.tape m free))
        (admits w m s free)
    by (Some r) refused =
        subst (λ t. IsSound (record w { tape = t })) (sym (tape_after-kept w.tape m r refused)) s

-- what a packet cut from the tape states
pub record Tells (w : World) (packet : Packet) : Type 0 where
  pub session : session_of packet ≡ w.session
  pub stands : (k : ℕ) (e : Entry) → slice_get (entries_of packet) k ≡ Some e → (m : ℕ) × (e.number ≡ suc m) × (slice_get w.tape.entries m ≡ Some e)
  pub part : (m : ℕ) (e : Entry) → entry_numbered (1 + m) (entries_of packet) ≡ Some e → (slice_get w.tape.entries m ≡ Some e) × (suc m ≤ last_of packet)
  pub last : last_of packet ≤ length w.tape.entries
  pub ended : IfSome (end_of packet) (λ count. (w.tape.closed ≡ true) × (count ≡ length w.tape.entries))

-- a packet cut from a legal tape states what is on that tape
pub tells : (w : World) (packet : Packet) → IsLegal w.tape → IsCut w packet → Tells w packet
tells w (Data session row) legal cut =
    let numbers = (legal-IsPublished w.tape legal).numbered in
    let es = row.entries in
    let last = part_last w.tape.entries es numbers cut.1 in
    record {
      session = cut.0;
      stands = part_stands w.tape.entries es numbers cut.1;
      part = λ m e found.
          let place = find_place es (1 + m) e found in
          let below : e.number ≤ last_number es = last.1 place.0 e place.1 in
          let number : e.number ≡ 1 + m = place.2 in
          (part_at w.tape.entries es numbers cut.1 m e found, omega arith);
      last = last.0;
      ended = tt;
    }
tells w (Beat session last) legal cut = record {
  session = cut.0;
  stands = λ k e found. absurd (none-some e found);
  part = λ m e found. absurd (none-some e found);
  last = cut.1;
  ended = tt;
}
tells w (End session count) legal cut = record {
  session = cut.0;
  stands = λ k e found. absurd (none-some e found);
  part = λ m e found. absurd (none-some e found);
  last = (let p : count.count ≡ length w.tape.entries = cut.2 in omega arith);
  ended = (cut.1, cut.2);
}

-- what holds for both ends holds for the one that is kept
either_end : (P : ℕ → Type 0) (one other : Option ℕ) → IfSome one P → IfSome other P → IfSome (option_or one other) P
either_end P None other h k = k
either_end P (Some x) other h k = h

-- a packet that comes keeps a world sound
pub comes : (w : World) (line : Line) (packet : Packet) → IsSound w → Tells w packet → IsSound (world_after w (Comes line packet))
comes w line packet s has =
    let held = w.subscriber.tape.entries in
    let window = w.subscriber.window in
    let more = last_of packet - window.announced in
    let size : length w.tape.entries ≡ length held + (length s.due + length s.later) = ap length s.tape ∙ length-append held _
    ∙ ap (λ n. length held + n) (length-append s.due s.later) in
    let announced : window.announced ≡ length held + length s.due = s.announced in
    let last : last_of packet ≤ length w.tape.entries = has.last in
    let base : window.base ≡ length held = s.base in
    let fits : more ≤ length s.later = omega arith in
    let length_due : length (s.due ++ take more s.later) ≡ length s.due + more = length-append s.due _
    ∙ ap (λ n. length s.due + n) (length-take-le more s.later fits) in
    let tape : w.tape.entries ≡ held ++ ((s.due ++ take more s.later) ++ drop more s.later) =
    s.tape ∙ ap (λ t. held ++ t) (ap (λ t. s.due ++ t) (sym (take-append-drop more s.later)) ∙ sym (append_assoc s.due _ _)) in
    record {
      due = s.due ++ take more s.later;
      later = drop more s.later;
      legal = s.legal;
      tape = tape;
      listing = s.listing;
      matrix = s.matrix;
      limit = s.limit;
      unclosed = s.unclosed;
      base = s.base;
      announced = omega arith;
      slots = FromDue-slots_after (window.base + 1) window.slots _ (entries_of packet) (FromDue-grow window.slots s.due _ s.slots) (λ k e found.
          let m : (window.base + 1) + k ≡ 1 + (window.base + k) = omega arith in
          let at_tape = has.part (window.base + k) e (ap (λ n. entry_numbered n (entries_of packet)) (sym m) ∙ found) in
          let reached : suc (window.base + k) ≤ last_of packet = at_tape.1 in
          let same_place : length held + k ≡ window.base + k = omega arith in
          sym (slice_get-append-lt _ (drop more s.later) k (omega arith))
          ∙ sym (slice_get-append-add held _ k)
          ∙ ap (slice_get (held ++ ((s.due ++ take more s.later) ++ drop more s.later))) same_place
          ∙ ap (λ t. slice_get t (window.base + k)) (sym tape) ∙ at_tape.0);
      session = s.session;
      size = length-slots_after (window.base + 1) window.slots (entries_of packet) ∙ s.size;
      ended = either_end _ (end_of packet) window.ended has.ended s.ended;
      running = s.running;
    }

-- the next ready entry is the next due one
next_due : (slots : List (Option Entry)) (due : List Entry) (e : Entry) → FromDue slots due → flat (slice_get slots 0) ≡ Some e
    → (rest : List Entry) × (due ≡ e ∷ rest) × FromDue (drop 1 slots) rest
next_due [] due e h next = absurd (none-some e next)
next_due (slot ∷ slots) [] e h next = absurd (none-some e (sym h.0 ∙ next))
next_due (None ∷ slots) (d ∷ due) e h next = absurd (none-some e next)
next_due (Some x ∷ slots) (d ∷ due) e h next = (due, ap (λ y. y ∷ due) (sym h.0 ∙ same_Some x e next), h.1)

-- taking the next entry out keeps the number of slots
same_size : (slots : List (Option Entry)) (e : Entry) → flat (slice_get slots 0) ≡ Some e → length (drop 1 slots ++ None ∷ []) ≡ length slots
same_size [] e next = absurd (none-some e next)
same_size (x ∷ slots) e next = length_push slots None ∙ omega arith

-- the next ready entry: it is the tape's next after those held
pub record IsNext (w : World) (e : Entry) : Type 0 where
  pub own : own_entry w.subscriber e.message ≡ e
  pub refused : refusal w.subscriber.tape e.message ≡ limit_refusal w.subscriber.tape

-- the next ready entry is the tape's next
pub next_ready : (w : World) (e : Entry) → IsSound w → next_of w.subscriber.window ≡ Some e → IsNext w e
next_ready w e s next =
    let held = w.subscriber.tape.entries in
    let first = next_due w.subscriber.window.slots s.due e s.slots next in
    let whole : w.tape.entries ≡ held ++ (e ∷ (first.0 ++ s.later)) = s.tape ∙ ap (λ d. held ++ (d ++ s.later)) first.1 in
    let place : length held + 0 ≡ length held = omega arith in
    let at : slice_get w.tape.entries (length held) ≡ Some e =
    ap (λ t. slice_get t (length held)) whole ∙ ap (slice_get (held ++ (e ∷ (first.0 ++ s.later)))) (sym place)
    ∙ slice_get-append-add held (e ∷ (first.0 ++ s.later)) 0 in
    let front : held ≡ take (length held) w.tape.entries = sym (ap (take (length held)) whole ∙ take-append_seam held (e ∷ (first.0 ++ s.later))) in
    record {
      own = entry-next w.tape w.subscriber.tape (length held) e s.legal at s.matrix front;
      refused = refusal-next w.tape w.subscriber.tape (length held) e s.legal at s.listing s.matrix front;
    }

-- an entry that is taken out and replayed keeps a world sound
pub takes : (w : World) (e : Entry) → IsSound w → next_of w.subscriber.window ≡ Some e → IsSound (record w { subscriber = with_entry e w.subscriber })
takes w e s next =
    let held = w.subscriber.tape.entries in
    let first = next_due w.subscriber.window.slots s.due e s.slots next in
    let own : own_entry w.subscriber e.message ≡ e = (next_ready w e s next).own in
    let base : w.subscriber.window.base ≡ length held = s.base in
    let announced : w.subscriber.window.announced ≡ length held + length s.due = s.announced in
    let size : length s.due ≡ suc (length first.0) = ap length first.1 in
    let size_held = length-append held (own_entry w.subscriber e.message ∷ []) in
    record {
      due = first.0;
      later = s.later;
      legal = s.legal;
      tape =
          s.tape ∙ ap (λ d. held ++ (d ++ s.later)) first.1 ∙ sym (append_assoc held (e ∷ []) (first.0 ++ s.later))
          ∙ ap (λ x. (held ++ x ∷ []) ++ (first.0 ++ s.later)) (sym own);
      listing = s.listing;
      matrix = s.matrix;
      limit = s.limit;
      unclosed = s.unclosed;
      base = omega arith;
      announced = omega arith;
      slots = FromDue-append (drop 1 w.subscriber.window.slots) 1 first.0 first.2;
      session = s.session;
      size = same_size w.subscriber.window.slots e next ∙ s.size;
      ended = s.ended;
      running = own_runs w.subscriber e own;
    }

-- one turn of a drain keeps a world sound
pub replays : (w : World) (o : Option Entry) → IsSound w → next_of w.subscriber.window ≡ o
    → IsSound (record w { subscriber = subscriber_after_entry o w.subscriber })
replays w None s next = s
replays w (Some e) s next = by (refusal w.subscriber.tape e.message) refl
  where
    by : (r : Option Refusal) → refusal w.subscriber.tape e.message ≡ r → IsSound (record w { subscriber = subscriber_after_entry (Some e) w.subscriber })
    by None free = subst (λ t. IsSound (record w { subscriber = t })) (sym (after_entry-admitted w.subscriber e s.running free)) (takes w e s next)
    by (Some r) refused = subst (λ t. IsSound (record w { subscriber = t })) (sym (after_entry-refused w.subscriber e (ap is_some refused))) s

-- a drain keeps a world sound
pub drains : (n : ℕ) (w : World) → IsSound w → IsSound (record w { subscriber = subscriber_after n w.subscriber })
drains zero w s = s
drains (suc n) w s = drains n (record w { subscriber = subscriber_after_entry (next_of w.subscriber.window) w.subscriber })
    (replays w (next_of w.subscriber.window) s refl)

-- each allowed event keeps a world sound
pub keeps : (w : World) (event : Event) → IsSound w → IsAllowed w event → IsSound (world_after w event)
keeps w (Admits message) s ok = sends w message s
keeps w Closes s ok =
    tape-sound w (record w.tape { closed = true }) [] s s.legal (sym (append-nil w.tape.entries)) refl refl (shut w.subscriber.window.ended s.ended)
  where
    shut : (o : Option ℕ) → IfSome o (λ count. (w.tape.closed ≡ true) × (count ≡ length w.tape.entries))
        → IfSome o (λ count. (true ≡ true) × (count ≡ length w.tape.entries))
    shut None h = tt
    shut (Some count) h = (refl, h.1)
keeps w (Comes line packet) s ok = comes w line packet s (tells w packet s.legal ok)
keeps w (Drains count) s ok = drains count w s
keeps w Restarts s ok = restart-sound w s.legal

-- a schedule keeps a world sound
pub keeps_all : (events : List Event) (w : World) → IsSound w → IsSchedule w events → IsSound (run w events)
keeps_all [] w s ok = s
keeps_all (event ∷ events) w s ok = keeps_all events (world_after w event) (keeps w event s ok.0) ok.1

-- each world that a schedule leads to is sound
pub sound : (events : List Event) (w : World) → LeadsTo events w → IsSound w
sound events w h =
    subst IsSound h.ends (keeps_all events (start h.listing h.matrix h.tape_limit h.limit h.session) (start-sound h.listing h.matrix h.tape_limit h.limit h.session) h.allowed)

-- the world after a drain that is Ok is sound
pub after_drain : (w : World) (n : ℕ) (after : SubscriberState) → IsSound w → DrainsAll n w.subscriber after
    → IsSound (record w { subscriber = after })
after_drain w n after s all = subst (λ (t : SubscriberState). IsSound (record w { subscriber = t })) (sym all.state) (drains n w s)

-- the next ready entry is the own tape's
pub next_own : (w : World) → IsSound w → NextIsOwn w.subscriber
next_own w s = go (next_of w.subscriber.window) refl
  where
    go : (o : Option Entry) → next_of w.subscriber.window ≡ o → IfSome o (λ e. own_entry w.subscriber e.message ≡ e)
    go None next = tt
    go (Some e) next = (next_ready w e s next).own
