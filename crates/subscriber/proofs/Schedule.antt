-- What follows from a sound world for packets and drains.
use Rattle.std.proofs.Common.{◌≡◌, ℕ, zero, suc, ◌+◌, ◌-◌, ◌≤◌, ◌==◌, ◌⊎◌, max, Bool, true, false, cond, List, [], ◌∷◌, ◌++◌, length}
use Rattle.std.proofs.Common.{take, drop, get_or, Option, None, Some, refl, sym, ap, subst, ◌∙◌, inl, inr, arith, length-append, eq-eqb}
use Rattle.std.specs.Prelude.{slice_get, IfOk, IfSome, Result, is_some, unwrap_or, nat_lt}
use Rattle.std.proofs.Math.Seq.{take-append_seam}
use Rattle.std.proofs.lemmas.Bool.{cases_Bool, cases_lt, cond-true, cond-false, lt-ltb, le-ltb, or_from, not_from_true, eqb-true, both_ways}
use Rattle.std.proofs.lemmas.Option.{same_Some, slice_get_within, slice_get-get_or}
use Rattle.std.proofs.lemmas.List.Elements.{All-contains}
use Rattle.tape_core.specs.declared.entry.Entry.{Entry}
use Rattle.tape_core.specs.declared.refusal.Refusal.{Refusal}
use Rattle.tape_core.specs.declared.refusal.Refusal.TheVariants.{Closed, Full, OutOfMemory}
use Rattle.tape_core.specs.Laws.{limit_refusal}
use Rattle.tape_core.specs.Tape.{TapeState, refusal, summary_at, participant_summary_at}
use Rattle.tape_frames.specs.declared.packet.Packet.{Packet}
use Rattle.tape_frames.specs.Packets.{entries_of, last_of, end_of}
use Rattle.tape_frames.specs.declared.packet_fault.PacketFault.{PacketFault}
use Rattle.tape_frames.specs.Reading.{packet_of}
use Rattle.tape_frames.specs.Spelling.{Spells}
use Rattle.tape_frames.specs.Lemmas.Packets.{one_packet_spelling, packet_again}
use Rattle.tape_frames.specs.Lemmas.Numbers.{slice_get-append-add, slice_get-append-lt}
use Rattle.arbitration.specs.declared.line.Line.{Line}
use Rattle.arbitration.specs.declared.taken.Taken.{Taken}
use Rattle.arbitration.specs.declared.deliver_fault.DeliverFault.{DeliverFault}
use Rattle.arbitration.specs.declared.deliver_fault.DeliverFault.TheVariants.{Foreign, Conflict, PastEnd}
use Rattle.arbitration.specs.Windows.{ready_entries, flat, next_of}
use Rattle.arbitration.specs.Lemmas.Gaps.{none_ready, ready-past}
use Rattle.arbitration.specs.Deliveries.{known_entry, Agrees, Accepts, Refuses, window_after, is_beyond, is_other_end, is_past_end}
use Rattle.subscriber.specs.declared.delivery_fault.DeliveryFault.{DeliveryFault}
use Rattle.subscriber.specs.declared.delivery_fault.DeliveryFault.TheVariants as delivery
use Rattle.subscriber.specs.declared.drain_fault.Stop.{Stop}
use Rattle.subscriber.specs.declared.drain_fault.Stop.TheVariants.{Refused, OtherSummary, Failed}
use Rattle.subscriber.specs.declared.drain_fault.DrainFault.{DrainFault}
use Rattle.subscriber.specs.Subscribers.{SubscriberState, with_entry, subscriber_after_entry, subscriber_after}
use Rattle.subscriber.specs.Drains.{Delivers, RefusesDelivery, DrainStops, StopsFor, IsRefused, IsHonestStop}
use Rattle.subscriber.specs.Schedules.{World, Event, Admits, Closes, Comes, Drains, Restarts, world_after}
use Rattle.subscriber.specs.Schedules.{run, start, IsCut, announced_by, held_prefix, LeadsTo}
use Rattle.subscriber.proofs.Due.{FromDue-at}
use Rattle.subscriber.specs.Lemmas.Turns.{after_entry-keeps, after_entry-admitted, after_entry-refused}
use Rattle.subscriber.proofs.Sound.{IsSound, tells, next_ready, next_own, takes, drains}

-- a drain announces nothing
pub announced-after : (n : ℕ) (s : SubscriberState) → (subscriber_after n s).window.announced ≡ s.window.announced
announced-after zero s = refl
announced-after (suc n) s =
    announced-after n (subscriber_after_entry (next_of s.window) s)
    ∙ after_entry-keeps (λ t. t.window.announced ≡ s.window.announced) s (next_of s.window) refl (λ e _ _ _. refl)

-- the events announce the greatest of what was announced and of their last numbers
pub announced_run : (events : List Event) (w : World) (most : ℕ) → w.subscriber.window.announced ≡ most
    → (run w events).subscriber.window.announced ≡ announced_by most events
announced_run [] w most h = h
announced_run (Admits message ∷ events) w most h = announced_run events (world_after w (Admits message)) most h
announced_run (Closes ∷ events) w most h = announced_run events (world_after w Closes) most h
announced_run (Comes line packet ∷ events) w most h =
    announced_run events (world_after w (Comes line packet)) (max most (last_of packet)) (ap (λ n. max n (last_of packet)) h)
announced_run (Drains count ∷ events) w most h = announced_run events (world_after w (Drains count)) most (announced-after count w.subscriber ∙ h)
announced_run (Restarts ∷ events) w most h = announced_run events (world_after w Restarts) 0 refl

-- what a window has announced is what its packets stated since the last restart
pub announced_told : (events : List Event) (w : World) → LeadsTo events w → w.subscriber.window.announced ≡ announced_by 0 events
announced_told events w h =
    ap (λ (v : World). v.subscriber.window.announced) (sym h.ends) ∙ announced_run events (start h.listing h.matrix h.tape_limit h.limit h.session) 0 refl

-- what holds for each possible value holds for the option
if_some : {A : Type 0} (o : Option A) (P : A → Type 0) → ((x : A) → o ≡ Some x → P x) → IfSome o P
if_some None P h = tt
if_some (Some x) P h = h x refl

-- the entry known under a number is the tape's entry of that number
pub known_stands : (w : World) → IsSound w → (m : ℕ) (e : Entry)
    → known_entry w.subscriber.tape.entries (w.subscriber.window.base + 1) w.subscriber.window.slots (suc m) ≡ Some e
    → slice_get w.tape.entries m ≡ Some e
known_stands w s m e found =
    let held = w.subscriber.tape.entries in
    let window = w.subscriber.window in
    let base : window.base ≡ length held = s.base in
    elim (cases_lt (suc m) (window.base + 1)) [
      | inl below ↦
          let before : suc m - 1 ≡ m = omega arith in
          ap (λ t. slice_get t m) s.tape ∙ slice_get-append-lt held (s.due ++ s.later) m (omega arith)
          ∙ ap (slice_get held) (sym before)
          ∙ sym (cond-true (nat_lt (suc m) (window.base + 1)) _ _ (lt-ltb _ _ below)) ∙ found
      | inr above ↦
          let k = suc m - (window.base + 1) in
          let place : m ≡ length held + k = omega arith in
          let waits : flat (slice_get window.slots k) ≡ Some e = sym (cond-false (nat_lt (suc m) (window.base + 1)) _ _ (le-ltb _ _ above)) ∙ found in
          let due : slice_get s.due k ≡ Some e = FromDue-at window.slots s.due k e s.slots waits in
          ap (λ t. slice_get t m) s.tape ∙ ap (slice_get (held ++ (s.due ++ s.later))) place
          ∙ slice_get-append-add held (s.due ++ s.later) k
          ∙ slice_get-append-lt s.due s.later k (slice_get_within s.due k e due) ∙ due
    ]

-- no last number of the tape is past its end
not_beyond : (o : Option ℕ) (n last : ℕ) → IfSome o (λ count. count ≡ n) → last ≤ n → is_beyond o last ≡ false
not_beyond None n last h within = refl
not_beyond (Some count) n last h within = le-ltb _ _ (omega arith)

-- no end of the tape is another end
not_other : (ended end : Option ℕ) (n announced : ℕ) → IfSome ended (λ count. count ≡ n) → IfSome end (λ count. count ≡ n) → announced ≤ n
    → is_other_end ended announced end ≡ false
not_other ended None n announced h k within = refl
not_other None (Some count) n announced h k within = le-ltb _ _ (omega arith)
not_other (Some one) (Some count) n announced h k within = not_from_true _ (eq-eqb _ _ (omega arith))

-- the end that is known is the length of the tape
the_length : (o : Option ℕ) (b : Bool) (n : ℕ) → IfSome o (λ count. (b ≡ true) × (count ≡ n)) → IfSome o (λ count. count ≡ n)
the_length None b n h = tt
the_length (Some count) b n h = h.1

-- a packet that was cut from the tape is taken
pub accepts : (w : World) (packet : Packet) → IsSound w → IsCut w packet → Accepts w.subscriber.window w.subscriber.tape.entries packet
accepts w packet s cut =
    let held = w.subscriber.tape.entries in
    let window = w.subscriber.window in
    let has = tells w packet s.legal cut in
    let size : length w.tape.entries ≡ length held + (length s.due + length s.later) = ap length s.tape ∙ length-append held _
    ∙ ap (λ n. length held + n) (length-append s.due s.later) in
    let announced : window.announced ≡ length held + length s.due = s.announced in
    let last : last_of packet ≤ length w.tape.entries = has.last in
    let ended = the_length window.ended w.tape.closed (length w.tape.entries) s.ended in
    let end = the_length (end_of packet) w.tape.closed (length w.tape.entries) has.ended in
    record {
      session = has.session ∙ sym s.session;
      agrees = λ k d within.
          let e = get_or (entries_of packet) k d in
          let stands = has.stands k e (slice_get-get_or (entries_of packet) k d within) in
          if_some (known_entry held (window.base + 1) window.slots e.number) _ (λ other found.
          let known_at = known_stands w s stands.0 other (ap (known_entry held (window.base + 1) window.slots) (sym stands.1) ∙ found) in
          same_Some other e (sym known_at ∙ stands.2));
      in_time = or_from _ _ (not_beyond window.ended _ _ ended last) (not_other window.ended (end_of packet) _ _ ended end (omega arith));
    }

-- bytes spell at most one packet
pub one_packet : (bytes : List ℕ) (a b : Packet) → Spells bytes a → Spells bytes b → a ≡ b
one_packet bytes a b spells_a spells_b = (one_packet_spelling a b bytes bytes [] [] spells_a spells_b refl).0

-- so its bytes are never refused
pub never_refused : (w : World) (packet : Packet) (bytes : List ℕ) (fault : DeliveryFault) → IsSound w → IsCut w packet
    → Spells bytes packet → ¬ (RefusesDelivery w.subscriber bytes fault)
never_refused w packet bytes fault s cut spelled = by fault
  where
    accepted : Accepts w.subscriber.window w.subscriber.tape.entries packet
    accepted = accepts w packet s cut

    by_window : (f : DeliverFault) → Refuses w.subscriber.window w.subscriber.tape.entries packet f → ⊥
    by_window Foreign refused = refused accepted.session
    by_window (Conflict n) refused =
        let conflict = refused.1 in
        conflict.differs (All-contains (Agrees w.subscriber.tape.entries (w.subscriber.window.base + 1) w.subscriber.window.slots) (entries_of packet)
        conflict.entry accepted.agrees conflict.sent)
    by_window PastEnd refused = both_ways (is_past_end w.subscriber.window packet) accepted.in_time refused.2

    by : (f : DeliveryFault) → RefusesDelivery w.subscriber bytes f → ⊥
    by delivery.Failed failed = both_ways w.subscriber.failed s.running failed
    by (delivery.NoPacket f) none =
        subst (λ (r : Result Packet PacketFault). IfOk r (λ q. ⊥)) (sym none.1 ∙ ap packet_of spelled.1 ∙ packet_again packet spelled.0) tt
    by (delivery.Refused f) refused =
        by_window f (subst (λ (q : Packet). Refuses w.subscriber.window w.subscriber.tape.entries q f) (one_packet bytes refused.1 packet refused.2 spelled)
        refused.3)

-- taking bytes is the event of their packet
pub bytes_come : (w : World) (line : Line) (packet : Packet) (bytes : List ℕ) (taken : Taken) (after : SubscriberState) → Spells bytes packet
    → Delivers line bytes taken w.subscriber after → world_after w (Comes line packet) ≡ record w { subscriber = after }
bytes_come w line packet bytes taken after spelled is =
    ap (λ (s : SubscriberState). record w { subscriber = s })
    (ap (λ (q : Packet). record w.subscriber { window = window_after w.subscriber.window line q }) (one_packet bytes packet is.packet spelled is.spelled)
    ∙ sym is.state)

-- the first slot, if something is ready
first_ready : (slots : List (Option Entry)) (n : ℕ) → length (ready_entries slots) ≡ suc n
    → (e : Entry) × (flat (slice_get slots 0) ≡ Some e) × (length (ready_entries (drop 1 slots ++ None ∷ [])) ≡ n)
first_ready [] n h = absurd (omega arith)
first_ready (None ∷ slots) n h = absurd (omega arith)
first_ready (Some e ∷ slots) n h = (e, refl, omega (arith, h, ap length (ready-past (Some e ∷ slots) e refl)))

-- a subscriber whose next entry changes nothing stays unchanged
stays_drained : (n : ℕ) (s : SubscriberState) → subscriber_after_entry (next_of s.window) s ≡ s → subscriber_after n s ≡ s
stays_drained zero s stays = refl
stays_drained (suc n) s stays = ap (subscriber_after n) stays ∙ stays_drained n s stays

-- an open tape refuses each message if it is full
limit-open : (t : TapeState) (b : Bool) → t.closed ≡ false → (length t.entries == t.limit) ≡ b → limit_refusal t ≡ cond b (Some Full) None
limit-open t b open' full = cond-false t.closed (Some Closed) _ open' ∙ ap (λ c. cond c (Some Full) None) full

-- a drain of all ready entries leaves nothing ready, or stops at the subscriber's limit
pub empties : (n : ℕ) (w : World) → IsSound w → length (ready_entries w.subscriber.window.slots) ≡ n
    → (next_of (subscriber_after n w.subscriber).window ≡ None) ⊎ (length (subscriber_after n w.subscriber).tape.entries ≡ w.limit)
empties zero w s size = inl ((none_ready w.subscriber.window.slots).0 size)
empties (suc n) w s size =
    let own = w.subscriber in
    let first = first_ready own.window.slots n size in
    let e = first.0 in
    let refused : refusal own.tape e.message ≡ limit_refusal own.tape = (next_ready w e s first.1).refused in
    elim (cases_Bool (length own.tape.entries == own.tape.limit)) [
      | inl full ↦
          let stays : subscriber_after_entry (next_of own.window) own ≡ own =
          ap (λ o. subscriber_after_entry o own) first.1 ∙ after_entry-refused own e (ap is_some (refused ∙ limit-open own.tape true s.unclosed full)) in
          inr (ap (λ (t : SubscriberState). length t.tape.entries) (stays_drained (suc n) own stays) ∙ eqb-true _ _ full ∙ s.limit)
      | inr room ↦
          let goes : subscriber_after_entry (next_of own.window) own ≡ with_entry e own =
          ap (λ o. subscriber_after_entry o own) first.1 ∙ after_entry-admitted own e s.running (refused ∙ limit-open own.tape false s.unclosed room) in
          subst (λ t. (next_of (subscriber_after n t).window ≡ None) ⊎ (length (subscriber_after n t).tape.entries ≡ w.limit)) (sym goes)
          (empties n (record w { subscriber = with_entry e own }) (takes w e s first.1) first.2)
    ]

-- the own tape refuses nothing from an honest feed except at its limit
honest_refusal : (w : World) (why : Refusal) → IsSound w → IsRefused why w.subscriber → IsHonestStop (Refused why) w.subscriber
honest_refusal w why s h =
    let own = w.subscriber.tape in
    let refused : refusal own h.entry.message ≡ limit_refusal own = (next_ready w h.entry s h.ready).refused in
    elim (cases_Bool (length own.entries == own.limit)) [
      | inl full ↦ inr (h.first ∙ ap (λ o. unwrap_or o OutOfMemory) (refused ∙ limit-open own true s.unclosed full), eqb-true _ _ full)
      | inr room ↦ inl (h.first ∙ ap (λ o. unwrap_or o OutOfMemory) (refused ∙ limit-open own false s.unclosed room))
    ]

-- a drain on an honest feed stops only out of memory or at the subscriber's limit
pub honest_stop : (w : World) (fault : DrainFault) (after : SubscriberState) → IsSound w → DrainStops fault w.subscriber after → IsHonestStop fault.why after
honest_stop w fault after s h = subst (IsHonestStop fault.why) (sym h.state) (by fault.why fault.drained h.why)
  where
    by : (why : Stop) (n : ℕ) → StopsFor why n w.subscriber → IsHonestStop why (subscriber_after n w.subscriber)
    by (Refused why) n is = honest_refusal (record w { subscriber = subscriber_after n w.subscriber }) why (drains n w s) is.2
    by OtherSummary n is = absurd (is.3 (next_own (record w { subscriber = subscriber_after (n - 1) w.subscriber }) (drains (n - 1) w s)))
    by Failed n is = absurd (both_ways w.subscriber.failed s.running is.0)

-- a summary depends on the listing, the matrix and the entries alone
summary-same : (t u : TapeState) (symbol : List ℕ) → t.listing ≡ u.listing → t.matrix ≡ u.matrix → t.entries ≡ u.entries
    → summary_at t symbol ≡ summary_at u symbol
summary-same t u symbol listing matrix entries =
    λ i. summary_at (record { listing = listing i; matrix = matrix i; limit = t.limit; closed = t.closed; entries = entries i }) symbol

-- a participant's own summary depends on the listing, the matrix and the entries alone
own_summary-same : (t u : TapeState) (symbol : List ℕ) (who : ℕ) → t.listing ≡ u.listing → t.matrix ≡ u.matrix → t.entries ≡ u.entries
    → participant_summary_at t symbol who ≡ participant_summary_at u symbol who
own_summary-same t u symbol who listing matrix entries =
    λ i. participant_summary_at (record { listing = listing i; matrix = matrix i; limit = t.limit; closed = t.closed; entries = entries i }) symbol who

-- the entries held are the tape's first ones
held_first : (w : World) → IsSound w → w.subscriber.tape.entries ≡ take (length w.subscriber.tape.entries) w.tape.entries
held_first w s =
    let held = w.subscriber.tape.entries in
    sym (ap (take (length held)) s.tape ∙ take-append_seam held (s.due ++ s.later))

-- the subscriber's summaries are those of the tape's first entries, as many as it holds
pub prefix_summary : (w : World) (symbol : List ℕ) → IsSound w → summary_at w.subscriber.tape symbol ≡ summary_at (held_prefix w) symbol
prefix_summary w symbol s = summary-same w.subscriber.tape (held_prefix w) symbol s.listing s.matrix (held_first w s)

-- and so are the participants' own summaries
pub prefix_own_summary : (w : World) (symbol : List ℕ) (who : ℕ) → IsSound w
    → participant_summary_at w.subscriber.tape symbol who ≡ participant_summary_at (held_prefix w) symbol who
prefix_own_summary w symbol who s = own_summary-same w.subscriber.tape (held_prefix w) symbol who s.listing s.matrix (held_first w s)
