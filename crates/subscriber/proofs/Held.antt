-- A packet whose entries are all held leaves a subscriber unchanged.
use Rattle.std.proofs.Common.{◌≡◌, ℕ, ◌+◌, ◌≤◌, ◌==◌, Bool, true, false, cond, List, [], ◌∷◌, length, max, Option, None, Some, Result, Ok, Err, refl, ap, ap₂, subst, ◌∙◌, arith}
use Rattle.std.proofs.lemmas.Bool.{cond-false, ne_eqb, lt-ltb}
use Rattle.std.specs.Option.{option_or}
use Rattle.std.specs.Prelude.{count_by, nat_lt, IfOk, IsSomeAnd, OnErr}
use Rattle.summaries.specs.Lemmas.LastLaw.{option_or-none}
use Rattle.tape_core.specs.declared.entry.Entry.{Entry}
use Rattle.tape_frames.specs.PacketEntries.{IsNumberedFrom, first_number, last_number}
use Rattle.tape_frames.specs.Headers.{last_entry_of}
use Rattle.tape_frames.specs.Packets.{last_of}
use Rattle.tape_frames.specs.Spelling.{IsPacket}
use Rattle.tape_frames.specs.declared.packet.Packet.{Packet}
use Rattle.tape_frames.specs.declared.packet.Packet.TheVariants.{Data, Beat, End}
use Rattle.arbitration.specs.Counts.{brought_with, is_fresh, placing_of, taken_of}
use Rattle.arbitration.specs.Deliveries.{entry_numbered, slots_after, window_after}
use Rattle.arbitration.specs.Windows.{IsWindow, WindowState}
use Rattle.arbitration.specs.declared.line.Brought.{Brought}
use Rattle.arbitration.specs.declared.line.Line.{Line}
use Rattle.arbitration.specs.declared.line.Line.TheVariants.{A, B, R}
use Rattle.arbitration.specs.declared.taken.Taken.{Taken}
use Rattle.subscriber.specs.Drains.{BringsHeld, Delivers}
use Rattle.subscriber.specs.Subscribers.{SubscriberState}
use Rattle.subscriber.specs.declared.delivery_fault.DeliveryFault.{DeliveryFault}

-- consecutive entries have none of a number past the last
none_past : (first : ℕ) (es : List Entry) (n : ℕ) → IsNumberedFrom first es → first + length es ≤ n → entry_numbered n es ≡ None
none_past first [] n numbered past = refl
none_past first (e ∷ es) n numbered past =
    cond-false (e.number == n) _ _ (ne_eqb _ _ (λ same. omega (arith, numbered.0, same)))
    ∙ none_past (first + 1) es n numbered.1 (omega arith)

-- slots stay unchanged if no entry of their numbers comes
slots_stay : (next : ℕ) (slots : List (Option Entry)) (es : List Entry) → ((n : ℕ) → next ≤ n → entry_numbered n es ≡ None)
    → slots_after next slots es ≡ slots
slots_stay next [] es none = refl
slots_stay next (slot ∷ slots) es none =
    ap₂ ◌∷◌ (ap (option_or slot) (none next (omega arith)) ∙ option_or-none slot)
    (slots_stay (next + 1) slots es (λ n past. none n (omega arith)))

-- no entry below the first slot is fresh
none_fresh : (first next : ℕ) (slots : List (Option Entry)) (es : List Entry) → IsNumberedFrom first es → first + length es ≤ next
    → count_by (λ e. is_fresh (placing_of next slots e)) es ≡ 0
none_fresh first next slots [] numbered below = refl
none_fresh first next slots (e ∷ es) numbered below =
    let is_below : nat_lt e.number next ≡ true = lt-ltb _ _ (omega (arith, numbered.0, below)) in
    let repeated : is_fresh (placing_of next slots e) ≡ false = rw is_below refl in
    rw repeated (none_fresh (first + 1) next slots es numbered.1 (omega (arith, below)))

-- the counts are unchanged if a line brings nothing more
brings_none : (b : Brought) (line : Line) → brought_with b line 0 ≡ b
brings_none b A = let same : b.a + 0 ≡ b.a = omega arith in λ i. record { a = same i; b = b.b; r = b.r }
brings_none b B = let same : b.b + 0 ≡ b.b = omega arith in λ i. record { a = b.a; b = same i; r = b.r }
brings_none b R = let same : b.r + 0 ≡ b.r = omega arith in λ i. record { a = b.a; b = b.b; r = same i }

-- a stated last entry belongs to a packet with entries
last_of_entries : (other last : ℕ) (b : Bool) → IsSomeAnd (cond b (Some last) None) (λ l. l ≤ other) → last ≤ other
last_of_entries other last true held = held
last_of_entries other last false held = absurd held

-- a packet whose entries are all at or below the base leaves the window unchanged
window_stays : (s : SubscriberState) (line : Line) (packet : Packet) → s.window.base ≡ length s.tape.entries → IsWindow s.window → IsPacket packet
    → BringsHeld s packet → window_after s.window line packet ≡ s.window
window_stays s line (Data session row) base window valid held =
    let w = s.window in
    let es = row.entries in
    let is = valid.1.0 in
    let last : last_number es ≤ length s.tape.entries = last_of_entries (length s.tape.entries) (last_number es) (session == w.session) held in
    let below : first_number es + length es ≤ w.base + 1 = omega (arith, base, last, is.some) in
    let slots : slots_after (w.base + 1) w.slots es ≡ w.slots =
    slots_stay (w.base + 1) w.slots es (λ n past. none_past (first_number es) es n is.consecutive (omega (arith, below, past))) in
    let announced : max w.announced (last_of (Data session row)) ≡ w.announced = omega (arith, base, last, window.reached) in
    let brought : brought_with w.brought line (taken_of (w.base + 1) w.slots es).fresh ≡ w.brought =
    ap (brought_with w.brought line) (none_fresh (first_number es) (w.base + 1) w.slots es is.consecutive below) ∙ brings_none w.brought line in
    λ i. record { session = w.session; base = w.base; slots = slots i; announced = announced i; ended = w.ended; brought = brought i }
window_stays s line (Beat session last) base window valid held = absurd held
window_stays s line (End session count) base window valid held = absurd held

-- so the bytes of such a packet leave the subscriber unchanged if they are taken
pub stays : (s : SubscriberState) → s.window.base ≡ length s.tape.entries → IsWindow s.window → (bytes : List ℕ) (line : Line)
    (taken : Taken) (after : SubscriberState) → (is : Delivers line bytes taken s after) → BringsHeld s is.packet → after ≡ s
stays s base window bytes line taken after is held =
    is.state ∙ ap (λ (w : WindowState). record s { window = w }) (window_stays s line is.packet base window is.spelled.0 held)

-- a packet whose last entry has a number that is held brings entries that are held
pub brings : (s : SubscriberState) (packet : Packet) (last : ℕ) → Some last ≡ last_entry_of s.window.session packet → last ≤ length s.tape.entries
    → BringsHeld s packet
brings s packet last is within = subst (λ (o : Option ℕ). IsSomeAnd o (λ l. l ≤ length s.tape.entries)) is within

-- and so whatever is returned
pub stays_anyway : (s : SubscriberState) (bytes : List ℕ) (line : Line) (answer : Result Taken DeliveryFault) (after : SubscriberState)
    → ((taken : Taken) → Delivers line bytes taken s after → after ≡ s)
    → IfOk answer (λ taken. Delivers line bytes taken s after) → OnErr answer (after ≡ s) → after ≡ s
stays_anyway s bytes line (Ok taken) after taken_stays ok err = taken_stays taken ok
stays_anyway s bytes line (Err fault) after taken_stays ok err = err
