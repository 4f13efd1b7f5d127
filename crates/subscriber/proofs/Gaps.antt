-- Entries that were brought are kept until they are held.
use Rattle.std.proofs.Common.{◌≡◌, ℕ, zero, suc, ◌+◌, ◌-◌, ◌≤◌, ◌<◌, ◌⊎◌, true, false, List, [], ◌∷◌, ◌++◌, length}
use Rattle.std.proofs.Common.{drop, get_or, Option, None, Some, refl, sym, ap, subst, ◌∙◌, inl, inr, arith}
use Rattle.std.specs.Prelude.{slice_get, is_some, nat_lt}
use Rattle.std.specs.Option.{option_or}
use Rattle.std.proofs.lemmas.Bool.{cases_lt, cond-true, lt-ltb, false≢true}
use Rattle.std.proofs.lemmas.Option.{same_Some, slice_get-get_or, slice_get_past}
use Rattle.tape_core.specs.declared.entry.Entry.{Entry}
use Rattle.tape_frames.specs.Packets.{entries_of}
use Rattle.tape_frames.specs.Lemmas.Numbers.{slice_get-append-lt}
use Rattle.arbitration.specs.Windows.{flat, next_of, REACH}
use Rattle.arbitration.specs.Deliveries.{entry_numbered, slots_after}
use Rattle.arbitration.specs.Gaps.{waiting_entry, IsGap}
use Rattle.arbitration.specs.Lemmas.Windows.{REACH-asked}
use Rattle.arbitration.specs.Lemmas.Gaps.{waiting_at}
use Rattle.subscriber.specs.Subscribers.{SubscriberState, with_entry, subscriber_after_entry, subscriber_after}
use Rattle.subscriber.specs.Drains.{DrainsAll}
use Rattle.subscriber.specs.Schedules.{World, Event, Admits, Closes, Comes, Drains, Restarts, world_after}
use Rattle.subscriber.specs.Schedules.{run, IsSchedule, is_restart, brings, HasNoRestart, Brings}
use Rattle.subscriber.specs.Lemmas.Turns.{after_entry-keeps, length-with_entry}
use Rattle.subscriber.proofs.Sound.{IsSound, keeps, keeps_all}

-- the entry of a number is held or waits
abbrev IsKept : SubscriberState → ℕ → Type 0
IsKept s n = (n ≤ length s.tape.entries) ⊎ (is_some (waiting_entry (s.window.base + 1) s.window.slots n) ≡ true)

-- what a slot holds after a packet
settled_at : (next : ℕ) (slots : List (Option Entry)) (es : List Entry) (k : ℕ) (slot : Option Entry) → slice_get slots k ≡ Some slot
    → slice_get (slots_after next slots es) k ≡ Some (option_or slot (entry_numbered (next + k) es))
settled_at next [] es k slot found = absurd (false≢true (ap is_some found))
settled_at next (x ∷ slots) es zero slot found =
    let p : next ≡ next + 0 = omega arith in
    ap Some (ap (λ o. option_or o (entry_numbered next es)) (same_Some x slot found) ∙ ap (λ n. option_or slot (entry_numbered n es)) p)
settled_at next (x ∷ slots) es (suc k) slot found =
    let p : (next + 1) + k ≡ next + suc k = omega arith in
    settled_at (next + 1) slots es k slot found ∙ ap (λ n. Some (option_or slot (entry_numbered n es))) p

-- an entry in a slot stays
or_left_some : (o p : Option Entry) → is_some o ≡ true → is_some (option_or o p) ≡ true
or_left_some None p h = absurd (false≢true h)
or_left_some (Some x) p h = refl

-- an entry that comes is in its slot
or_right_some : (o p : Option Entry) → is_some p ≡ true → is_some (option_or o p) ≡ true
or_right_some None p h = h
or_right_some (Some x) p h = refl

-- where a waiting entry is
waits_where : (next : ℕ) (slots : List (Option Entry)) (n : ℕ) → is_some (waiting_entry next slots n) ≡ true
    → (k : ℕ) × (n ≡ next + k) × (k < length slots) × (is_some (flat (slice_get slots k)) ≡ true)
waits_where next slots n h = elim (cases_lt n next) [
  | inl below ↦ absurd (false≢true (sym (ap is_some (cond-true (nat_lt n next) _ _ (lt-ltb _ _ below))) ∙ h))
  | inr above ↦
      let p : n ≡ next + (n - next) = omega arith in
      let found = ap is_some (sym (waiting_at next slots n (n - next) p)) ∙ h in (
        n - next,
        p,
        elim (cases_lt (n - next) (length slots)) [
          | inl within ↦ within
          | inr past ↦ absurd (false≢true (sym (ap (λ o. is_some (flat o)) (slice_get_past slots (n - next) past)) ∙ found))
        ],
        found,
      )
]

-- an entry that waited or is in the packet waits after it
settled_waits : (next : ℕ) (slots : List (Option Entry)) (es : List Entry) (n k : ℕ) → n ≡ next + k → k < length slots
    → (is_some (flat (slice_get slots k)) ≡ true) ⊎ (is_some (entry_numbered n es) ≡ true)
    → is_some (waiting_entry next (slots_after next slots es) n) ≡ true
settled_waits next slots es n k p within h =
    let slot = get_or slots k None in
    let at_k = slice_get-get_or slots k None within in
    ap is_some (waiting_at next (slots_after next slots es) n k p ∙ ap flat (settled_at next slots es k slot at_k))
    ∙ elim h [
      | inl old ↦ or_left_some slot (entry_numbered (next + k) es) (sym (ap (λ o. is_some (flat o)) at_k) ∙ old)
      | inr new ↦ or_right_some slot (entry_numbered (next + k) es) (ap (λ i. is_some (entry_numbered i es)) (sym p) ∙ new)
    ]

-- a number stays kept when the next entry is taken out and replayed
kept_taken : (s : SubscriberState) (e : Entry) (n : ℕ) → s.window.base ≡ length s.tape.entries → IsKept s n → IsKept (with_entry e s) n
kept_taken s e n base (inl held) = inl (let more = length-with_entry s e in omega arith)
kept_taken s e n base (inr waits) =
    let place = waits_where (s.window.base + 1) s.window.slots n waits in
    shifted s.window.slots place.0 place.1 place.2 place.3
  where
    shifted : (slots : List (Option Entry)) (k : ℕ) → n ≡ (s.window.base + 1) + k → k < length slots → is_some (flat (slice_get slots k)) ≡ true
        → (n ≤ length (with_entry e s).tape.entries) ⊎ (is_some (waiting_entry (s.window.base + 1 + 1) (drop 1 slots ++ None ∷ []) n) ≡ true)
    shifted slots zero p within found = inl (let more = length-with_entry s e in omega arith)
    shifted [] (suc k) p within found = absurd (omega arith)
    shifted (x ∷ slots) (suc k) p within found =
        let q : n ≡ (s.window.base + 1 + 1) + k = omega arith in
        inr (ap is_some (waiting_at (s.window.base + 1 + 1) (slots ++ None ∷ []) n k q ∙ ap flat (slice_get-append-lt slots (None ∷ []) k (omega arith)))
        ∙ found)

-- a number stays kept over one turn of a drain
kept_replayed : (s : SubscriberState) (o : Option Entry) (n : ℕ) → s.window.base ≡ length s.tape.entries → IsKept s n → IsKept (subscriber_after_entry o s) n
kept_replayed s o n base kept = after_entry-keeps (λ t. IsKept t n) s o kept (λ e _ _ _. kept_taken s e n base kept)

-- one turn of a drain keeps the window's base at the number held
based_replayed : (s : SubscriberState) (o : Option Entry) → s.window.base ≡ length s.tape.entries
    → (subscriber_after_entry o s).window.base ≡ length (subscriber_after_entry o s).tape.entries
based_replayed s o base =
    after_entry-keeps (λ t. t.window.base ≡ length t.tape.entries) s o base (λ e _ _ _. ap (λ n. n + 1) base ∙ sym (length-with_entry s e))

-- a number stays kept over a drain
kept_drained : (m : ℕ) (s : SubscriberState) (n : ℕ) → s.window.base ≡ length s.tape.entries → IsKept s n → IsKept (subscriber_after m s) n
kept_drained zero s n base kept = kept
kept_drained (suc m) s n base kept =
    kept_drained m (subscriber_after_entry (next_of s.window) s) n (based_replayed s (next_of s.window) base) (kept_replayed s (next_of s.window) n base kept)

-- a drain keeps the window's base at the number held
based_drained : (m : ℕ) (s : SubscriberState) → s.window.base ≡ length s.tape.entries
    → (subscriber_after m s).window.base ≡ length (subscriber_after m s).tape.entries
based_drained zero s base = base
based_drained (suc m) s base = based_drained m (subscriber_after_entry (next_of s.window) s) (based_replayed s (next_of s.window) base)

-- a drain drops nothing
grows_drained : (m : ℕ) (s : SubscriberState) → length s.tape.entries ≤ length (subscriber_after m s).tape.entries
grows_drained zero s = omega arith
grows_drained (suc m) s =
    let rest = grows_drained m (subscriber_after_entry (next_of s.window) s) in
    let one : length s.tape.entries ≤ length (subscriber_after_entry (next_of s.window) s).tape.entries =
    after_entry-keeps (λ t. length s.tape.entries ≤ length t.tape.entries) s (next_of s.window) (omega arith)
    (λ e _ _ _. let more = length-with_entry s e in omega arith) in
    omega arith

-- a number stays kept over an event
kept_step : (w : World) (event : Event) (n : ℕ) → IsSound w → is_restart event ≡ false → IsKept w.subscriber n → IsKept (world_after w event).subscriber n
kept_step w (Admits message) n s stays kept = kept
kept_step w Closes n s stays kept = kept
kept_step w (Comes line packet) n s stays (inl held) = inl held
kept_step w (Comes line packet) n s stays (inr waits) =
    let next = w.subscriber.window.base + 1 in
    let place = waits_where next w.subscriber.window.slots n waits in
    inr (settled_waits next w.subscriber.window.slots (entries_of packet) n place.0 place.1 place.2 (inl place.3))
kept_step w (Drains count) n s stays kept = kept_drained count w.subscriber n s.base kept
kept_step w Restarts n s stays kept = absurd (false≢true (sym stays))

-- no event but a restart drops anything
grows_step : (w : World) (event : Event) → is_restart event ≡ false → length w.subscriber.tape.entries ≤ length (world_after w event).subscriber.tape.entries
grows_step w (Admits message) stays = omega arith
grows_step w Closes stays = omega arith
grows_step w (Comes line packet) stays = omega arith
grows_step w (Drains count) stays = grows_drained count w.subscriber
grows_step w Restarts stays = absurd (false≢true (sym stays))

-- a number that is brought from the reach of the window is kept
brought_step : (w : World) (event : Event) (n : ℕ) → IsSound w → n ≤ length w.subscriber.tape.entries + REACH → brings n event ≡ true
    → IsKept (world_after w event).subscriber n
brought_step w (Admits message) n s near yes' = absurd (false≢true yes')
brought_step w Closes n s near yes' = absurd (false≢true yes')
brought_step w (Comes line packet) n s near yes' =
    let next = w.subscriber.window.base + 1 in
    let base : w.subscriber.window.base ≡ length w.subscriber.tape.entries = s.base in
    let size : length w.subscriber.window.slots ≡ REACH = s.size in
    elim (cases_lt n next) [
      | inl below ↦ inl (omega arith)
      | inr above ↦ inr (settled_waits next w.subscriber.window.slots (entries_of packet) n (n - next) (omega arith) (omega arith) (inr yes'))
    ]
brought_step w (Drains count) n s near yes' = absurd (false≢true yes')
brought_step w Restarts n s near yes' = absurd (false≢true yes')

-- a number stays kept over a schedule without a restart
kept_run : (events : List Event) (w : World) (n : ℕ) → IsSound w → IsSchedule w events → HasNoRestart events → IsKept w.subscriber n
    → IsKept (run w events).subscriber n
kept_run [] w n s ok stays kept = kept
kept_run (event ∷ events) w n s ok stays kept = kept_run events (world_after w event) n (keeps w event s ok.0) ok.1 stays.1 (kept_step w event n s stays.0 kept)

-- a schedule without a restart drops nothing
grows_run : (events : List Event) (w : World) → HasNoRestart events → length w.subscriber.tape.entries ≤ length (run w events).subscriber.tape.entries
grows_run [] w stays = omega arith
grows_run (event ∷ events) w stays = let one = grows_step w event stays.0 in let rest = grows_run events (world_after w event) stays.1 in omega arith

-- a number that a schedule without a restart brings is kept after it
brought_run : (events : List Event) (w : World) (n : ℕ) → IsSound w → IsSchedule w events → HasNoRestart events
    → n ≤ length w.subscriber.tape.entries + REACH → Brings n events → IsKept (run w events).subscriber n
brought_run [] w n s ok stays near brought = absurd brought
brought_run (event ∷ events) w n s ok stays near (inl now) =
    kept_run events (world_after w event) n (keeps w event s ok.0) ok.1 stays.1 (brought_step w event n s near now)
brought_run (event ∷ events) w n s ok stays near (inr then') =
    let one = grows_step w event stays.0 in
    brought_run events (world_after w event) n (keeps w event s ok.0) ok.1 stays.1 (omega arith) then'

-- if nothing is ready, the first missing number is the number held plus 1
pub gap_next : (w : World) (from count : ℕ) → IsSound w → next_of w.subscriber.window ≡ None → IsGap w.subscriber.window from count
    → from ≡ length w.subscriber.tape.entries + 1
gap_next w from count s empty gap =
    let window = w.subscriber.window in
    let base : window.base ≡ length w.subscriber.tape.entries = s.base in
    let some : 1 ≤ count = gap.some in
    let first = gap.all from (omega arith) (omega arith) in
    let above : window.base < from = first.0 in
    let announced : from ≤ window.announced = first.1 in
    let place : window.base + 1 ≡ (window.base + 1) + 0 = omega arith in
    let least = gap.least (window.base + 1) (omega arith, omega arith, waiting_at (window.base + 1) window.slots (window.base + 1) 0 place ∙ empty) in
    omega arith

-- a number that is kept is held, once nothing is ready before it
kept_held : (s : SubscriberState) (n : ℕ) → s.window.base ≡ length s.tape.entries → next_of s.window ≡ None → n ≡ length s.tape.entries + 1 → IsKept s n → ⊥
kept_held s n base empty p (inl held) = omega arith
kept_held s n base empty p (inr waits) =
    let place : n ≡ (s.window.base + 1) + 0 = omega arith in
    false≢true (sym (ap is_some (waiting_at (s.window.base + 1) s.window.slots n 0 place ∙ empty)) ∙ waits)

-- once each number of the gap was brought, a later drain that is Ok holds it
pub gap_filled : (w : World) (from count : ℕ) (more : List Event) (later : ℕ) (last : SubscriberState)
    → IsSound w → next_of w.subscriber.window ≡ None → IsGap w.subscriber.window from count
    → IsSchedule w more → HasNoRestart more → ((n : ℕ) → from ≤ n → n < from + count → Brings n more)
    → DrainsAll later (run w more).subscriber last → from + count ≤ length last.tape.entries + 1
gap_filled w from count more later last s empty gap ok stays brought all =
    let end = (run w more).subscriber in
    let n = length last.tape.entries + 1 in
    let first : from ≡ length w.subscriber.tape.entries + 1 = gap_next w from count s empty gap in
    let few : count ≤ REACH = omega (arith, gap.few, REACH-asked) in
    let grown = grows_run more w stays in
    let drained : length last.tape.entries ≡ length end.tape.entries + later = all.held in
    let based = (keeps_all more w s ok).base in
    let last_based = subst (λ (t : SubscriberState). t.window.base ≡ length t.tape.entries) (sym all.state) (based_drained later end based) in
    elim (cases_lt n (from + count)) [
      | inl below ↦
          let kept = brought_run more w n s ok stays (omega arith) (brought n (omega arith) below) in
          let last_kept = subst (λ (t : SubscriberState). IsKept t n) (sym all.state) (kept_drained later end n based kept) in
          absurd (kept_held last n last_based all.nothing_ready refl last_kept)
      | inr held ↦ held
    ]
