-- Counts the entries that are ready by the drains that take them.
use Rattle.std.proofs.Common.{◌≡◌, ℕ, zero, suc, ◌+◌, length, None, sym, ap, subst, ◌∙◌, arith}
use Rattle.arbitration.specs.Lemmas.Gaps.{none_ready, ready-past}
use Rattle.arbitration.specs.Windows.{next_of, ready_entries}
use Rattle.subscriber.specs.Subscribers.{SubscriberState, with_entry, subscriber_after_entry, subscriber_after}
use Rattle.subscriber.specs.declared.drain_fault.DrainFault.{DrainFault}
use Rattle.subscriber.specs.Drains.{DrainsAll, DrainStops}
use Rattle.subscriber.specs.Lemmas.Failures.{at_most}
use Rattle.subscriber.specs.Lemmas.Turns.{after_entry-keeps, length-with_entry}

-- how many entries are ready
abbrev pub ready_count : SubscriberState → ℕ
ready_count s = length (ready_entries s.window.slots)

-- if after n turns there are n more entries and nothing is ready, n were ready
pub ready_told : (n : ℕ) (s : SubscriberState) → length (subscriber_after n s).tape.entries ≡ length s.tape.entries + n
    → next_of (subscriber_after n s).window ≡ None → ready_count s ≡ n
ready_told zero s held empty = (none_ready s.window.slots).1 empty
ready_told (suc n) s held empty = turn (ready_told n) held empty
  where
    Told : SubscriberState → Type 0
    Told t =
        length (subscriber_after n t).tape.entries ≡ length s.tape.entries + suc n → next_of (subscriber_after n t).window ≡ None
        → ready_count s ≡ suc n

    turn : ((t : SubscriberState) → length (subscriber_after n t).tape.entries ≡ length t.tape.entries + n
        → next_of (subscriber_after n t).window ≡ None → ready_count t ≡ n) → Told (subscriber_after_entry (next_of s.window) s)
    turn later =
        after_entry-keeps Told s (next_of s.window)
        (λ stays none. absurd (omega (arith, at_most n s)))
        (λ e is running free went none.
        let before : ready_count (with_entry e s) ≡ n = later (with_entry e s) (omega (arith, length-with_entry s e)) none in
        omega (arith, ap length (ready-past s.window.slots e is)))

-- n turns and then m more are n + m turns
after_both : (n m : ℕ) (s : SubscriberState) → subscriber_after m (subscriber_after n s) ≡ subscriber_after (n + m) s
after_both zero m s = let same : m ≡ zero + m = omega arith in ap (λ k. subscriber_after k s) same
after_both (suc n) m s =
    let same : suc (n + m) ≡ suc n + m = omega arith in
    after_both n m (subscriber_after_entry (next_of s.window) s) ∙ ap (λ k. subscriber_after k s) same

-- a drain that stops and one that is Ok together return what was ready
pub ready_of_two : (stop : DrainFault) (more : ℕ) (old mid new : SubscriberState) → DrainStops stop old mid → DrainsAll more mid new
    → ready_count old ≡ stop.drained + more
ready_of_two stop more old mid new stops all =
    let both : new ≡ subscriber_after (stop.drained + more) old =
    all.state ∙ ap (subscriber_after more) stops.state ∙ after_both stop.drained more old in
    ready_told (stop.drained + more) old
    (ap (λ (t : SubscriberState). length t.tape.entries) (sym both) ∙ omega (arith, all.held, stops.held))
    (subst (λ (t : SubscriberState). next_of t.window ≡ None) both all.nothing_ready)

-- a drain that is Ok returns what was ready
pub ready_of_one : (n : ℕ) (old new : SubscriberState) → DrainsAll n old new → ready_count old ≡ n
ready_of_one n old new all =
    ready_told n old (ap (λ (t : SubscriberState). length t.tape.entries) (sym all.state) ∙ all.held)
    (subst (λ (t : SubscriberState). next_of t.window ≡ None) all.state all.nothing_ready)
