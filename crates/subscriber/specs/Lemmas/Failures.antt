-- A drain leaves a subscriber failed if and only if it returns `OtherSummary`.
use Rattle.std.proofs.Common.{◌≡◌, ℕ, zero, suc, ◌+◌, ◌-◌, ◌≤◌, Bool, true, false, length, Option, None, Some, refl, sym, ap, subst, ◌∙◌, arith}
use Rattle.std.specs.Prelude.{IfSome, is_some}
use Rattle.std.proofs.lemmas.Bool.{false≢true, both_ways}
use Rattle.tape_core.specs.declared.entry.Entry.{Entry}
use Rattle.tape_core.specs.declared.refusal.Refusal.{Refusal}
use Rattle.tape_core.specs.Tape.{refusal}
use Rattle.arbitration.specs.Windows.{next_of}
use Rattle.subscriber.specs.declared.drain_fault.Stop.{Stop}
use Rattle.subscriber.specs.declared.drain_fault.Stop.TheVariants.{Refused, OtherSummary, Failed}
use Rattle.subscriber.specs.declared.drain_fault.DrainFault.{DrainFault}
use Rattle.subscriber.specs.Subscribers.{SubscriberState, own_entry, subscriber_after_entry, subscriber_after, NextIsOwn}
use Rattle.subscriber.specs.Drains.{OwnFor, StopsFor, DrainsAll, DrainStops}
use Rattle.subscriber.specs.Lemmas.Turns.{after_entry-keeps, after_entry-refused, own_runs, length-with_entry}
use Rattle.subscriber.specs.Lemmas.Drains.{after-more}
use Rattle.subscriber.specs.Lemmas.Legal.{fails_by_other}

-- entries that are its own do not make a subscriber fail
runs_for : (n : ℕ) (s : SubscriberState) → s.failed ≡ false → OwnFor n s → (subscriber_after n s).failed ≡ false
runs_for zero s running own = running
runs_for (suc n) s running own =
    let here : NextIsOwn s = own 0 (omega arith) in
    runs_for n (subscriber_after_entry (next_of s.window) s)
    (after_entry-keeps (λ t. t.failed ≡ false) s (next_of s.window) running
    (λ e next _ _. own_runs s e (subst (λ o. IfSome o (λ x. own_entry s x.message ≡ x)) next here)))
    (λ k below. own (suc k) (omega arith))

-- after a drain that is Ok, it has not failed
pub runs : (n : ℕ) (s after : SubscriberState) → DrainsAll n s after → after.failed ≡ false
runs n s after all = ap (λ (t : SubscriberState). t.failed) all.state ∙ runs_for n s all.running all.own

-- a turn adds at most one entry to those held
pub one_entry_more : (s : SubscriberState) (o : Option Entry) → length (subscriber_after_entry o s).tape.entries ≤ length s.tape.entries + 1
one_entry_more s o = after_entry-keeps (λ t. length t.tape.entries ≤ length s.tape.entries + 1) s o (omega arith)
    (λ e _ _ _. let more = length-with_entry s e in omega arith)

-- a drain of n entries adds at most n to those held
pub at_most : (n : ℕ) (s : SubscriberState) → length (subscriber_after n s).tape.entries ≤ length s.tape.entries + n
at_most zero s = omega arith
at_most (suc n) s =
    let rest = at_most n (subscriber_after_entry (next_of s.window) s) in
    let one = one_entry_more s (next_of s.window) in
    omega arith

-- a turn that adds an entry other than the feed's makes it fail
other_fails : (t : SubscriberState) → t.failed ≡ false → ¬ (NextIsOwn t)
    → length (subscriber_after_entry (next_of t.window) t).tape.entries ≡ length t.tape.entries + 1
    → (subscriber_after_entry (next_of t.window) t).failed ≡ true
other_fails t running other more = by (next_of t.window) refl more
  where
    taken : (e : Entry) → next_of t.window ≡ Some e → (r : Option Refusal) → refusal t.tape e.message ≡ r
        → length (subscriber_after_entry (Some e) t).tape.entries ≡ length t.tape.entries + 1
        → (subscriber_after_entry (Some e) t).failed ≡ true
    taken e next None free more = (fails_by_other t e running free).1 (λ own. other (subst (λ o. IfSome o (λ x. own_entry t x.message ≡ x)) (sym next) own))
    taken e next (Some r) refused more =
        let same : length (subscriber_after_entry (Some e) t).tape.entries
        ≡ length t.tape.entries = ap (λ (u : SubscriberState). length u.tape.entries) (after_entry-refused t e (ap is_some refused)) in
        absurd (omega arith)

    by : (o : Option Entry) → next_of t.window ≡ o → length (subscriber_after_entry o t).tape.entries ≡ length t.tape.entries + 1
        → (subscriber_after_entry o t).failed ≡ true
    by None next more = absurd (omega arith)
    by (Some e) next more = taken e next (refusal t.tape e.message) refl more

-- the stop is another summary
abbrev is_other : Stop → Bool
is_other (Refused why) = false
is_other OtherSummary = true
is_other Failed = false

-- after a drain, it has failed if and only if the stop is another summary
fails_for : (why : Stop) (n : ℕ) (s : SubscriberState) → s.failed ≡ false → StopsFor why n s
    → length (subscriber_after n s).tape.entries ≡ length s.tape.entries + n
    → (subscriber_after n s).failed ≡ is_other why
fails_for (Refused why) n s running is held = runs_for n s running is.1
fails_for Failed n s running is held = absurd (both_ways s.failed running is.0)
fails_for OtherSummary n s running is held =
    let some : 1 ≤ n = is.1 in
    let back : n ≡ (n - 1) + 1 = omega arith in
    let t = subscriber_after (n - 1) s in
    let last : subscriber_after n s ≡ subscriber_after_entry (next_of t.window) t = ap (λ k. subscriber_after k s) back ∙ after-more (n - 1) s in
    let before = at_most (n - 1) s in
    let one = one_entry_more t (next_of t.window) in
    let size : length (subscriber_after_entry (next_of t.window) t).tape.entries
    ≡ length s.tape.entries + n = ap (λ (u : SubscriberState). length u.tape.entries) (sym last) ∙ held in
    ap (λ (u : SubscriberState). u.failed) last ∙ other_fails t (runs_for (n - 1) s running is.2) is.3 (omega arith)

-- a drain that stops leaves it failed if and only if it returns `OtherSummary`
pub fails : (fault : DrainFault) (s after : SubscriberState) → DrainStops fault s after → s.failed ≡ false
    → (after.failed ≡ true → fault.why ≡ OtherSummary) × (fault.why ≡ OtherSummary → after.failed ≡ true)
fails fault s after stops running =
    let is : after.failed ≡ is_other fault.why =
    ap (λ (u : SubscriberState). u.failed) stops.state
    ∙ fails_for fault.why fault.drained s running stops.why (ap (λ (u : SubscriberState). length u.tape.entries) (sym stops.state) ∙ stops.held) in
    (λ failed. the_other fault.why (sym is ∙ failed), λ other. is ∙ ap is_other other)
  where
    the_other : (why : Stop) → is_other why ≡ true → why ≡ OtherSummary
    the_other (Refused why) h = absurd (false≢true h)
    the_other OtherSummary h = refl
    the_other Failed h = absurd (false≢true h)

-- and it returns that if and only if one of the entries that it counts is not its own
pub other_summary : (fault : DrainFault) (s after : SubscriberState) → DrainStops fault s after → s.failed ≡ false
    → (fault.why ≡ OtherSummary → ¬ (OwnFor fault.drained s)) × (¬ (OwnFor fault.drained s) → fault.why ≡ OtherSummary)
other_summary fault s after stops running = by fault.why fault.drained stops.why
  where
    by : (why : Stop) (n : ℕ) → StopsFor why n s → (why ≡ OtherSummary → ¬ (OwnFor n s)) × (¬ (OwnFor n s) → why ≡ OtherSummary)
    by (Refused why) n is = (λ other. absurd (false≢true (ap is_other other)), λ not_own. absurd (not_own is.1))
    by OtherSummary n is = (λ other own. is.3 (own (n - 1) (let some : 1 ≤ n = is.1 in omega arith)), λ not_own. refl)
    by Failed n is = absurd (both_ways s.failed running is.0)
