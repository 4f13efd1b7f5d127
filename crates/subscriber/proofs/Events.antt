-- The calls as events of a schedule.
use Rattle.std.proofs.Common.{◌≡◌, ℕ, ◌⊎◌, Option, None, Some, refl, sym, ap, ◌∙◌, inl, inr}
use Rattle.std.specs.Prelude.{Result, Ok, Err, unwrap_or}
use Rattle.reports.specs.declared.message.Message.{Message}
use Rattle.tape_core.specs.declared.entry.Entry.{Entry}
use Rattle.tape_core.specs.declared.refusal.Refusal.{Refusal}
use Rattle.tape_core.specs.declared.refusal.Refusal.TheVariants.{OutOfMemory}
use Rattle.tape_core.specs.Tape.{TapeState, Answers, refusal}
use Rattle.subscriber.specs.declared.drain_fault.DrainFault.{DrainFault}
use Rattle.subscriber.specs.Subscribers.{SubscriberState}
use Rattle.subscriber.specs.Drains.{DrainsAll, DrainStops}
use Rattle.subscriber.specs.Schedules.{World, Drains, world_after}
use Rattle.tape_core.specs.Answers.{tape_after}
use Rattle.tape_core.specs.Lemmas.Answered.{tape_after-admitted, tape_after-kept}

-- a message that a tape admits or refuses is an event, and one for which memory runs out changes nothing
pub admits : (t after : TapeState) (m : Message) (answer : Result Entry Refusal) → Answers t m answer after
    → (after ≡ tape_after t m) ⊎ ((answer ≡ Err OutOfMemory) × (after ≡ t))
admits t after m (Ok e) is = inl (is.2 ∙ sym (tape_after-admitted t m is.0))
admits t after m (Err r) is = by (refusal t m) refl
  where
    by : (o : Option Refusal) → refusal t m ≡ o → (after ≡ tape_after t m) ⊎ ((◌≡◌ {A = Result Entry Refusal} (Err r) (Err OutOfMemory)) × (after ≡ t))
    by None free = inr (ap Err (is.0 ∙ ap (λ o. unwrap_or o OutOfMemory) free), is.1)
    by (Some x) refused = inl (is.1 ∙ sym (tape_after-kept t m x refused))

-- a drain of all ready entries is the event of as many entries
pub drain_event : (w : World) (n : ℕ) (after : SubscriberState) → DrainsAll n w.subscriber after → world_after w (Drains n) ≡ record w { subscriber = after }
drain_event w n after all = ap (λ (s : SubscriberState). record w { subscriber = s }) (sym all.state)

-- so is a drain that stops
pub stop_event : (w : World) (fault : DrainFault) (after : SubscriberState) → DrainStops fault w.subscriber after
    → world_after w (Drains fault.drained) ≡ record w { subscriber = after }
stop_event w fault after stops = ap (λ (s : SubscriberState). record w { subscriber = s }) (sym stops.state)
