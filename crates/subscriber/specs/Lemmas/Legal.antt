-- Whatever comes, the own tape stays legal, and only a differing entry makes the subscriber fail.
use Rattle.std.proofs.Common.{◌≡◌, ℕ, zero, suc, true, false, not, List, [], ◌∷◌, None, Some, refl, sym, ap, subst, ◌∙◌, Bool}
use Rattle.std.proofs.lemmas.Bool.{true≢false, not-true, not_from_false}
use Rattle.tape_core.specs.declared.entry.Entry.{Entry}
use Rattle.tape_core.specs.Laws.{entry_eq}
use Rattle.tape_core.specs.Tape.{IsLegal, empty_tape, refusal}
use Rattle.tape_types.specs.Names.{Names}
use Rattle.sale_matrix.specs.declared.matrix.Matrix.{Matrix}
use Rattle.tape_core.specs.Lemmas.LegalNext.{IsLegal-with_message}
use Rattle.tape_core.specs.Lemmas.Equality.{entry-Decides}
use Rattle.arbitration.specs.Windows.{next_of}
use Rattle.subscriber.specs.Subscribers.{SubscriberState, own_entry, subscriber_after_entry, subscriber_after}
use Rattle.subscriber.specs.Schedules.{World, Event, Admits, Closes, Comes, Drains, Restarts, world_after, run, start, EndsIn}
use Rattle.subscriber.specs.Lemmas.Turns.{after_entry-keeps, after_entry-admitted}

-- an empty tape is legal
pub IsLegal-empty : (listing : Names) (limit : ℕ) (matrix : Matrix) → IsLegal (empty_tape listing limit matrix)
IsLegal-empty listing limit matrix k e at = absurd (cc)

-- a drain keeps the own tape legal
legal-after : (n : ℕ) (s : SubscriberState) → IsLegal s.tape → IsLegal (subscriber_after n s).tape
legal-after zero s legal = legal
legal-after (suc n) s legal =
    legal-after n (subscriber_after_entry (next_of s.window) s)
    (after_entry-keeps (λ t. IsLegal t.tape) s (next_of s.window) legal (λ e _ _ free. IsLegal-with_message s.tape e.message legal free))

-- each event keeps the own tape legal
legal-event : (w : World) (event : Event) → IsLegal w.subscriber.tape → IsLegal (world_after w event).subscriber.tape
legal-event w (Admits message) legal = legal
legal-event w Closes legal = legal
legal-event w (Comes line packet) legal = legal
legal-event w (Drains count) legal = legal-after count w.subscriber legal
legal-event w Restarts legal = IsLegal-empty w.tape.listing w.limit w.tape.matrix

-- all the events keep the own tape legal
legal-run : (events : List Event) (w : World) → IsLegal w.subscriber.tape → IsLegal (run w events).subscriber.tape
legal-run [] w legal = legal
legal-run (event ∷ events) w legal = legal-run events (world_after w event) (legal-event w event legal)

-- whatever comes, the own tape is legal
pub legal : (events : List Event) (w : World) → EndsIn events w → IsLegal w.subscriber.tape
legal events w h = subst (λ v. IsLegal v.subscriber.tape) h.ends
    (legal-run events (start h.listing h.matrix h.tape_limit h.limit h.session) (IsLegal-empty h.listing h.limit h.matrix))

-- a replay makes it fail if and only if its own entry differs
pub fails_by_other : (s : SubscriberState) (e : Entry) → s.failed ≡ false → refusal s.tape e.message ≡ None
    → ((subscriber_after_entry (Some e) s).failed ≡ true → ¬ (own_entry s e.message ≡ e))
    × (¬ (own_entry s e.message ≡ e) → (subscriber_after_entry (Some e) s).failed ≡ true)
fails_by_other s e running free =
    let is : (subscriber_after_entry (Some e) s).failed ≡ not (entry_eq (own_entry s e.message) e) = ap (λ (t : SubscriberState). t.failed)
    (after_entry-admitted s e running free) in
    let decides = entry-Decides (own_entry s e.message) e in (
      λ fails. λ same. true≢false (sym (decides.1 same) ∙ not-true _ (sym is ∙ fails)),
      λ other. is ∙ not_from_false _ (by (entry_eq (own_entry s e.message) e) refl decides.0 other),
    )
  where
    by : (b : Bool) → entry_eq (own_entry s e.message) e ≡ b → (entry_eq (own_entry s e.message) e ≡ true → own_entry s e.message ≡ e)
        → ¬ (own_entry s e.message ≡ e) → entry_eq (own_entry s e.message) e ≡ false
    by true is means other = absurd (other (means is))
    by false is means other = is
