-- One turn of a drain: the next entry is admitted or refused by the own tape.
use Rattle.std.proofs.Common.{◌≡◌, ◌+◌, ◌||◌, Bool, true, false, length, Option, None, Some, refl, sym, ap, subst}
use Rattle.std.specs.Prelude.{is_some}
use Rattle.std.proofs.lemmas.Bool.{cond-true, cond-false, or_from, or_parts, or_right, not_from_true}
use Rattle.std.proofs.lemmas.List.{length_push}
use Rattle.tape_core.specs.declared.entry.Entry.{Entry}
use Rattle.tape_core.specs.declared.refusal.Refusal.{Refusal}
use Rattle.tape_core.specs.Tape.{refusal, next_entry}
use Rattle.tape_core.specs.Lemmas.Equality.{entry-Decides}
use Rattle.subscriber.specs.Subscribers.{SubscriberState, own_entry, with_entry, subscriber_after_entry}

-- the own tape of a subscriber that has not failed admits the next entry's message
pub after_entry-admitted : (s : SubscriberState) (e : Entry) → s.failed ≡ false → refusal s.tape e.message ≡ None
    → subscriber_after_entry (Some e) s ≡ with_entry e s
after_entry-admitted s e running free =
    cond-false (s.failed || is_some (refusal s.tape e.message)) s (with_entry e s) (or_from _ _ running (ap is_some free))

-- the own tape refuses it
pub after_entry-refused : (s : SubscriberState) (e : Entry) → is_some (refusal s.tape e.message) ≡ true → subscriber_after_entry (Some e) s ≡ s
after_entry-refused s e refused = cond-true (s.failed || is_some (refusal s.tape e.message)) s (with_entry e s) (or_right s.failed _ refused)

-- a fact about the subscriber that a replay keeps: shown for an entry that is admitted, and for no change
pub after_entry-keeps : (P : SubscriberState → Type 0) (s : SubscriberState) (o : Option Entry) → P s
    → ((e : Entry) → o ≡ Some e → s.failed ≡ false → refusal s.tape e.message ≡ None → P (with_entry e s)) → P (subscriber_after_entry o s)
after_entry-keeps P s None h step = h
after_entry-keeps P s (Some e) h step = by (s.failed || is_some (refusal s.tape e.message)) refl
  where
    free : (r : Option Refusal) → is_some r ≡ false → r ≡ None
    free None is = refl
    free (Some r) is = absurd (cc)

    by : (b : Bool) → (s.failed || is_some (refusal s.tape e.message)) ≡ b → P (subscriber_after_entry (Some e) s)
    by true stays = subst P (sym (cond-true (s.failed || is_some (refusal s.tape e.message)) s (with_entry e s) stays)) h
    by false goes =
        let both = or_parts s.failed (is_some (refusal s.tape e.message)) goes in
        subst P (sym (cond-false (s.failed || is_some (refusal s.tape e.message)) s (with_entry e s) goes))
        (step e refl both.0 (free (refusal s.tape e.message) both.1))

-- an entry that is its own does not make a subscriber fail
pub own_runs : (s : SubscriberState) (e : Entry) → own_entry s e.message ≡ e → (with_entry e s).failed ≡ false
own_runs s e own = not_from_true _ ((entry-Decides (own_entry s e.message) e).1 own)

-- an admitted entry adds one to those held
pub length-with_entry : (s : SubscriberState) (e : Entry) → length (with_entry e s).tape.entries ≡ length s.tape.entries + 1
length-with_entry s e = length_push s.tape.entries (next_entry s.tape.matrix s.tape.entries e.message)
