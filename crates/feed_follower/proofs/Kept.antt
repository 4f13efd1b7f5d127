-- What a drain keeps: a tape's terms, and what is known of the day.
use Rattle.std.proofs.Common.{◌≡◌, ℕ, zero, suc, Option, None, Some, true, false, refl, sym, subst, ◌∙◌}
use Rattle.std.specs.Prelude.{◌||◌, is_some, if◌then◌else◌}
use Rattle.arbitration.specs.Windows.{next_of}
use Rattle.feed_follower.specs.Followers.{KeepsNews, KeepsTerms}
use Rattle.subscriber.specs.Drains.{DrainStops, DrainsAll, DrainsNext}
use Rattle.subscriber.specs.declared.drain_fault.DrainFault.{DrainFault}
use Rattle.subscriber.specs.Subscribers.{SubscriberState, subscriber_after, subscriber_after_entry, with_entry}
use Rattle.tape_core.specs.Tape.{refusal}
use Rattle.tape_core.specs.declared.entry.Entry.{Entry}

-- one entry keeps the terms
kept_by_entry : (next : Option Entry) (s : SubscriberState) → KeepsTerms s.tape (subscriber_after_entry next s).tape
kept_by_entry None s = (refl, refl, refl)
kept_by_entry (Some e) s =
    elim (s.failed || is_some (refusal s.tape e.message)) as (λ stops. KeepsTerms s.tape (if stops then s else with_entry e s).tape) [
      | true ↦ (refl, refl, refl)
      | false ↦ (refl, refl, refl)
    ]

-- so do several
kept_by_all : (n : ℕ) (s : SubscriberState) → KeepsTerms s.tape (subscriber_after n s).tape
kept_by_all zero s = (refl, refl, refl)
kept_by_all (suc n) s =
    let one = kept_by_entry (next_of s.window) s in
    let rest = kept_by_all n (subscriber_after_entry (next_of s.window) s) in
    (rest.0 ∙ one.0, rest.1 ∙ one.1, rest.2 ∙ one.2)

-- so does a drain
kept_by_drain : (n : ℕ) (old new : SubscriberState) → new ≡ subscriber_after n old → KeepsTerms old.tape new.tape
kept_by_drain n old new is = subst (λ (s : SubscriberState). KeepsTerms old.tape s.tape) (sym is) (kept_by_all n old)

-- one after which all that was ready is held
pub kept_at_end : (n : ℕ) (old new : SubscriberState) → DrainsAll n old new → KeepsTerms old.tape new.tape
kept_at_end n old new drains = kept_by_drain n old new drains.state

-- one that stopped
pub kept_at_stop : (fault : DrainFault) (old new : SubscriberState) → DrainStops fault old new → KeepsTerms old.tape new.tape
kept_at_stop fault old new stops = kept_by_drain fault.drained old new stops.state

-- one entry that is replayed is no news of the day
news_by_entry : (next : Option Entry) (s : SubscriberState) → KeepsNews s (subscriber_after_entry next s)
news_by_entry None s = (refl, refl, refl, refl)
news_by_entry (Some e) s =
    elim (s.failed || is_some (refusal s.tape e.message)) as (λ stops. KeepsNews s (if stops then s else with_entry e s)) [
      | true ↦ (refl, refl, refl, refl)
      | false ↦ (refl, refl, refl, refl)
    ]

-- nor are several
news_by_all : (n : ℕ) (s : SubscriberState) → KeepsNews s (subscriber_after n s)
news_by_all zero s = (refl, refl, refl, refl)
news_by_all (suc n) s =
    let one = news_by_entry (next_of s.window) s in
    let rest = news_by_all n (subscriber_after_entry (next_of s.window) s) in
    (rest.0 ∙ one.0, rest.1 ∙ one.1, rest.2 ∙ one.2, rest.3 ∙ one.3)

-- nor is a drain
news_by_drain : (n : ℕ) (old new : SubscriberState) → new ≡ subscriber_after n old → KeepsNews old new
news_by_drain n old new is = subst (λ (s : SubscriberState). KeepsNews old s) (sym is) (news_by_all n old)

-- after which all that was ready is held
pub news_at_end : (n : ℕ) (old new : SubscriberState) → DrainsAll n old new → KeepsNews old new
news_at_end n old new drains = news_by_drain n old new drains.state

-- or that stopped
pub news_at_stop : (fault : DrainFault) (old new : SubscriberState) → DrainStops fault old new → KeepsNews old new
news_at_stop fault old new stops = news_by_drain fault.drained old new stops.state

-- nor a drain of the next entry
pub news_at_next : (next : Option Entry) (old new : SubscriberState) → DrainsNext next old new → KeepsNews old new
news_at_next None old new drains = subst (λ (s : SubscriberState). KeepsNews old s) (sym drains.2) (refl, refl, refl, refl)
news_at_next (Some e) old new drains = subst (λ (s : SubscriberState). KeepsNews old s) (sym drains.3) (refl, refl, refl, refl)
