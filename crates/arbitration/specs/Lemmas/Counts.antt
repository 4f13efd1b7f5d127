-- Counts of slots and entries, and how one more entry changes them.
use Rattle.std.proofs.Common.{◌≡◌, ℕ, zero, suc, ◌+◌, ◌≤◌, ◌<◌, Bool, true, false, List, [], ◌∷◌, ◌++◌}
use Rattle.std.proofs.Common.{length, take, get_or, cond, Option, None, Some, refl, sym, ap, ◌∙◌, arith}
use Rattle.std.proofs.lemmas.Grind.{common_steps}
use Rattle.std.proofs.lemmas.List.{take_more}
use Rattle.std.proofs.lemmas.List.Sums.{count_by-le-length}
use Rattle.std.specs.Prelude.{is_some, count_by, replicate}
use Rattle.tape_core.specs.declared.entry.Entry.{Entry}
use Rattle.tape_frames.specs.PacketEntries.{IsNumberedFrom}
use Rattle.arbitration.specs.Lemmas.Numbers.{number_is_new}
use Rattle.arbitration.specs.Lemmas.Slots.{placing-slots_after}
use Rattle.arbitration.specs.Counts.{placing_of, is_fresh, is_repeated, is_too_far, taken_of, taken_with, fresh_count, brought_with}
use Rattle.arbitration.specs.Deliveries.{slots_after}
use Rattle.arbitration.specs.declared.line.Brought.{Brought}
use Rattle.arbitration.specs.declared.line.Line.{Line}
use Rattle.arbitration.specs.declared.line.Line.TheVariants.{A, B, R}
use Rattle.arbitration.specs.declared.taken.Placing.{Placing}
use Rattle.arbitration.specs.declared.taken.Placing.TheVariants.{Fresh, Repeated, Beyond}
use Rattle.arbitration.specs.declared.taken.Taken.{Taken}

-- one more that counts
pub count_push_yes : {X : Type 0} (p : X → Bool) (xs : List X) (x : X) → p x ≡ true → count_by p (xs ++ x ∷ []) ≡ count_by p xs + 1
count_push_yes p xs x h = grind (arith, common_steps)

-- one more that does not count
pub count_push_no : {X : Type 0} (p : X → Bool) (xs : List X) (x : X) → p x ≡ false → count_by p (xs ++ x ∷ []) ≡ count_by p xs
count_push_no p xs x h = grind (arith, common_steps)

-- a full slot counts
pub count_full : (e : Entry) (slots : List (Option Entry)) → count_by is_some (Some e ∷ slots) ≡ 1 + count_by is_some slots
count_full e slots = grind (arith, common_steps)

-- empty slots count nothing
pub count_none : (n : ℕ) → count_by (is_some {T = Entry}) (replicate n None) ≡ 0
count_none zero = refl
count_none (suc n) = count_none n

-- the counts with one more entry are those of the longer list
pub taken_with-push : (next : ℕ) (slots : List (Option Entry)) (es : List Entry) (e : Entry)
    → taken_with (taken_of next slots es) (placing_of next slots e) ≡ taken_of next slots (es ++ e ∷ [])
taken_with-push next slots es e = go (placing_of next slots e) refl
  where
    one : (p : Placing → Bool) (b : Bool) → p (placing_of next slots e) ≡ b → count_by (λ e. p (placing_of next slots e)) (es ++ e ∷ [])
        ≡ cond b (count_by (λ e. p (placing_of next slots e)) es + 1) (count_by (λ e. p (placing_of next slots e)) es)
    one p true h = count_push_yes (λ e. p (placing_of next slots e)) es e h
    one p false h = count_push_no (λ e. p (placing_of next slots e)) es e h

    go : (placing : Placing) → placing_of next slots e ≡ placing → taken_with (taken_of next slots es) placing ≡ taken_of next slots (es ++ e ∷ [])
    go Fresh is = λ i. record {
      fresh = sym (one is_fresh true (ap is_fresh is)) i;
      repeated = sym (one is_repeated false (ap is_repeated is)) i;
      beyond = sym (one is_too_far false (ap is_too_far is)) i;
    }
    go Repeated is = λ i. record {
      fresh = sym (one is_fresh false (ap is_fresh is)) i;
      repeated = sym (one is_repeated true (ap is_repeated is)) i;
      beyond = sym (one is_too_far false (ap is_too_far is)) i;
    }
    go Beyond is = λ i. record {
      fresh = sym (one is_fresh false (ap is_fresh is)) i;
      repeated = sym (one is_repeated false (ap is_repeated is)) i;
      beyond = sym (one is_too_far true (ap is_too_far is)) i;
    }

-- the counts after one turn of settling
pub turn_taken : (first next : ℕ) (start now : List (Option Entry)) (es : List Entry) (k : ℕ) (d : Entry) → IsNumberedFrom first es → k < length es
    → now ≡ slots_after next start (take k es) → taken_with (taken_of next start (take k es)) (placing_of next now (get_or es k d))
    ≡ taken_of next start (take (k + 1) es)
turn_taken first next start now es k d numbers within so_far =
    let e = get_or es k d in
    ap (taken_with (taken_of next start (take k es)))
    (ap (λ s. placing_of next s e) so_far ∙ placing-slots_after next start (take k es) e (number_is_new first es k d numbers within))
    ∙ taken_with-push next start (take k es) e ∙ ap (taken_of next start) (sym (take_more es k d within))

-- each count is at most the number of entries
pub few_taken : (next : ℕ) (slots : List (Option Entry)) (es : List Entry)
    → ((taken_of next slots es).fresh ≤ length es) × ((taken_of next slots es).repeated ≤ length es) × ((taken_of next slots es).beyond ≤ length es)
few_taken next slots es = (count_by-le-length _ es, count_by-le-length _ es, count_by-le-length _ es)

-- one more entry fills a slot if it is fresh
pub fresh_more : (n : ℕ) (t : Taken) (placing : Placing) → (n + t.fresh) + fresh_count placing ≡ n + (taken_with t placing).fresh
fresh_more n t Fresh = omega arith
fresh_more n t Repeated = omega arith
fresh_more n t Beyond = omega arith

-- what all lines brought grows by what one brought
pub brought_sum : (b : Brought) (line : Line) (n : ℕ) → (brought_with b line n).a + (brought_with b line n).b + (brought_with b line n).r
    ≡ (b.a + b.b + b.r) + n
brought_sum b A n = omega arith
brought_sum b B n = omega arith
brought_sum b R n = omega arith
