-- Shows that a tally counts one more refused frame for its reason.
use Rattle.std.proofs.Common.{◌≡◌, ◌≢◌, ◌<◌, ◌≤◌, ◌+◌, ◌-◌, ◌^◌, ◌==◌, ◌∷◌, ◌++◌, ◌∙◌, [], ℕ, List, Bool, true, false, cond, Option, Some, None, IfSome}
use Rattle.std.proofs.Common.{ap, arith, inl, inr, length, length-append, refl, replicate, subst, sym, zero-add}
use Rattle.std.proofs.lemmas.Bool.{cases_Bool, eq-eqb}
use Rattle.std.proofs.lemmas.List.{get_or-replicate, get_or-set_other, get_or-set_same}
use Rattle.std.proofs.lemmas.List.Sums.{count_by-le-length, sum_by_from, sum_by_push}
use Rattle.std.specs.List.{Contains, count_by, slice_index_or}
use Rattle.std.specs.Prelude.{find, slice_set}
use Rattle.std.specs.Option.{option_map}
use Rattle.reports.specs.Faults.{message_fault_code}
use Rattle.reports.specs.declared.fault.MessageFault.{MessageFault}
use Rattle.reports.specs.declared.fault.MessageFault.TheVariants as fault
use Rattle.tape_core.specs.Refusals.{refusal_code}
use Rattle.tape_core.specs.declared.refusal.Refusal.{Refusal}
use Rattle.tape_core.specs.declared.refusal.Refusal.TheVariants as tape
use Rattle.participant_lines.specs.Tallies.{AreCounted, all_reasons, is_for, one_more, reason_code, refused_for, refused_frames}
use Rattle.participant_lines.specs.declared.tally.RefusedFrame.{RefusedFrame}
use Rattle.participant_lines.specs.declared.tally.Reason.{Reason}
use Rattle.participant_lines.specs.declared.tally.Reason.TheVariants.{Unspelled, Refused as ByTape}
use Rattle.participant_lines.specs.declared.tally.RefusedFrames.{RefusedFrames}
use Rattle.participant_lines.specs.declared.tally.Tally.{Tally}

-- the numbers of faults
fault_range : (f : MessageFault) → (11 ≤ message_fault_code f) × (message_fault_code f ≤ 44)
fault_range fault.Oversize = (omega arith, omega arith)
fault_range fault.Short = (omega arith, omega arith)
fault_range fault.BadKind = (omega arith, omega arith)
fault_range fault.BadLength = (omega arith, omega arith)
fault_range fault.BadParticipant = (omega arith, omega arith)
fault_range fault.BadNumber = (omega arith, omega arith)
fault_range fault.BadSymbol = (omega arith, omega arith)
fault_range fault.BadTarget = (omega arith, omega arith)
fault_range fault.BadPrice = (omega arith, omega arith)
fault_range fault.BadSize = (omega arith, omega arith)
fault_range fault.BadCondition = (omega arith, omega arith)

-- the numbers of refusals
refusal_range : (r : Refusal) → (11 ≤ refusal_code r) × (refusal_code r ≤ 44)
refusal_range tape.Closed = (omega arith, omega arith)
refusal_range tape.Full = (omega arith, omega arith)
refusal_range tape.WrongLine = (omega arith, omega arith)
refusal_range tape.UnknownParticipant = (omega arith, omega arith)
refusal_range tape.Stale = (omega arith, omega arith)
refusal_range tape.UnknownSymbol = (omega arith, omega arith)
refusal_range tape.NoSuchReport = (omega arith, omega arith)
refusal_range tape.OtherSymbol = (omega arith, omega arith)
refusal_range tape.Cancelled = (omega arith, omega arith)
refusal_range tape.OutOfMemory = (omega arith, omega arith)
refusal_range tape.WrongNumber = (omega arith, omega arith)
refusal_range tape.Standing = (omega arith, omega arith)
refusal_range tape.NotInMatrix = (omega arith, omega arith)

-- the numbers of reasons
pub code_range : (r : Reason) → (11 ≤ reason_code r) × (reason_code r ≤ 44)
code_range (Unspelled f) = fault_range f
code_range (ByTape r) = refusal_range r

-- each reason is in `ALL_REASONS`
pub reason-known : (why : Reason) → Contains all_reasons why
reason-known (Unspelled fault.Oversize) = (0, omega arith, refl)
reason-known (Unspelled fault.Short) = (1, omega arith, refl)
reason-known (Unspelled fault.BadKind) = (2, omega arith, refl)
reason-known (Unspelled fault.BadLength) = (3, omega arith, refl)
reason-known (Unspelled fault.BadParticipant) = (4, omega arith, refl)
reason-known (Unspelled fault.BadNumber) = (5, omega arith, refl)
reason-known (Unspelled fault.BadSymbol) = (6, omega arith, refl)
reason-known (Unspelled fault.BadTarget) = (7, omega arith, refl)
reason-known (Unspelled fault.BadPrice) = (8, omega arith, refl)
reason-known (Unspelled fault.BadSize) = (9, omega arith, refl)
reason-known (Unspelled fault.BadCondition) = (10, omega arith, refl)
reason-known (ByTape tape.Closed) = (11, omega arith, refl)
reason-known (ByTape tape.Full) = (12, omega arith, refl)
reason-known (ByTape tape.WrongLine) = (13, omega arith, refl)
reason-known (ByTape tape.UnknownParticipant) = (14, omega arith, refl)
reason-known (ByTape tape.Stale) = (15, omega arith, refl)
reason-known (ByTape tape.UnknownSymbol) = (16, omega arith, refl)
reason-known (ByTape tape.NoSuchReport) = (17, omega arith, refl)
reason-known (ByTape tape.OtherSymbol) = (18, omega arith, refl)
reason-known (ByTape tape.Cancelled) = (19, omega arith, refl)
reason-known (ByTape tape.OutOfMemory) = (20, omega arith, refl)
reason-known (ByTape tape.WrongNumber) = (21, omega arith, refl)
reason-known (ByTape tape.Standing) = (22, omega arith, refl)
reason-known (ByTape tape.NotInMatrix) = (23, omega arith, refl)

-- ## Lists

-- one more element that fails a test is not the first to pass it
find-fails : {X : Type 0} (p : X → Bool) (xs : List X) (x : X) → p x ≡ false → find p (xs ++ x ∷ []) ≡ find p xs
find-fails p [] x fails = rw fails refl
find-fails p (y ∷ xs) x fails = elim (cases_Bool (p y)) [
  | inl passes ↦ rw passes refl
  | inr other ↦ rw other (find-fails p xs x fails)
]

-- the first that passes a test stays the first
find-found : {X : Type 0} (p : X → Bool) (xs : List X) (x y : X) → find p xs ≡ Some y → find p (xs ++ x ∷ []) ≡ Some y
find-found p [] x y found = absurd (cc found)
find-found p (z ∷ xs) x y found = elim (cases_Bool (p z)) [
  | inl passes ↦ rw passes (rw passes at found)
  | inr other ↦ rw other (find-found p xs x y (rw other at found))
]

-- one more element is the first that passes a test if none did
find-new : {X : Type 0} (p : X → Bool) (xs : List X) (x : X) → find p xs ≡ None → p x ≡ true → find p (xs ++ x ∷ []) ≡ Some x
find-new p [] x none passes = rw passes refl
find-new p (y ∷ xs) x none passes = elim (cases_Bool (p y)) [
  | inl first ↦ absurd (cc (rw first at none))
  | inr other ↦ rw other (find-new p xs x (rw other at none) passes)
]

-- if nothing passes a test, none are counted
count_by-none : {X : Type 0} (p : X → Bool) (xs : List X) → find p xs ≡ None → count_by p xs ≡ 0
count_by-none p [] none = refl
count_by-none p (y ∷ xs) none = elim (cases_Bool (p y)) [
  | inl first ↦ absurd (cc (rw first at none))
  | inr other ↦ sum_by_from (λ x. cond (p x) 1 0) (0 + cond (p y) 1 0) xs
      ∙ rw other (zero-add _ ∙ count_by-none p xs (rw other at none))
]

-- one more element is counted if it passes
count_by-passes : {X : Type 0} (p : X → Bool) (xs : List X) (x : X) → p x ≡ true → count_by p (xs ++ x ∷ []) ≡ count_by p xs + 1
count_by-passes p xs x passes = sum_by_push (λ x. cond (p x) 1 0) xs x ∙ rw passes refl

-- and not if it fails
count_by-fails : {X : Type 0} (p : X → Bool) (xs : List X) (x : X) → p x ≡ false → count_by p (xs ++ x ∷ []) ≡ count_by p xs
count_by-fails p xs x fails = sum_by_push (λ x. cond (p x) 1 0) xs x ∙ rw fails (omega arith)

-- ## Marks

-- marks by how many they are, if there is a first
abbrev counted : ℕ → Option RefusedFrame → Option RefusedFrames
counted count first = option_map (λ mark. record { count = count; first = mark.number }) first

-- a frame that was refused for another reason changes nothing
refused_frames-same : (reason : Reason) (marks : List RefusedFrame) (mark : RefusedFrame) → is_for reason mark ≡ false
    → refused_frames reason (marks ++ mark ∷ []) ≡ refused_frames reason marks
unfolding refused_frames
refused_frames-same reason marks mark other =
    ap (λ (n : ℕ). counted n (find (is_for reason) (marks ++ mark ∷ []))) (count_by-fails (is_for reason) marks mark other)
    ∙ ap (counted (count_by (is_for reason) marks)) (find-fails (is_for reason) marks mark other)

-- one more frame that was refused for this reason
refused_frames-more : (reason : Reason) (marks : List RefusedFrame) (mark : RefusedFrame) → is_for reason mark ≡ true
    → refused_frames reason (marks ++ mark ∷ []) ≡ Some (one_more (refused_frames reason marks) mark.number)
unfolding refused_frames
refused_frames-more reason marks mark same = cases (find p marks) refl
  where
    p : RefusedFrame → Bool
    p = is_for reason

    cases : (o : Option RefusedFrame) → find p marks ≡ o
        → counted (count_by p (marks ++ mark ∷ [])) (find p (marks ++ mark ∷ [])) ≡ Some (one_more (counted (count_by p marks) o) mark.number)
    cases None none =
        ap (counted (count_by p (marks ++ mark ∷ []))) (find-new p marks mark none same)
        ∙ ap (λ (n : ℕ). counted n (Some mark)) (count_by-passes p marks mark same ∙ ap (λ (n : ℕ). n + 1) (count_by-none p marks none))
    cases (Some first) found =
        ap (counted (count_by p (marks ++ mark ∷ []))) (find-found p marks mark first found)
        ∙ ap (λ (n : ℕ). counted n (Some first)) (count_by-passes p marks mark same)

-- no more marks are counted than there are
refused_frames-few : (reason : Reason) (marks : List RefusedFrame) → IfSome (refused_frames reason marks) (λ refused. refused.count ≤ length marks)
unfolding refused_frames
refused_frames-few reason marks = cases (find (is_for reason) marks)
  where
    cases : (o : Option RefusedFrame) → IfSome (counted (count_by (is_for reason) marks) o) (λ refused. refused.count ≤ length marks)
    cases None = tt
    cases (Some mark) = count_by-le-length (is_for reason) marks

-- if a stronger fact holds of a value, a weaker one does
if_some-weaker : {A : Type 0} (P Q : A → Type 0) (o : Option A) → ((a : A) → P a → Q a) → IfSome o P → IfSome o Q
if_some-weaker P Q None f h = tt
if_some-weaker P Q (Some a) f h = f a h

-- ## Tallies

-- an empty tally is that of no refused frame
pub AreCounted-none : (tally : Tally) → tally.reasons ≡ replicate 34 None → tally.refused ≡ 0 → AreCounted [] tally
unfolding refused_frames
AreCounted-none tally none nothing = record {
  all = nothing;
  each = λ reason.
      let range = code_range reason in
      ap (λ (l : List (Option RefusedFrames)). slice_index_or l (reason_code reason - 11) None) none
      ∙ get_or-replicate 34 (reason_code reason - 11) None None (omega (arith, range.1));
}

-- one more frame is counted for its reason
more_at : (old new : Tally) (mark : RefusedFrame) (place : ℕ) (more : RefusedFrames) (marks : List RefusedFrame)
    → length old.reasons ≡ 34 → place + 11 ≡ reason_code mark.reason → new.reasons ≡ slice_set old.reasons place (Some more)
    → (IfSome (slice_index_or old.reasons place None) (λ refused. refused.count + 1 < 2 ^ 32)
    → more ≡ one_more (slice_index_or old.reasons place None) mark.number)
    → length marks + 1 < 2 ^ 32 → AreCounted marks old → (reason : Reason) → refused_for new reason ≡ refused_frames reason (marks ++ mark ∷ [])
more_at old new mark place more marks size at set is fits had reason =
    let range = code_range mark.reason in
    let other_range = code_range reason in
    elim (cases_Bool (reason_code mark.reason == reason_code reason)) [
      | inl same ↦
          let same_code : reason_code mark.reason ≡ reason_code reason = grind (arith, same) in
          let here : reason_code reason - 11 ≡ place = omega (arith, same_code, at) in
          let had_here : slice_index_or old.reasons place None ≡ refused_frames reason marks =
          ap (λ (n : ℕ). slice_index_or old.reasons n None) (sym here) ∙ had.each reason in
          let few : IfSome (slice_index_or old.reasons place None) (λ refused. refused.count + 1 < 2 ^ 32) =
          subst (λ (o : Option RefusedFrames). IfSome o (λ refused. refused.count + 1 < 2 ^ 32)) (sym had_here)
          (if_some-weaker (λ refused. refused.count ≤ length marks) (λ refused. refused.count + 1 < 2 ^ 32) (refused_frames reason marks)
          (λ refused le. omega (arith, le, fits)) (refused_frames-few reason marks)) in
          ap (λ (l : List (Option RefusedFrames)). slice_index_or l (reason_code reason - 11) None) set
          ∙ ap (λ (n : ℕ). slice_index_or (slice_set old.reasons place (Some more)) n None) here
          ∙ get_or-set_same old.reasons place (Some more) None (omega (arith, size, at, range.1))
          ∙ ap (λ (r : RefusedFrames). Some r) (is few ∙ ap (λ (o : Option RefusedFrames). one_more o mark.number) had_here)
          ∙ sym (refused_frames-more reason marks mark same)
      | inr other ↦
          let apart : reason_code reason - 11 ≢ place = λ e. cc (eq-eqb (reason_code mark.reason) (reason_code reason) (omega (arith, e, at, other_range.0)), other) in
          ap (λ (l : List (Option RefusedFrames)). slice_index_or l (reason_code reason - 11) None) set
          ∙ get_or-set_other old.reasons place (reason_code reason - 11) (Some more) None apart
          ∙ had.each reason ∙ sym (refused_frames-same reason marks mark other)
    ]

-- so the tally is that of all the frames
pub AreCounted-more : (old new : Tally) (mark : RefusedFrame) (place : ℕ) (more : RefusedFrames) (marks : List RefusedFrame)
    → length old.reasons ≡ 34 → place + 11 ≡ reason_code mark.reason → new.reasons ≡ slice_set old.reasons place (Some more)
    → (IfSome (slice_index_or old.reasons place None) (λ refused. refused.count + 1 < 2 ^ 32)
    → more ≡ one_more (slice_index_or old.reasons place None) mark.number)
    → (old.refused + 1 < 2 ^ 32 → new.refused ≡ old.refused + 1)
    → length marks + 1 < 2 ^ 32 → AreCounted marks old → AreCounted (marks ++ mark ∷ []) new
AreCounted-more old new mark place more marks size at set is sum fits had = record {
  all = sum (omega (arith, had.all, fits)) ∙ omega (arith, had.all, length-append marks (mark ∷ []));
  each = more_at old new mark place more marks size at set is fits had;
}
