-- Shows the answer to one message, and the tape after it.
use Rattle.std.proofs.Common.{◌≡◌, ◌≢◌, ◌+◌, ◌∙◌, ℕ, Option, Result, Some, None, Ok, Err, length, ap, sym, refl, unwrap_or}
use Rattle.reports.specs.declared.message.Message.{Message}
use Rattle.tape_core.specs.Tape.{TapeState, next_entry, refusal, with_message}
use Rattle.tape_core.specs.declared.entry.Entry.{Entry}
use Rattle.tape_core.specs.declared.refusal.Refusal.{Refusal}
use Rattle.tape_core.specs.declared.refusal.Refusal.TheVariants.{OutOfMemory}
use Rattle.tape_core.specs.Answers.{answer, answer_by, tape_after, tape_by}

-- a message that the tape refuses leaves it as it was
pub tape_after-refused : (t : TapeState) (m : Message) (r : Refusal) → r ≡ unwrap_or (refusal t m) OutOfMemory → r ≢ OutOfMemory → tape_after t m ≡ t
unfolding tape_after
tape_after-refused t m r is other = cases (refusal t m) is
  where
    cases : (o : Option Refusal) → r ≡ unwrap_or o OutOfMemory → tape_by t m o ≡ t
    cases None is = absurd (other is)
    cases (Some refused) is = refl

-- and that refusal is its answer
pub answer-refused : (t : TapeState) (m : Message) (r : Refusal) → r ≡ unwrap_or (refusal t m) OutOfMemory → r ≢ OutOfMemory → answer t m ≡ Err r
unfolding answer
answer-refused t m r is other = cases (refusal t m) is
  where
    cases : (o : Option Refusal) → r ≡ unwrap_or o OutOfMemory → answer_by t o ≡ Err r
    cases None is = absurd (other is)
    cases (Some refused) is = ap (λ (r : Refusal). Err r) (sym is)

-- a message for which a refusal applies leaves the tape as it was
pub tape_after-kept : (t : TapeState) (m : Message) (r : Refusal) → refusal t m ≡ Some r → tape_after t m ≡ t
unfolding tape_after
tape_after-kept t m r refused = ap (tape_by t m) refused

-- a message that the tape admits is its next one
pub tape_after-admitted : (t : TapeState) (m : Message) → refusal t m ≡ None → tape_after t m ≡ with_message t m
unfolding tape_after
tape_after-admitted t m none = ap (tape_by t m) none

-- and the next number is its answer
pub answer-admitted : (t : TapeState) (m : Message) → refusal t m ≡ None → answer t m ≡ Ok (length t.entries + 1)
unfolding answer
answer-admitted t m none = ap (answer_by t) none

-- the number of its entry
abbrev entry_number : Entry → Result ℕ Refusal
entry_number e = Ok e.number

-- an entry that is admitted has the number of its answer
pub answer-entry : (t : TapeState) (m : Message) (e : Entry) → refusal t m ≡ None → e ≡ next_entry t.matrix t.entries m → entry_number e ≡ answer t m
answer-entry t m e none is = ap entry_number is ∙ sym (answer-admitted t m none)
