-- What holds of a start by the bytes that were read holds of the start that reads them first.
use Rattle.std.proofs.Common.{◌≡◌, [], IfOk, IfSome, List, Option, Some, None, Result, Ok, Err, inl, inr, refl, subst, ℕ}
use Rattle.std.specs.Io.KnownBytes.{Keeps}
use Rattle.days.specs.declared.day.Day.{Day}
use Rattle.journal_start.specs.Starts.{IsUnread, Refuses, Starts}
use Rattle.journal_start.specs.declared.start_fault.StartFault.{StartFault}
use Rattle.journal_start.specs.declared.start_fault.StartFault.TheVariants.{Refused, Unread, Unwritten, OutOfMemory}
use Rattle.journal_start.specs.declared.starting.Started.{Started}

-- there are bytes that are those known, if they are known
known_bytes : (known : Option (List ℕ)) → (bytes : List ℕ) × IfSome known (λ held. bytes ≡ held)
known_bytes None = ([], tt)
known_bytes (Some held) = (held, refl)

-- a journal that can't be read
pub unread : (known : Option (List ℕ)) (fault : StartFault) (day : Day) → IsUnread fault
    → (bytes : List ℕ) × IfSome known (λ held. bytes ≡ held) × Refuses fault day bytes
unread known (Refused why) day never = absurd never
unread known (Unread why) day is = ((known_bytes known).0, (known_bytes known).1, tt)
unread known Unwritten day never = absurd never
unread known OutOfMemory day is = ((known_bytes known).0, (known_bytes known).1, tt)

-- a journal that was refused
pub refused_before : (known : Option (List ℕ)) (fault : StartFault) (day : Day) (bytes : List ℕ) → IfSome known (λ held. bytes ≡ held) → Refuses fault day bytes
    → (bytes : List ℕ) × IfSome known (λ held. bytes ≡ held) × Refuses fault day bytes
refused_before known fault day bytes is refused = (bytes, is, refused)

-- a journal that was started after it was read
pub starts_before : (s : Started) (day : Day) (bytes : List ℕ) (old mid new : Option (List ℕ)) → IfSome old (λ held. bytes ≡ held) → Keeps old mid
    → Starts s day bytes mid new → (bytes : List ℕ) × IfSome old (λ held. bytes ≡ held) × Starts s day bytes old new
starts_before s day bytes None mid new is keeps (inl b) =
    (bytes, is, inl (record { unbegun = b.unbegun; groups = b.groups; past = b.past; cut_off = b.cut_off; header = tt }))
starts_before s day bytes None mid new is keeps (inr o) = (
  bytes,
  is,
  inr (record {
    header = o.header;
    had = o.had;
    begun = o.begun;
    read = o.read;
    groups = o.groups;
    cut_off = o.cut_off;
    cut = inl tt;
    past = o.past;
    is_past = o.is_past;
  }),
)
starts_before s day bytes (Some held) None new is keeps starts = absurd keeps
starts_before s day bytes (Some held) (Some left) new is keeps starts =
    (bytes, is, subst (λ (l : List ℕ). Starts s day bytes (Some l) new) keeps starts)

-- a journal that may have been started after it was read
pub ok_before : (result : Result Started StartFault) (day : Day) (bytes : List ℕ) (old mid new : Option (List ℕ)) → IfSome old (λ held. bytes ≡ held)
    → Keeps old mid → IfOk result (λ s. Starts s day bytes mid new)
    → IfOk result (λ s. (bytes : List ℕ) × IfSome old (λ held. bytes ≡ held) × Starts s day bytes old new)
ok_before (Ok s) day bytes old mid new is keeps starts = starts_before s day bytes old mid new is keeps starts
ok_before (Err fault) day bytes old mid new is keeps starts = tt
