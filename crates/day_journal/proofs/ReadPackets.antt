-- The steps in which a group is read.
use Rattle.std.proofs.Common.{◌≡◌, ℕ, suc, ◌+◌, ◌-◌, ◌%◌, ◌<◌, ◌≤◌, ◌==◌, true, false, List, ◌++◌, length, take, drop, Result, Ok, Err, refl, sym, ap, ◌∙◌, arith, inl, inr}
use Rattle.std.specs.Int.{w16, w32, from_be_bytes}
use Rattle.std.proofs.lemmas.Bool.{cases_lt, le-ltb}
use Rattle.std.proofs.lemmas.List.{length-drop}
use Rattle.reports.specs.Fields.{◌>>=◌, Reads, bytes_at, number_at}
use Rattle.reports.specs.Lemmas.Fields.{ok_is}
use Rattle.tape_core.specs.declared.entry.Entry.{Entry}
use Rattle.tape_frames.specs.Limits.{ENTRIES_MOST}
use Rattle.tape_frames.specs.Reading.{packet_of}
use Rattle.day_journal.specs.declared.group_fault.GroupFault.{GroupFault}
use Rattle.day_journal.specs.declared.group_fault.GroupFault.TheVariants.{Torn, Damaged}
use Rattle.day_journal.specs.GroupReading.{begins_with_packet, frame_length, is_packet, next_row, packets_at, told_at}
use Rattle.day_journal.proofs.Lists.{short_length}

-- ---- fronts that are packets

-- the front of this length is a packet
pub begins_found : (len : ℕ) (bytes : List ℕ) → 1 ≤ len → is_packet (packet_of (take (len - 1) bytes)) ≡ true → begins_with_packet len bytes ≡ true
unfolding begins_with_packet
begins_found len bytes some found =
    let one : len ≡ suc (len - 1) = omega (arith, some) in
    ap (λ (n : ℕ). begins_with_packet n bytes) one ∙ rw found refl

-- the front of this length is not a packet
pub begins_next : (len : ℕ) (bytes : List ℕ) → 1 ≤ len → is_packet (packet_of (take (len - 1) bytes)) ≡ false
    → begins_with_packet (len - 1) bytes ≡ begins_with_packet len bytes
unfolding begins_with_packet
begins_next len bytes some none =
    let one : len ≡ suc (len - 1) = omega (arith, some) in
    let next : begins_with_packet (suc (len - 1)) bytes ≡ begins_with_packet (len - 1) bytes = rw none refl in
    sym (ap (λ (n : ℕ). begins_with_packet n bytes) one ∙ next)

-- no front is left
pub begins_none : (len : ℕ) (bytes : List ℕ) → len ≡ 0 → begins_with_packet len bytes ≡ false
unfolding begins_with_packet
begins_none len bytes none = rw none refl

-- ---- a length

-- a length that is read has two bytes
pub length_there : (bytes : List ℕ) (n : ℕ) (rest : List ℕ) → number_at Torn w16 bytes ≡ Ok (n, rest) → 2 + length rest ≡ length bytes
unfolding number_at bytes_at
length_there bytes n rest e = elim (cases_lt (length bytes) 2) [
  | inl low ↦ absurd (cc (short_length bytes low, e))
  | inr high ↦
      let read : number_at Torn w16 bytes ≡ Ok (from_be_bytes w16 (take 2 bytes), drop 2 bytes) = rw (le-ltb (length bytes) 2 high) refl in
      let same = ok_is Torn (from_be_bytes w16 (take 2 bytes), drop 2 bytes) (n, rest) (sym read ∙ e) in
      omega (arith, ap (λ (x : ℕ × List ℕ). length x.1) same, length-drop 2 bytes, high)
]

-- ---- the number that a group's end states

-- a packet is skipped
pub told_next : (count place : ℕ) (bytes rest : List ℕ) (len : ℕ) → place < count → number_at Damaged w16 bytes ≡ Ok (len, rest) → (len == 0) ≡ false
    → told_at (count - (place + 1)) (drop len rest) ≡ told_at (count - place) bytes
unfolding told_at
told_next count place bytes rest len more read some =
    let one : count - place ≡ suc (count - (place + 1)) = omega (arith, more) in
    rw (one, read, some) refl

-- a length that is missing or wrong
pub told_stops : (count place : ℕ) (bytes : List ℕ) (f : GroupFault) → place < count → number_at Damaged w16 bytes ≡ Err f → told_at (count - place) bytes ≡ Err f
unfolding told_at
told_stops count place bytes f more read =
    let one : count - place ≡ suc (count - (place + 1)) = omega (arith, more) in
    rw (one, read) refl

-- the number after the mark
pub told_here : (count place : ℕ) (bytes rest : List ℕ) (len : ℕ) → place < count → number_at Damaged w16 bytes ≡ Ok (len, rest) → (len == 0) ≡ true
    → told_at (count - place) bytes ≡ (number_at Damaged w32 rest >>= λ n. Ok n.0)
unfolding told_at
told_here count place bytes rest len more read none =
    let one : count - place ≡ suc (count - (place + 1)) = omega (arith, more) in
    rw (one, read, none) refl

-- no packet is left
pub told_none : (count place : ℕ) (bytes : List ℕ) → count ≤ place → told_at (count - place) bytes ≡ Err Damaged
unfolding told_at
told_none count place bytes all = let none : count - place ≡ 0 = omega (arith, all) in rw none refl

-- a number that is read, without what is left
pub number_alone : (r : Result ℕ GroupFault) (rest : List ℕ) (read : Result (ℕ × List ℕ) GroupFault) → Reads r rest read → r ≡ (read >>= λ n. Ok n.0)
number_alone (Ok n) rest read is = rw is refl
number_alone (Err f) rest read is = rw is refl

-- ---- packets

-- the mark
pub packets_mark : (count place session held : ℕ) (es : List Entry) (bytes : List ℕ) (len : ℕ) → place < count → frame_length session (held + length es + 1) bytes ≡ Ok len → (len == 0) ≡ true
    → packets_at (count - place) session held es bytes ≡ Ok (es, drop 2 bytes)
unfolding packets_at
packets_mark count place session held es bytes len more read none =
    let one : count - place ≡ suc (count - (place + 1)) = omega (arith, more) in
    rw (one, read, none) refl

-- a length that is missing or wrong
pub packets_stop : (count place session held : ℕ) (es : List Entry) (bytes : List ℕ) (f : GroupFault) → place < count → frame_length session (held + length es + 1) bytes ≡ Err f
    → packets_at (count - place) session held es bytes ≡ Err f
unfolding packets_at
packets_stop count place session held es bytes f more read =
    let one : count - place ≡ suc (count - (place + 1)) = omega (arith, more) in
    rw (one, read) refl

-- a packet after one that is not full
pub packets_not_full : (count place session held : ℕ) (es : List Entry) (bytes : List ℕ) (len : ℕ) → place < count → frame_length session (held + length es + 1) bytes ≡ Ok len → (len == 0) ≡ false
    → (length es % ENTRIES_MOST == 0) ≡ false → packets_at (count - place) session held es bytes ≡ Err Damaged
unfolding packets_at
packets_not_full count place session held es bytes len more read some full =
    let one : count - place ≡ suc (count - (place + 1)) = omega (arith, more) in
    rw (one, read, some, full) refl

-- a packet that is not the next one
pub packets_other : (count place session held : ℕ) (es : List Entry) (bytes : List ℕ) (len : ℕ) (f : GroupFault) → place < count → frame_length session (held + length es + 1) bytes ≡ Ok len
    → (len == 0) ≡ false → (length es % ENTRIES_MOST == 0) ≡ true → next_row session (held + length es + 1) (packet_of (take len (drop 2 bytes))) ≡ Err f
    → packets_at (count - place) session held es bytes ≡ Err f
unfolding packets_at
packets_other count place session held es bytes len f more read some full row =
    let one : count - place ≡ suc (count - (place + 1)) = omega (arith, more) in
    rw (one, read, some, full, row) refl

-- the next packet
pub packets_next : (count place session held : ℕ) (es row : List Entry) (bytes : List ℕ) (len : ℕ) → place < count → frame_length session (held + length es + 1) bytes ≡ Ok len
    → (len == 0) ≡ false → (length es % ENTRIES_MOST == 0) ≡ true → next_row session (held + length es + 1) (packet_of (take len (drop 2 bytes))) ≡ Ok row
    → packets_at (count - (place + 1)) session held (es ++ row) (drop (2 + len) bytes) ≡ packets_at (count - place) session held es bytes
unfolding packets_at
packets_next count place session held es row bytes len more read some full next =
    let one : count - place ≡ suc (count - (place + 1)) = omega (arith, more) in
    rw (one, read, some, full, next) refl

-- no packet is left
pub packets_none : (count place session held : ℕ) (es : List Entry) (bytes : List ℕ) → count ≤ place → packets_at (count - place) session held es bytes ≡ Err Damaged
unfolding packets_at
packets_none count place session held es bytes all = let none : count - place ≡ 0 = omega (arith, all) in rw none refl
