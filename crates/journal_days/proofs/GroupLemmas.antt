-- Replays the groups of a journal one after the other.
use Rattle.std.proofs.Common.{◌≡◌, ℕ, suc, ◌+◌, ◌-◌, ◌<◌, ◌≤◌, ◌==◌, false, List, [], ◌∷◌, ◌++◌, length, take, slice_get, Some, None}
use Rattle.std.proofs.Common.{Ok, Err, append-nil, append_assoc, length-append, refl, sym, ap, subst, ◌∙◌, arith}
use Rattle.std.proofs.lemmas.Bool.{ne_eqb}
use Rattle.std.proofs.lemmas.List.{get_or_append_left, get_or-append-add, take-append-le}
use Rattle.std.proofs.lemmas.Option.{get_or_from_slice_get, slice_get-get_or, slice_get_within}
use Rattle.tape_core.specs.declared.entry.Entry.{Entry}
use Rattle.tape_core.specs.Tape.{TapeState, next_entry, with_message}
use Rattle.day_journal.specs.declared.group_fault.GroupFault.{GroupFault}
use Rattle.day_journal.specs.declared.group_fault.GroupFault.TheVariants as fault
use Rattle.day_journal.specs.declared.group_reader.Next.TheVariants.{End}
use Rattle.day_journal.specs.declared.journal_end.JournalEnd.{JournalEnd}
use Rattle.day_journal.specs.declared.journal_end.JournalEnd.TheVariants.{Whole, Torn, Damaged}
use Rattle.day_journal.specs.declared.replaying.ReplayFault.{ReplayFault}
use Rattle.day_journal.specs.declared.replaying.ReplayFault.TheVariants.{Refused, Differs}
use Rattle.day_journal.specs.GroupReading.{Read, group_at, packets_at}
use Rattle.day_journal.specs.Journals.{IsRead, Journal, ReaderState, Reads, end_at, groups_at, read_next, with_group}
use Rattle.day_journal.specs.Replays.{StopsReplay, with_entries}
use Rattle.journal_days.specs.Days.{StopsAt, StopsEntries, StopsNext, TakesNext, entries_of}
use Rattle.journal_days.specs.declared.journal_fault.JournalFault.{JournalFault}
use Rattle.journal_days.specs.declared.journal_fault.JournalFault.TheVariants.{Header, OtherMatrix, Entry as OfEntry, Damaged as DamagedGroup, OutOfMemory as NoMemory}

-- ## One step of the reader

-- no group is read of no bytes
none_read : (r : ReaderState) (read : Read) → r.rest ≡ [] → read_next r ≡ Ok read → ⊥
unfolding group_at packets_at
none_read r read none is =
    let damaged : group_at r.session r.held r.digest r.rest ≡ Err fault.Damaged = rw none refl in
    cc

-- if a group is read, there are bytes
some_read : (r : ReaderState) (bytes : List ℕ) (read : Read) → r.rest ≡ bytes → read_next r ≡ Ok read → (length bytes == 0) ≡ false
some_read r [] read left is = absurd (none_read r read left is)
some_read r (b ∷ bytes) read left is = ne_eqb (length (b ∷ bytes)) 0 (λ none. omega (arith, none))

-- a group was read, and the others follow
pub one_group : (fuel : ℕ) (old new : ReaderState) (es : List Entry) → IsRead old es new → groups_at (suc fuel) old ≡ with_group es (groups_at fuel new)
unfolding groups_at
one_group fuel old new es read =
    let some : (length old.rest == 0) ≡ false = some_read old old.rest (es, (read.digest, read.rest)) refl read.read in
    rw (some, read.read, read.after) refl

-- the bytes that are left are no group
no_good : (fuel : ℕ) (end : JournalEnd) (f : GroupFault) (old : ReaderState) → 1 ≤ length old.rest → read_next old ≡ Err f → end ≡ end_at old f
    → groups_at (suc fuel) old ≡ ([], end)
unfolding groups_at
no_good fuel end f old left why is =
    let some : (length old.rest == 0) ≡ false = ne_eqb (length old.rest) 0 (λ none. omega (arith, none, left)) in
    rw (some, why, is) refl

-- no group follows, and this is the end
pub no_group : (fuel : ℕ) (end : JournalEnd) (old new : ReaderState) (es : List Entry) → Reads (End end) old es new → groups_at (suc fuel) old ≡ ([], end)
unfolding groups_at
no_group fuel Whole old new es reads = rw reads.0 refl
no_group fuel (Torn from) old new es (left, (f, why, is), same) = no_good fuel (Torn from) f old left why is
no_group fuel (Damaged first count) old new es (left, (f, why, is), same) = no_good fuel (Damaged first count) f old left why is

-- ## Entries behind others

-- a front that is longer than the first list
take_past : {A : Type 0} (xs ys : List A) (n : ℕ) → take (length xs + n) (xs ++ ys) ≡ xs ++ take n ys
take_past {A} [] ys n = let none : 0 + n ≡ n = omega arith in ap (λ (k : ℕ). take k ys) none
take_past {A} (x ∷ xs) ys n =
    let more : suc (length xs) + n ≡ suc (length xs + n) = omega arith in
    ap (λ (k : ℕ). take k (x ∷ (xs ++ ys))) more ∙ ap (λ (zs : List A). x ∷ zs) (take_past xs ys n)

module _ (done es rest : List Entry) (i : ℕ) (e : Entry) (at : slice_get es i ≡ Some e) where
  -- an entry of a group comes after those before the group
  behind : slice_get (done ++ (es ++ rest)) (length done + i) ≡ Some e
  behind =
      let within : i < length es = slice_get_within es i e at in
      let inside : length done + i < length (done ++ (es ++ rest)) = omega (arith, within, length-append done (es ++ rest), length-append es rest) in
      slice_get-get_or (done ++ (es ++ rest)) (length done + i) e inside
      ∙ ap Some (get_or-append-add done (es ++ rest) i e ∙ get_or_append_left es rest e i within ∙ get_or_from_slice_get es i e e at)

  -- and so do the entries before it
  front : take (length done + i) (done ++ (es ++ rest)) ≡ done ++ take i es
  front =
      let within : i < length es = slice_get_within es i e at in
      take_past done (es ++ rest) i ∙ ap (λ (xs : List Entry). done ++ xs) (take-append-le i es rest (omega (arith, within)))

-- a replay that stopped within a group stopped there among all entries
stops_behind : (f : ReplayFault) (first : TapeState) (done es rest : List Entry) (stopped : TapeState) → StopsReplay f (with_entries first done) es stopped
    → StopsReplay f first (done ++ (es ++ rest)) stopped
stops_behind (Refused number refusal) first done es rest stopped (i, e, at, is, why) =
    let all = done ++ (es ++ rest) in
    let same : (first.entries ++ done) ++ take i es ≡ first.entries ++ take (length done + i) all =
    append_assoc first.entries done (take i es) ∙ ap (λ (xs : List Entry). first.entries ++ xs) (sym (front done es rest i e at.found)) in (
      length done + i,
      e,
      record { found = behind done es rest i e at.found; numbered = at.numbered },
      is ∙ ap (λ (xs : List Entry). record first { entries = xs }) same,
      why,
    )
stops_behind (Differs number) first done es rest stopped (i, e, at, other, is) =
    let all = done ++ (es ++ rest) in
    let same : (first.entries ++ done) ++ take i es ≡ first.entries ++ take (length done + i) all =
    append_assoc first.entries done (take i es) ∙ ap (λ (xs : List Entry). first.entries ++ xs) (sym (front done es rest i e at.found)) in (
      length done + i,
      e,
      record { found = behind done es rest i e at.found; numbered = at.numbered },
      λ made. other (ap (λ (xs : List Entry). next_entry first.matrix xs e.message) same ∙ made),
      is ∙ ap (λ (xs : List Entry). with_message (record first { entries = xs }) e.message) same,
    )

-- ## All groups

-- some groups were replayed on a tape, and these are left of all
pub record Replayed (first now : TapeState) (all left : Journal) : Type 0 where
  pub done : List Entry
  pub tape : now ≡ with_entries first done
  pub entries : entries_of all ≡ done ++ entries_of left
  pub end : all.1 ≡ left.1

-- one more group was replayed
pub Replayed-more : (first old new : TapeState) (all left rest : Journal) (es : List Entry) → Replayed first old all left → left ≡ with_group es rest
    → new ≡ with_entries old es → Replayed first new all rest
Replayed-more first old new all left rest es had next grown = record {
  done = had.done ++ es;
  tape = grown ∙ ap (λ (t : TapeState). with_entries t es) had.tape
      ∙ ap (λ (xs : List Entry). record first { entries = xs }) (append_assoc first.entries had.done es);
  entries = had.entries ∙ ap (λ (j : Journal). had.done ++ entries_of j) next ∙ sym (append_assoc had.done es (entries_of rest));
  end = had.end ∙ ap (λ (j : Journal). j.1) next;
}

-- all groups were replayed
pub Replayed-all : (first now : TapeState) (all left : Journal) (end : JournalEnd) → Replayed first now all left → left ≡ ([], end)
    → (all.1 ≡ end) × (now ≡ with_entries first (entries_of all))
Replayed-all first now all left end had none =
    let whole : entries_of all ≡ had.done = had.entries ∙ ap (λ (j : Journal). had.done ++ entries_of j) none ∙ append-nil had.done in
    (had.end ∙ ap (λ (j : Journal). j.1) none, had.tape ∙ ap (with_entries first) (sym whole))

-- the replay stopped in one more group
pub Replayed-stops : (f : ReplayFault) (first now : TapeState) (all left rest : Journal) (es : List Entry) → Replayed first now all left
    → left ≡ with_group es rest → StopsAt f now es → StopsAt f first (entries_of all)
Replayed-stops f first now all left rest es had next (own, (stopped, tape, stops)) =
    let whole : entries_of all ≡ had.done ++ (es ++ entries_of rest) = had.entries ∙ ap (λ (j : Journal). had.done ++ entries_of j) next in (
      own,
      (
        stopped,
        tape,
        subst (λ (xs : List Entry). StopsReplay f first xs stopped) (sym whole)
            (stops_behind f first had.done es (entries_of rest) stopped (subst (λ (t : TapeState). StopsReplay f t es stopped) had.tape stops)),
      ),
    )

-- ## The turns of the loop

-- the turns that are left, one by one
one_turn : (turns turn : ℕ) → turn < turns → turns - turn ≡ suc (turns - (turn + 1))
one_turn turns turn within = omega (arith, within)

module _ (first now : TapeState) (turns turn : ℕ) (all : Journal) (old : ReaderState) (within : turn < turns)
    (had : Replayed first now all (groups_at (turns - turn) old)) where
  -- one more group is taken
  pub taken : (new : ReaderState) (after : TapeState) → TakesNext None old now new after → Replayed first after all (groups_at (turns - (turn + 1)) new)
  taken new after (es, read, grown) =
      let next : groups_at (turns - turn) old ≡ with_group es (groups_at (turns - (turn + 1)) new) =
      ap (λ (n : ℕ). groups_at n old) (one_turn turns turn within) ∙ one_group (turns - (turn + 1)) old new es read in
      Replayed-more first now after all (groups_at (turns - turn) old) (groups_at (turns - (turn + 1)) new) es had next grown

  -- the end is reached
  pub ended : (end : JournalEnd) (new : ReaderState) (after : TapeState) → TakesNext (Some end) old now new after
      → (all.1 ≡ end) × (after ≡ with_entries first (entries_of all))
  ended end new after ((es, reads), same) =
      let none : groups_at (turns - turn) old ≡ ([], end) =
      ap (λ (n : ℕ). groups_at n old) (one_turn turns turn within) ∙ no_group (turns - (turn + 1)) end old new es reads in
      let whole = Replayed-all first now all (groups_at (turns - turn) old) end had none in
      (whole.0, same ∙ whole.1)

  -- the replay stopped
  pub stopped : (fault : JournalFault) → StopsNext fault old now → StopsEntries fault first (entries_of all)
  stopped (Header f) stops = absurd stops
  stopped (OtherMatrix matrix) stops = absurd stops
  stopped (OfEntry f) (es, new, read, stops) =
      let next : groups_at (turns - turn) old ≡ with_group es (groups_at (turns - (turn + 1)) new) =
      ap (λ (n : ℕ). groups_at n old) (one_turn turns turn within) ∙ one_group (turns - (turn + 1)) old new es read in
      Replayed-stops f first now all (groups_at (turns - turn) old) (groups_at (turns - (turn + 1)) new) es had next stops
  stopped (DamagedGroup from count) stops = absurd stops
  stopped NoMemory stops = tt
