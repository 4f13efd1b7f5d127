-- Defines a journal's groups: their text one after the other, and what is read of any text.
use Rattle.std.specs.Prelude.{◌≡◌, ◌≤◌, ◌+◌, ◌-◌, ◌==◌, ℕ, zero, suc, List, [], ◌∷◌, ◌++◌, length, take, nat_le, Result, Ok, Err, if◌then◌else◌}
use Rattle.reports.specs.Lemmas.Fields.{AreBytes}
use Rattle.tape_core.specs.declared.entry.Entry.{Entry}
use Rattle.day_journal.specs.declared.group_fault.GroupFault.{GroupFault}
use Rattle.day_journal.specs.declared.group_fault.GroupFault.TheVariants as fault
use Rattle.day_journal.specs.declared.journal_end.JournalEnd.{JournalEnd}
use Rattle.day_journal.specs.declared.journal_end.JournalEnd.TheVariants.{Whole, Torn, Damaged}
use Rattle.day_journal.specs.declared.group_reader.Next.{Next}
use Rattle.day_journal.specs.declared.group_reader.Next.TheVariants.{Group, End}
use Rattle.day_journal.specs.Groups.{IsGroup, group_digest, group_text}
use Rattle.day_journal.specs.GroupReading.{Read, group_at, told_count}

-- ---- what is written

-- the groups one after the other, the first chained to this digest
unfoldable pub groups_text : ℕ → List ℕ → List (List Entry) → List ℕ
groups_text session before [] = []
groups_text session before (es ∷ gs) = group_text session before es ++ groups_text session (group_digest session before es) gs

-- each group follows those before it, the first this many entries
unfoldable pub AreGroups : ℕ → ℕ → List (List Entry) → Type 0
AreGroups session held [] = Unit {0}
AreGroups session held (es ∷ gs) = IsGroup session held es × AreGroups session (held + length es) gs

-- ---- what is read

-- what a contract sees of a reader: the session, how many entries it has read, the digest that the next group is chained to,
-- how many bytes the journal has, and those that are left of it
pub record ReaderState : Type 0 where
  pub session : ℕ
  pub held : ℕ
  pub digest : List ℕ
  pub total : ℕ
  pub rest : List ℕ

-- what the reader reads next
abbrev pub read_next : ReaderState → Result Read GroupFault
read_next r = group_at r.session r.held r.digest r.rest

-- the reader after a group
abbrev pub after_group : ReaderState → Read → ReaderState
after_group r read = record { session = r.session; held = r.held + length read.0; digest = read.1.0; total = r.total; rest = read.1.1 }

-- the end of a journal if no group follows
abbrev pub end_at : ReaderState → GroupFault → JournalEnd
end_at r fault.Torn = Torn (r.total - length r.rest)
end_at r other = Damaged (r.held + 1) (told_count r.rest)

-- what was read is the next group
pub record IsRead (old : ReaderState) (es : List Entry) (new : ReaderState) : Type 0 where
  pub digest : List ℕ
  pub rest : List ℕ
  pub read : read_next old ≡ Ok (es, (digest, rest))
  pub after : new ≡ after_group old (es, (digest, rest))

-- what the reader returns: a group with its entries, or the end, at which it stays
abbrev pub Reads : Next → ReaderState → List Entry → ReaderState → Type 0
Reads Group old es new = IsRead old es new
Reads (End Whole) old es new = (old.rest ≡ []) × (new ≡ old)
Reads (End end) old es new = (1 ≤ length old.rest) × ((f : GroupFault) × (read_next old ≡ Err f) × (end ≡ end_at old f)) × (new ≡ old)

-- all groups that a journal has, and its end
abbrev pub Journal : Type 0
Journal = List (List Entry) × JournalEnd

-- what follows from a group that was read, or from the fault
abbrev pub either : {X : Type 0} → Result Read GroupFault → (Read → X) → (GroupFault → X) → X
either (Ok read) good bad = good read
either (Err f) good bad = bad f

-- a group before others
abbrev pub with_group : List Entry → Journal → Journal
with_group es journal = (es ∷ journal.0, journal.1)

-- the groups that the reader reads one after the other, and the end
unfoldable pub groups_at : ℕ → ReaderState → Journal
groups_at zero r = ([], end_at r fault.Damaged)
groups_at (suc fuel) r =
    if length r.rest == 0 then ([], Whole)
    else either (read_next r) (λ read. with_group read.0 (groups_at fuel (after_group r read))) (λ f. ([], end_at r f))

-- all groups from the reader's place on, and the end
abbrev pub all_groups : ReaderState → Journal
all_groups r = groups_at (length r.rest + 1) r

-- ---- the laws

-- a reader at the front of these bytes, which a journal has from this place on
abbrev pub reader_at : ℕ → ℕ → List ℕ → ℕ → List ℕ → ReaderState
reader_at session held before from bytes = record { session = session; held = held; digest = before; total = from + length bytes; rest = bytes }

-- the groups that are whole within this many first bytes
unfoldable pub whole_groups : ℕ → List ℕ → List (List Entry) → ℕ → List (List Entry)
whole_groups session before [] len = []
whole_groups session before (es ∷ gs) len =
    let size = length (group_text session before es) in
    if nat_le size len then es ∷ whole_groups session (group_digest session before es) gs (len - size) else []

-- the end of a journal that was cut after this many bytes, if its whole groups have this many
abbrev pub cut_end : ℕ → ℕ → ℕ → JournalEnd
cut_end from whole len = if whole == len then Whole else Torn (from + whole)

-- what was written is read back
abbrev pub OneSpelling : Type 0
OneSpelling =
    (session held : ℕ) (before : List ℕ) (gs : List (List Entry)) (from : ℕ) → AreGroups session held gs
    → all_groups (reader_at session held before from (groups_text session before gs)) ≡ (gs, Whole)

-- of a journal that was cut at any byte, the whole groups are read back, and the end is that place: torn within a group, else
-- whole
abbrev pub CutJournals : Type 0
CutJournals =
    (session held : ℕ) (before : List ℕ) (gs : List (List Entry)) (from len : ℕ) → AreGroups session held gs
    → AreBytes (groups_text session before gs) → len ≤ length (groups_text session before gs)
    → let kept = whole_groups session before gs len in
    all_groups (reader_at session held before from (take len (groups_text session before gs)))
    ≡ (kept, cut_end from (length (groups_text session before kept)) len)
