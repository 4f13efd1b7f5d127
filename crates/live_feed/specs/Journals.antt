-- A day's journal beside what is published of the day.
use Rattle.std.specs.Prelude.{◌≡◌, ◌≤◌, ◌+◌, ◌++◌, ℕ, Bool, true, List, [], ◌∷◌, length, Option, Some, None, All}
use Rattle.std.specs.List.{flat_map}
use Rattle.std.specs.Io.KnownBytes.{Appends, Keeps}
use Rattle.day_journal.specs.Journals.{AreGroups, groups_text}
use Rattle.day_journal.specs.Writers.{WriterState, with_group}
use Rattle.tape_core.specs.declared.entry.Entry.{Entry}
use Rattle.tape_frames.specs.PacketEntries.{Carries, HasNoLaterPlaces, IsNumberedFrom}
use Rattle.tape_types.specs.Ranges.{TAPE_MOST}

-- a journal: the writer of its groups, the bytes that its file has and those that are kept, if they are known, the entries that
-- it has and that are to be published next, and whether a write of it or keeping it failed
pub record JournalState : Type 0 where
  pub writer : WriterState
  pub contents : Option (List ℕ)
  pub kept : Option (List ℕ)
  pub queue : List Entry
  pub failed : Bool

-- the writer once these groups are written, one after the other
unfoldable pub with_groups : WriterState → List (List Entry) → WriterState
with_groups w [] = w
with_groups w (es ∷ groups) = with_groups (with_group w es) groups

-- the entries of groups, one after the other
abbrev pub entries_of : List (List Entry) → List Entry
entries_of groups = flat_map (λ es. es) groups

-- entries that can follow so many of a tape
pub record CanFollow (held : ℕ) (es : List Entry) : Type 0 where
  pub within : held + length es ≤ TAPE_MOST
  pub numbered : IsNumberedFrom (held + 1) es
  pub carries : All Carries es
  pub places : All HasNoLaterPlaces es

-- all that the file has is kept, and the journal has as many entries as are published and are to be published next
pub record IsKept (j : JournalState) (published : List Entry) : Type 0 where
  pub whole : j.kept ≡ j.contents
  pub counted : j.writer.held ≡ length published + length j.queue

-- all that the file of a journal has is kept, if there is one
abbrev pub HasAllKept : Option JournalState → Type 0
HasAllKept None = Unit {0}
HasAllKept (Some j) = j.kept ≡ j.contents

-- a journal is kept so, if there is one
abbrev pub AllKept : Option JournalState → List Entry → Type 0
AllKept None published = Unit {0}
AllKept (Some j) published = IsKept j published

-- the journal grew by these groups: they stand in what is kept, right behind what the file had, and what is published now is,
-- with what is to be published next, what it was before, and the groups' entries
pub record GrowsBy (groups : List (List Entry)) (old : JournalState) (before : List Entry) (new : JournalState) (after : List Entry) : Type 0 where
  pub are : AreGroups old.writer.session old.writer.held groups
  pub writer : new.writer ≡ with_groups old.writer groups
  pub text : Appends old.contents new.kept (groups_text old.writer.session old.writer.digest groups)
  pub entries : after ++ new.queue ≡ (before ++ old.queue) ++ entries_of groups

-- the journal grew by one group at most
abbrev pub GrowsAtMostOnce : JournalState → List Entry → JournalState → List Entry → Type 0
GrowsAtMostOnce old before new after = (groups : List (List Entry)) × (length groups ≤ 1) × GrowsBy groups old before new after

-- the same of a day that may have no journal
abbrev pub Steps : Option JournalState → List Entry → Option JournalState → List Entry → Type 0
Steps None before None after = Unit {0}
Steps None before (Some new) after = ⊥
Steps (Some old) before None after = ⊥
Steps (Some old) before (Some new) after = GrowsAtMostOnce old before new after

-- a journal grew by some groups, if there is one
abbrev pub Grows : Option JournalState → List Entry → Option JournalState → List Entry → Type 0
Grows None before None after = Unit {0}
Grows None before (Some new) after = ⊥
Grows (Some old) before None after = ⊥
Grows (Some old) before (Some new) after = (groups : List (List Entry)) × GrowsBy groups old before new after

-- a day begins where its journal ends, which stays as it is: nothing waits, and it has as many entries as are published;
-- without one nothing is
abbrev pub Begins : Option JournalState → Option JournalState → List Entry → Type 0
Begins None None before = before ≡ []
Begins None (Some new) before = ⊥
Begins (Some old) None before = ⊥
Begins (Some old) (Some new) before =
    (new.writer ≡ old.writer) × (new.queue ≡ []) × Keeps old.contents new.contents × (old.writer.held ≡ length before)

-- what is published of a whole day, beside its journal, if there is one: first entries as many as it had, and after them those
-- of groups which stand in what is kept, right behind what its file had
abbrev pub Runs : Option JournalState → Option JournalState → List Entry → Type 0
Runs None None after = Unit {0}
Runs None (Some new) after = ⊥
Runs (Some old) None after = ⊥
Runs (Some old) (Some new) after =
    (before : List Entry) × (groups : List (List Entry)) × (length before ≡ old.writer.held) × AreGroups old.writer.session old.writer.held groups
    × Appends old.contents new.kept (groups_text old.writer.session old.writer.digest groups) × (after ++ new.queue ≡ before ++ entries_of groups)

-- a write of the journal or keeping it failed, if there is one
abbrev pub HasFailed : Option JournalState → Type 0
HasFailed None = ⊥
HasFailed (Some j) = j.failed ≡ true
