-- What becomes of a packet's entries, and the counts of these outcomes.
use Rattle.std.specs.Prelude.{ℕ, ◌+◌, ◌-◌, Bool, true, false, nat_lt, if◌then◌else◌, List, Option, None, Some, slice_get, count_by}
use Rattle.tape_core.specs.declared.entry.Entry.{Entry}
use Rattle.arbitration.specs.declared.line.Line.{Line}
use Rattle.arbitration.specs.declared.line.Line.TheVariants.{A, B, R}
use Rattle.arbitration.specs.declared.line.Brought.{Brought}
use Rattle.arbitration.specs.declared.taken.Taken.{Taken}
use Rattle.arbitration.specs.declared.taken.Placing.{Placing}
use Rattle.arbitration.specs.declared.taken.Placing.TheVariants.{Fresh, Repeated, Beyond}

-- what becomes of an entry with this slot: there is none, it is empty, or it is full
abbrev pub placing_in : Option (Option Entry) → Placing
placing_in None = Beyond
placing_in (Some None) = Fresh
placing_in (Some (Some e)) = Repeated

-- what becomes of an entry, if the first slot is for the number next and all numbers below it were taken out
abbrev pub placing_of : ℕ → List (Option Entry) → Entry → Placing
placing_of next slots e = if nat_lt e.number next then Repeated else placing_in (slice_get slots (e.number - next))

-- it is put into its slot
abbrev pub is_fresh : Placing → Bool
is_fresh Fresh = true
is_fresh Repeated = false
is_fresh Beyond = false

-- it is already known
abbrev pub is_repeated : Placing → Bool
is_repeated Fresh = false
is_repeated Repeated = true
is_repeated Beyond = false

-- it is too far ahead
abbrev pub is_too_far : Placing → Bool
is_too_far Fresh = false
is_too_far Repeated = false
is_too_far Beyond = true

-- how many slots one entry fills
abbrev pub fresh_count : Placing → ℕ
fresh_count Fresh = 1
fresh_count Repeated = 0
fresh_count Beyond = 0

-- how many entries of a packet are fresh, repeated and beyond
abbrev pub taken_of : ℕ → List (Option Entry) → List Entry → Taken
taken_of next slots es = record {
  fresh = count_by (λ e. is_fresh (placing_of next slots e)) es;
  repeated = count_by (λ e. is_repeated (placing_of next slots e)) es;
  beyond = count_by (λ e. is_too_far (placing_of next slots e)) es;
}

-- the counts with one more entry
abbrev pub taken_with : Taken → Placing → Taken
taken_with t Fresh = record { fresh = t.fresh + 1; repeated = t.repeated; beyond = t.beyond }
taken_with t Repeated = record { fresh = t.fresh; repeated = t.repeated + 1; beyond = t.beyond }
taken_with t Beyond = record { fresh = t.fresh; repeated = t.repeated; beyond = t.beyond + 1 }

-- how many entries a line brought
abbrev pub brought_by : Brought → Line → ℕ
brought_by c A = c.a
brought_by c B = c.b
brought_by c R = c.r

-- the counts after a line brought this many more
abbrev pub brought_with : Brought → Line → ℕ → Brought
brought_with c A n = record { a = c.a + n; b = c.b; r = c.r }
brought_with c B n = record { a = c.a; b = c.b + n; r = c.r }
brought_with c R n = record { a = c.a; b = c.b; r = c.r + n }
