-- The report of an operated day, and the fault that it ends with.
use Rattle.std.proofs.Common.{◌≢◌, ◌<◌, ◌≤◌, ℕ, List, Option, Some, Result, Ok, Err, IfErr, arith, subst}
use Rattle.feed_ends.specs.Faults.{fault_status}
use Rattle.feed_ends.specs.Reports.{WritesItsReport}
use Rattle.feed_ends.specs.declared.fault.Fault.{Fault}
use Rattle.feed_ends.specs.declared.fault.Fault.TheVariants.{Write}
use Rattle.line_ledger.specs.Days.{Terms}
use Rattle.tape_core.specs.declared.entry.Entry.{Entry}
use Rattle.live_feed.specs.Faults.{NoneBefore}
use Rattle.live_feed.specs.Reports.{ReportsDay}

-- the report of the day's entries is one of its terms
pub its_report : (terms : Terms) (entries : List Entry) (old new : Option (List ℕ)) → ReportsDay terms entries old new
    → WritesItsReport terms.listing terms.matrix terms.limit old new
its_report terms entries old new (t, listing, legal, listed, by_matrix, within, sent, written) = (t, listing, legal, listed, by_matrix, within, written)

-- if the least fault has a status above a write's, no write failed
pub no_write : (fault : Fault) (met : Option Fault) → 4 < fault_status fault → NoneBefore fault met → met ≢ Some Write
no_write fault met above before is = let least : fault_status fault ≤ 4 = subst (NoneBefore fault) is before in absurd (omega (arith, above, least))

-- so what was written is as it was, if that holds without a failed write
pub unwritten : {A : Type 0} (r : Result A Fault) (met : Option Fault) (Same : Type 0) → IfErr r (λ fault. NoneBefore fault met) → (met ≢ Some Write → Same)
    → IfErr r (λ fault. 4 < fault_status fault → Same)
unwritten (Ok x) met Same near same = tt
unwritten (Err fault) met Same near same = λ above. same (no_write fault met above near)
