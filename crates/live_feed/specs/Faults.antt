-- The faults that a day's lines, sender and retransmission meet.
use Rattle.std.specs.Prelude.{◌≡◌, ◌≤◌, ◌↔◌, Bool, false, List, Option, Some, None, IfSome, Result, MatchResult, All, Contains}
use Rattle.participant_lines.specs.declared.line_end.LineOutcome.{LineOutcome}
use Rattle.participant_lines.specs.declared.line_end.LineOutcome.TheVariants as ended
use Rattle.participant_lines.specs.declared.unstarted.Lack.{Lack}
use Rattle.participant_lines.specs.declared.unstarted.Lack.TheVariants as lack
use Rattle.feed_ends.specs.Faults.{fault_status}
use Rattle.feed_ends.specs.declared.fault.Fault.{Fault}
use Rattle.feed_ends.specs.declared.fault.Fault.TheVariants.{Memory, Worker, Disagrees}

-- what was met beside it, if anything, has no lesser status
abbrev pub NoneBefore : Fault → Option Fault → Type 0
NoneBefore fault met = IfSome met (λ other. fault_status fault ≤ fault_status other)

-- there is no whole report, and a fault that was met, of this one's status or a lesser one
abbrev pub EndsEarly : Fault → Bool → Option Fault → Type 0
EndsEarly fault is_whole met = (is_whole ≡ false) × ((other : Fault) × (met ≡ Some other) × (fault_status other ≤ fault_status fault))

-- there is no whole report, and an error of the status of a failed write or a lesser one
abbrev pub FailsEarly : Bool → Result Unit Fault → Type 0
FailsEarly is_whole result = (is_whole ≡ false) × MatchResult result (λ _. ⊥) (λ fault. fault_status fault ≤ 4)

-- the fault that is returned of all that were met: none exactly if none was, else one of them, of the least status
pub record IsLeast (met : List (Option Fault)) (answer : Option Fault) : Type 0 where
  pub none : (answer ≡ None) ↔ All (λ fault. fault ≡ None) met
  pub one : IfSome answer (λ fault. Contains met (Some fault))
  pub least : IfSome answer (λ fault. All (NoneBefore fault) met)

-- the day's fault for the end of a line: a peer that misbehaves ends its own line alone
abbrev pub line_fault : LineOutcome → Option Fault
line_fault ended.Clean = None
line_fault ended.Truncated = None
line_fault ended.Oversize = None
line_fault ended.ReadFault = None
line_fault ended.TooMany = None
line_fault ended.OutOfMemory = Some Memory
line_fault ended.Behind = Some Disagrees

-- the day's fault if memory or a worker is lacking
abbrev pub lack_fault : Lack → Fault
lack_fault lack.Memory = Memory
lack_fault lack.Worker = Worker
