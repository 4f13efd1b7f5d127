-- The targets of the day as a finite map, the result of looking up a target, and each change of one.
use Rattle.std.specs.Prelude.{◌≡◌, ℕ, cond, not, List, Option, Some, None, Result, Ok, Err, IsSomeAnd}
use Rattle.std.specs.FinMap as map
use Rattle.tape_types.specs.Names.{symbol_eq}
use Rattle.tape_types.specs.Pairs.{pair_cmp}
use Rattle.sale_matrix.specs.declared.content.Content.{Content}
use Rattle.corrections.specs.declared.target.Located.{Located}
use Rattle.corrections.specs.declared.target.Target.{Target}
use Rattle.corrections.specs.declared.target.Standing.{Standing}
use Rattle.corrections.specs.declared.target.Standing.TheVariants.{Standing as Stands, Cancelled as IsGone}
use Rattle.corrections.specs.declared.target_fault.TargetFault.{TargetFault}
use Rattle.corrections.specs.declared.target_fault.TargetFault.TheVariants.{NoSuchReport, OtherSymbol, Cancelled, Standing as StandsAlready}

-- each report by its participant and then by its message number
abbrev pub Targets : Type 0
Targets = map.FinMap pair_cmp Target

-- a report that stands
abbrev pub standing_target : List ℕ → ℕ → Content → Target
standing_target symbol place content = record { symbol = symbol; place = place; standing = Stands; content = content }

-- a key names a report that stands
abbrev pub IsStanding : Option Target → Type 0
IsStanding target = IsSomeAnd target (λ t. t.standing ≡ Stands)

-- a key names a report that is cancelled
abbrev pub IsCancelled : Option Target → Type 0
IsCancelled target = IsSomeAnd target (λ t. t.standing ≡ IsGone)

-- ## The result of looking up a target

-- a report as it is found: whether it stands, and its place and content
abbrev pub Found : Type 0
Found = Standing × (ℕ × Content)

-- the report that the key of a target under a symbol names, if there is one and it is of the symbol
abbrev pub named_answer : List ℕ → Option Target → Result Found TargetFault
named_answer symbol None = Err NoSuchReport
named_answer symbol (Some t) = cond (not (symbol_eq symbol t.symbol)) (Err OtherSymbol) (Ok (t.standing, (t.place, t.content)))

-- the report if it stands, else the fault
abbrev pub if_standing : Result Found TargetFault → Result (ℕ × Content) TargetFault
if_standing (Ok (Stands, report)) = Ok report
if_standing (Ok (IsGone, report)) = Err Cancelled
if_standing (Err fault) = Err fault

-- the report if it is cancelled, else the fault
abbrev pub if_cancelled : Result Found TargetFault → Result (ℕ × Content) TargetFault
if_cancelled (Ok (Stands, report)) = Err StandsAlready
if_cancelled (Ok (IsGone, report)) = Ok report
if_cancelled (Err fault) = Err fault

-- the result for a cancel or a correction if the key of its target names this report, or none: its place and content
abbrev pub target_answer : List ℕ → Option Target → Result (ℕ × Content) TargetFault
target_answer symbol target = if_standing (named_answer symbol target)

-- the result for a reinstatement: the report's place and content
abbrev pub cancelled_answer : List ℕ → Option Target → Result (ℕ × Content) TargetFault
cancelled_answer symbol target = if_cancelled (named_answer symbol target)

-- a result with its place alone
abbrev pub answered_place : {E : Type 0} → Result (ℕ × Content) E → Result ℕ E
answered_place (Ok report) = Ok report.0
answered_place (Err fault) = Err fault

-- a located report with its place and content alone
abbrev pub located_report : {E : Type 0} → Result Located E → Result (ℕ × Content) E
located_report (Ok located) = Ok (located.place, located.content)
located_report (Err fault) = Err fault

-- a located report without its index, and whether it stands
abbrev pub located_found : Result (Located × Standing) TargetFault → Result Found TargetFault
located_found (Ok (located, standing)) = Ok (standing, (located.place, located.content))
located_found (Err fault) = Err fault

-- ## The changes of a report

-- the same report, cancelled
abbrev pub cancelled_target : Target → Target
cancelled_target t = record t { standing = IsGone }

-- the same report with this content
abbrev pub corrected_target : Content → Target → Target
corrected_target content t = record t { content = content }

-- the same report, standing
abbrev pub reinstated_target : Target → Target
reinstated_target t = record t { standing = Stands }

-- the targets with the report that the key names, if any, changed
abbrev pub with_changed : (Target → Target) → Targets → ℕ × ℕ → Option Target → Targets
with_changed change targets key None = targets
with_changed change targets key (Some t) = map.insert targets key (change t)

-- the targets after a change of the report that the key names
abbrev pub targets_changed : (Target → Target) → Targets → ℕ × ℕ → Targets
targets_changed change targets key = with_changed change targets key (map.get targets key)
