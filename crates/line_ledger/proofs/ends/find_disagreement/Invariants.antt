use Rattle.std.proofs.Common.{◌≡◌}
use Rattle.line_ledger.specs.Ends.{FirstTold}
use Rattle.line_ledger.proofs.ends.find_disagreement.Given as goal

-- the seats of the participants so far were told their entries
abbrev pub invariant-loop-who : goal.invariant-loop-who
invariant-loop-who g l = FirstTold l.who-index l.tape.listing.participants l.tape.entries l.seats × (l.participants ≡ l.tape.listing.participants)
