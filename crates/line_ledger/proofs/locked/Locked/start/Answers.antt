use Rattle.std.proofs.Common.{rules, ◌≡◌, None, map, subst}
use Rattle.tape_types.specs.Names.{names_fault}
use Rattle.line_ledger.specs.Days.{Terms}
use Rattle.line_ledger.specs.Ends.{IsOneEach}
use Rattle.line_ledger.specs.Seats.{untold}
use Rattle.line_ledger.specs.Lemmas.OneEach.{opened_each}
use Rattle.line_ledger.proofs.locked.Locked.start.Goals as goal

-- the participants of a listing are distinct
pub returns-clause-each : goal.returns-clause-each
returns-clause-each g c =
    let names = c.args.prepared.tape.listing in
    let seats = c.untold_seats-seats.result.items in
    let distinct : names_fault names.symbols names.participants ≡ None = search rules in
    let told : seats ≡ map untold names.participants = search rules in
    subst (λ (terms : Terms). IsOneEach terms.listing.participants seats) c.requires.terms (opened_each names.symbols names.participants seats distinct told)
