use Rattle.std.proofs.Common.{rules, ◌≡◌, ℕ, subst}
use Rattle.line_ledger.specs.Cells.{NextSeen}
use Rattle.line_ledger.specs.Publishing.{Sets}
use Rattle.line_ledger.proofs.Publications.{next_kept}
use Rattle.line_ledger.proofs.locked.Locked.publish.Goals as goal

-- what was seen in the cells is of the tape, which is unchanged
pub tokens_of-requires-clause-seen : goal.tokens_of-requires-clause-seen
tokens_of-requires-clause-seen g c =
    let old = c.args.self.now in
    let new = c.set_next.new.self in
    let names = c.args.row.now in
    let seen = c.in_ok-seen.seen.items in
    let entries = c.entries.result.now in
    let did : Sets old names c.args.most seen new = search rules in
    let set : old.set ≡ c.self.inside.set = search rules in
    let same : entries ≡ new.tape.entries = search rules in
    subst (λ (n : ℕ). NextSeen names entries n seen) set (next_kept old new names c.args.most seen entries did same)
