use Rattle.std.proofs.Common.{rules, ◌≡◌, ◌∙◌, length, subst, sym}
use Rattle.line_ledger.specs.Cells.{HaveAll}
use Rattle.live_feed.proofs.Sendings.{shown_all}
use Rattle.live_feed.proofs.reporting.is_as_sent.Goals as goal

-- what was seen in as many cells as the tape has entries shows these
pub returns-then-entries-number-clause-entries : goal.returns-then-entries-number-clause-entries
returns-then-entries-number-clause-entries g c = λ is.
    let entries = c.args.tape.now.entries in
    let tokens = c.args.tokens.now.items in
    let found : HaveAll c.entries-then-entries-number.result.now tokens = c.have_all_seen.ensures.0 is in
    let has : HaveAll entries tokens = subst (λ es. HaveAll es tokens) c.entries-then-entries-number.ensures.entries found in
    let seen : length tokens ≡ c.args.number = search rules in
    let there : length entries ≡ c.args.number = search rules in
    sym (shown_all c.args.shared.now tokens entries c.requires has (seen ∙ sym there))
