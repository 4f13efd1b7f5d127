use Rattle.std.proofs.Common.{rules, ◌≡◌, ◌≤◌, length, arith}
use Rattle.line_ledger.proofs.Pushes.{seen_within}
use Rattle.line_ledger.proofs.shared.SharedTape.publish.Goals as goal

-- each cell that was set is one of the row
pub returns-clause-cells : goal.returns-clause-cells
returns-clause-cells g c =
    let seen = c.in_ok-seen.seen.items in
    let many : c.len.result ≡ length seen = search rules in
    let within : length seen ≤ length c.self.inside.row = seen_within _ _ _ seen c.in_ok-seen.ensures.ok.next in
    let cells : length c.self.inside.row ≡ length c.args.self.now = search rules in
    omega (arith, many, within, cells)
