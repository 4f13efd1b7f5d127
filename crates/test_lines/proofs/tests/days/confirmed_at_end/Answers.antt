use Rattle.std.proofs.Common.{subst, sym}
use Rattle.line_ledger.specs.Cells.{FirstTokens}
use Rattle.test_lines.proofs.tests.days.confirmed_at_end.Goals as goal

pub confirmed-requires : goal.confirmed-requires
confirmed-requires g c = subst (λ names. FirstTokens names c.args.tokens.now.items) (sym c.in_ok-day.ensures) c.requires
