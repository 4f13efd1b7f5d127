use Rattle.std.proofs.Common.{subst, sym}
use Rattle.line_ledger.specs.Cells.{FirstTokens}
use Rattle.test_lines.proofs.tests.served.confirmed_and_answered.Goals as goal

pub confirmed-confirmed-requires : goal.confirmed-confirmed-requires
confirmed-confirmed-requires g c = subst (λ names. FirstTokens names c.args.tokens.now.items) (sym c.in_ok-day.ensures) c.requires
