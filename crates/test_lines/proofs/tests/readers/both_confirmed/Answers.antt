use Rattle.std.proofs.Common.{subst, sym}
use Rattle.line_ledger.specs.Cells.{FirstTokens}
use Rattle.test_lines.proofs.tests.readers.both_confirmed.Goals as goal

pub confirmed-requires : goal.confirmed-requires
confirmed-requires g c = subst (λ names. FirstTokens names c.args.one.now.items) (sym c.in_ok-day.ensures) c.requires.one

pub confirmed-requires-2 : goal.confirmed-requires-2
confirmed-requires-2 g c = subst (λ names. FirstTokens names c.args.other.now.items) (sym c.in_ok-day.ensures) c.requires.other
