use Rattle.std.proofs.Common.{Some, arith, refl, rules, slice_set}
use Rattle.participant_lines.proofs.Tallies.{AreCounted-more}
use Rattle.participant_lines.proofs.tally.Tally.add.Goals as goal

pub returns : goal.returns
returns c = record {
  counts = λ marks fits had.
      AreCounted-more c.args.self.now
      (record { reasons = slice_set c.args.self.now.reasons c.place-place.result (Some c.one_more-more.result); refused = c.saturating_add-self.result })
      c.args.mark c.place-place.result c.one_more-more.result marks
      (search rules) c.place-place.ensures.place refl c.one_more-more.ensures (λ small. omega (arith, small, c.saturating_add-self.ensures)) fits had;
}
