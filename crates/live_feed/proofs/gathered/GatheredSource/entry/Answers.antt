use Rattle.std.proofs.Common.{◌-◌, ◌<◌, ◌≤◌, ◌∙◌, ap, arith, length, sym}
use Rattle.std.specs.Prelude.{slice_get}
use Rattle.line_ledger.specs.Cells.{shown}
use Rattle.tape_frames.specs.Sources.{entry_of}
use Rattle.live_feed.proofs.Following.{entry_behind, entry_front}
use Rattle.live_feed.proofs.gathered.GatheredSource.entry.Goals as goal

-- an entry that is published
pub returns-then-number-before : goal.returns-then-number-before
returns-then-number-before g c =
    let es = shown c.self.inside.published.now.tokens in
    let within : c.args.number ≤ length es = omega (arith, c.if-number-before.true, c.published-before.ensures.count) in
    record {
      entry = c.entry.ensures.entry ∙ sym (entry_front es c.self.inside.next.now c.args.number within)
          ∙ ap (λ list. entry_of list c.args.number) c.self.view_is;
    }

-- one that follows
pub returns : goal.returns
returns g c =
    let es = shown c.self.inside.published.now.tokens in
    let next = c.self.inside.next.now in
    let behind : length es < c.args.number = omega (arith, c.if-number-before.false, c.published-before.ensures.count) in
    record {
      entry = c.entry_at.ensures ∙ ap (λ many. slice_get next (c.args.number - many - 1)) c.published-before.ensures.count
          ∙ sym (entry_behind es next c.args.number behind) ∙ ap (λ list. entry_of list c.args.number) c.self.view_is;
    }
