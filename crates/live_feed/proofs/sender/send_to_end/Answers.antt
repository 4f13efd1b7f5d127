use Rattle.std.proofs.Common.{◌∙◌, arith, inl, inr, refl}
use Rattle.live_feed.proofs.Growing.{ok_err, stands, steps_on}
use Rattle.live_feed.proofs.sender.send_to_end.Goals as goal

pub loop-init : goal.loop-init
loop-init g c = record {
  names = refl;
  sent = omega (arith, c.published-number.ensures.count);
  behind = omega (arith, c.published-number.ensures.count);
  kept = c.requires.sent;
  grows = stands _ _ c.requires.sent;
  failed = λ failed. failed;
}

-- a packet was sent
pub loop-preserved-then-last-number : goal.loop-preserved-then-last-number
loop-preserved-then-last-number g c = record {
  names = c.in-Ok.ensures.cells ∙ c.loop.invariant.names;
  sent = c.in-Ok.ensures.last.1;
  behind = omega (arith, c.loop.invariant.behind, c.in-Ok.ensures.last.0);
  kept = c.in-Ok.ensures.journal.0;
  grows = steps_on _ _ _ _ _ _ c.loop.invariant.grows c.loop.invariant.kept c.in-Ok.ensures.journal.1;
  failed = λ failed.
      elim (c.send_next.ensures.failed failed) [
        | inl before ↦ c.loop.invariant.failed before
        | inr is ↦ absurd (ok_err c.in-Ok.is is)
      ];
}

-- nothing was sent
pub loop-preserved : goal.loop-preserved
loop-preserved g c = record {
  names = c.in-Ok.ensures.cells ∙ c.loop.invariant.names;
  sent = omega (arith, c.in-Ok.ensures.last.0, c.in-Ok.ensures.last.1);
  behind = c.loop.invariant.behind;
  kept = c.in-Ok.ensures.journal.0;
  grows = steps_on _ _ _ _ _ _ c.loop.invariant.grows c.loop.invariant.kept c.in-Ok.ensures.journal.1;
  failed = λ failed.
      elim (c.send_next.ensures.failed failed) [
        | inl before ↦ c.loop.invariant.failed before
        | inr is ↦ absurd (ok_err c.in-Ok.is is)
      ];
}

-- the journal failed in this step or before, which is not so
pub returns-in-Err-clause-failed : goal.returns-in-Err-clause-failed
returns-in-Err-clause-failed g c = λ failed.
    elim (c.send_next.ensures.failed failed) [
      | inl before ↦ inl (c.loop.invariant.failed before)
      | inr is ↦ inr cc
    ]

pub returns-then-is_last-clause-journal : goal.returns-then-is_last-clause-journal
returns-then-is_last-clause-journal g c = λ _. steps_on _ _ _ _ _ _ c.loop.invariant.grows c.loop.invariant.kept c.in-Ok.ensures.journal.1

pub returns-then-is_last-clause-failed : goal.returns-then-is_last-clause-failed
returns-then-is_last-clause-failed g c = λ failed.
    elim (c.send_next.ensures.failed failed) [
      | inl before ↦ inl (c.loop.invariant.failed before)
      | inr is ↦ absurd (ok_err c.in-Ok.is is)
    ]

pub returns-in-Err-keep_quiet-clause-failed : goal.returns-in-Err-keep_quiet-clause-failed
returns-in-Err-keep_quiet-clause-failed g c = λ failed.
    elim (c.send_next.ensures.failed failed) [
      | inl before ↦ inl (c.loop.invariant.failed before)
      | inr is ↦ absurd (ok_err c.in-Ok.is is)
    ]
