use Rattle.std.proofs.Common.{◌≡◌, ◌≤◌, ℕ, Result, Ok, Err, IfErr, OnOk, arith, subst}
use Rattle.feed_ends.specs.Reports.{WritesItsReport}
use Rattle.feed_ends.specs.declared.fault.Fault.{Fault}
use Rattle.feed_follower.specs.Sinks.{GivesItsReport}
use Rattle.feed_follower.proofs.Rows.{part_of_nothing}
use Rattle.feed_follower.proofs.follow.follow_over.Goals as goal

-- a run whose status is 0 ended well
ended_well : {A : Type 0} (ended : Result A Fault) (status : ℕ) (P : Type 0) → IfErr ended (λ fault. (3 ≤ status) × (status ≤ 7)) → OnOk ended P → status ≡ 0 → P
ended_well (Ok x) status P range on zero = on
ended_well (Err fault) status P range on zero = let least = range.0 in absurd (omega (arith, least, zero))

pub returns-in_default-clause-part : goal.returns-in_default-clause-part
returns-in_default-clause-part g c = part_of_nothing g.S.EntrySink.text c.args.listing c.args.matrix c.args.limit (g.S.EntrySink.contents c.args.sink)

pub returns-clause-listed : goal.returns-clause-listed
returns-clause-listed g c = λ zero.
    let written : ℕ → Type 0 =
    λ limit. WritesItsReport c.args.listing c.args.matrix limit (g.W.Write.contents c.args.writer.now) (g.W.Write.contents c.follow_ended-ended.new.writer) in
    subst written c.in-Some.ensures.value
    (ended_well c.follow_ended-ended.result.0 c.status_of.result (written c.in-Some.limit) c.status_of.ensures.range c.follow_ended-ended.ensures.listed zero)

pub returns-clause-given : goal.returns-clause-given
returns-clause-given g c = λ zero.
    let given : ℕ → Type 0 =
    λ limit. GivesItsReport g.S.EntrySink.text c.args.listing c.args.matrix limit (g.S.EntrySink.contents c.args.sink)
    (g.S.EntrySink.contents c.follow_ended-ended.result.1) (g.W.Write.contents c.args.writer.now) (g.W.Write.contents c.follow_ended-ended.new.writer) in
    subst given c.in-Some.ensures.value
    (ended_well c.follow_ended-ended.result.0 c.status_of.result (given c.in-Some.limit) c.status_of.ensures.range c.follow_ended-ended.ensures.given zero)
