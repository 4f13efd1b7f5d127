use Rattle.std.proofs.Common.{◌≡◌, ◌+◌, ◌++◌, [], append-nil, length, refl, sym, inl, inr, arith}
use Rattle.std.proofs.lemmas.Bool.{both_ways, cases_lt, lt-ltb, ltb-true}
use Rattle.arbitration.specs.Windows.{ready_entries}
use Rattle.subscriber.specs.Schedules.{announced_by}
use Rattle.tape_frames.specs.Lemmas.Cuts.{cut_is_part}
use Rattle.subscriber.proofs.Sound.{sound, next_own, after_drain}
use Rattle.subscriber.proofs.Schedule.{announced_told, accepts, never_refused, bytes_come}
use Rattle.subscriber.proofs.Schedule.{empties, honest_stop, prefix_summary, prefix_own_summary}
use Rattle.subscriber.specs.Lemmas.Failures.{runs, fails, other_summary}
use Rattle.subscriber.proofs.Events.{admits, drain_event, stop_event}
use Rattle.subscriber.proofs.Gaps.{gap_next, gap_filled}
use Rattle.subscriber.specs.Lemmas.Legal.{legal, fails_by_other}
use Rattle.subscriber.proofs.laws.schedule.Goals as goal

pub returns-clause-tape : goal.returns-clause-tape
returns-clause-tape c events w h = (sound events w h).legal

pub returns-clause-prefix : goal.returns-clause-prefix
returns-clause-prefix c events w h = let s = sound events w h in (s.due ++ s.later, s.tape)

pub returns-clause-summaries : goal.returns-clause-summaries
returns-clause-summaries c events w h symbol = prefix_summary w symbol (sound events w h)

pub returns-clause-own_summaries : goal.returns-clause-own_summaries
returns-clause-own_summaries c events w h symbol who = prefix_own_summary w symbol who (sound events w h)

pub returns-clause-announced : goal.returns-clause-announced
returns-clause-announced c = announced_told

pub returns-clause-gap : goal.returns-clause-gap
returns-clause-gap c events w h =
    let announced = announced_told events w h in
    (λ gap. let below = ltb-true _ _ gap in omega arith, λ below. lt-ltb _ _ (omega arith))

pub returns-clause-no_more : goal.returns-clause-no_more
returns-clause-no_more c events w h =
    let announced = announced_told events w h in
    let reached = (sound events w h).announced in
    omega arith

pub returns-clause-accepted : goal.returns-clause-accepted
returns-clause-accepted c events w h packet cut = accepts w packet (sound events w h) cut

pub returns-clause-never_refused : goal.returns-clause-never_refused
returns-clause-never_refused c events w h packet cut bytes spelled fault = never_refused w packet bytes fault (sound events w h) cut spelled

pub returns-clause-running : goal.returns-clause-running
returns-clause-running c events w h = (sound events w h).running

pub returns-clause-own : goal.returns-clause-own
returns-clause-own c events w h = next_own w (sound events w h)

pub returns-clause-stops : goal.returns-clause-stops
returns-clause-stops c events w h fault after stops = honest_stop w fault after (sound events w h) stops

pub returns-clause-drains : goal.returns-clause-drains
returns-clause-drains c events w h = empties (length (ready_entries w.subscriber.window.slots)) w (sound events w h) refl

pub returns-clause-runs : goal.returns-clause-runs
returns-clause-runs c = runs

pub returns-clause-fails : goal.returns-clause-fails
returns-clause-fails c = fails

pub returns-clause-nothing_ready : goal.returns-clause-nothing_ready
returns-clause-nothing_ready c n s after all = all.nothing_ready

pub returns-clause-gap_next : goal.returns-clause-gap_next
returns-clause-gap_next c events w h n after all from count gap =
    gap_next (record w { subscriber = after }) from count (after_drain w n after (sound events w h) all) all.nothing_ready gap

pub returns-clause-gap_filled : goal.returns-clause-gap_filled
returns-clause-gap_filled c events w h n after all from count gap more ok stays brought later last again =
    gap_filled (record w { subscriber = after }) from count more later last (after_drain w n after (sound events w h) all) all.nothing_ready gap ok
    stays brought again

pub returns-clause-legal : goal.returns-clause-legal
returns-clause-legal c = legal

pub returns-clause-other : goal.returns-clause-other
returns-clause-other c = fails_by_other

pub returns-clause-cut : goal.returns-clause-cut
returns-clause-cut c w version from = (refl, cut_is_part version w.tape.entries w.tape.entries from ([], sym (append-nil w.tape.entries)))

pub returns-clause-comes : goal.returns-clause-comes
returns-clause-comes c = bytes_come

pub returns-clause-no_gap : goal.returns-clause-no_gap
returns-clause-no_gap c events w h closed =
    let s = sound events w h in
    let held = w.subscriber.tape.entries in
    let announced : w.subscriber.window.announced ≡ announced_by 0 events = announced_told events w h in
    let reached : w.subscriber.window.announced ≡ length held + length s.due = s.announced in
    elim (cases_lt (length held) w.subscriber.window.announced) [
      | inl below ↦ absurd (both_ways _ closed (lt-ltb _ _ below))
      | inr above ↦ omega arith
    ]

pub returns-clause-other_summary : goal.returns-clause-other_summary
returns-clause-other_summary c = other_summary

pub returns-clause-admits : goal.returns-clause-admits
returns-clause-admits c = admits

pub returns-clause-drained : goal.returns-clause-drained
returns-clause-drained c = drain_event

pub returns-clause-stopped : goal.returns-clause-stopped
returns-clause-stopped c = stop_event
