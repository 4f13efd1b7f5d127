use Rattle.std.proofs.Common.{◌≡◌, ◌∙◌, Some, ap, sym, rules}
use Rattle.std.specs.Prelude.{unwrap_or}
use Rattle.std.proofs.lemmas.Option.{slice_get-get_or}
use Rattle.tape_core.specs.declared.refusal.Refusal.TheVariants.{OutOfMemory}
use Rattle.tape_core.specs.Tape.{TapeState, next_entry, replay_refusal, with_message}
use Rattle.day_journal.proofs.Replays.{replayed}
use Rattle.day_journal.proofs.replaying.replay_entries.Goals as goal

pub loop-entry-preserved : goal.loop-entry-preserved
loop-entry-preserved g c =
    let same : c.in-Ok.own ≡ c.entry-item.result = search rules in
    replayed c.args.tape.now c.loop-entry.tape c.replay.new.self c.args.entries.now c.loop-entry.entry-index c.in-Ok.own c.entry-item.result
    c.loop-entry-test.true (sym c.entry-item.is) c.loop-entry.invariant c.in-Ok.ensures.replays.1 c.in-Ok.ensures.replays.2 same

pub returns-then-not-is_same-clause-stops : goal.returns-then-not-is_same-clause-stops
returns-then-not-is_same-clause-stops g c =
    let e = c.entry-item.result in
    let i = c.loop-entry.entry-index in
    let differs : c.in-Ok.own ≡ e → ⊥ = search rules in (
      i,
      e,
      record { found = slice_get-get_or c.args.entries.now i e c.loop-entry-test.true ∙ ap Some (sym c.entry-item.is); numbered = search rules },
      λ same. differs (c.in-Ok.ensures.replays.1 ∙ ap (λ (t : TapeState). next_entry t.matrix t.entries e.message) c.loop-entry.invariant ∙ same),
      c.in-Ok.ensures.replays.2 ∙ ap (λ (t : TapeState). with_message t e.message) c.loop-entry.invariant,
    )

pub returns-in-Err-clause-stops : goal.returns-in-Err-clause-stops
returns-in-Err-clause-stops g c =
    let e = c.entry-item.result in
    let i = c.loop-entry.entry-index in (
      i,
      e,
      record { found = slice_get-get_or c.args.entries.now i e c.loop-entry-test.true ∙ ap Some (sym c.entry-item.is); numbered = search rules },
      c.in-Err.ensures.replays.1 ∙ c.loop-entry.invariant,
      c.in-Err.ensures.replays.0 ∙ ap (λ (t : TapeState). unwrap_or (replay_refusal t e.number e.message) OutOfMemory) (sym c.in-Err.ensures.replays.1),
    )
