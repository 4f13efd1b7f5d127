use Rattle.std.proofs.Common.{◌∷◌, [], sym, rules}
use Rattle.message_texts.proofs.NameLemmas.{names_written}
use Rattle.message_texts.proofs.header_text.push_participants.Goals as goal

pub loop-participant-preserved : goal.loop-participant-preserved
loop-participant-preserved c = record {
  first = search rules;
  text = names_written (λ p. p ∷ []) c.args.participants.now c.loop-participant.participant-index c.participant-item.result _ _ _ _ c.loop-participant-test.true (sym c.participant-item.is)
      c.loop-participant.invariant.first c.loop-participant.invariant.text (rw c.value.ensures.value at c.in_ok-push_name.ensures);
}
