use Rattle.std.proofs.Common.{◌≡◌, ◌++◌, ◌==◌, ◌∷◌, [], map, take}
use Rattle.std.specs.List.{join_with_byte}
use Rattle.message_texts.proofs.header_text.push_participants.Given as goal

-- the names so far are written
abbrev pub invariant-loop-participant : goal.invariant-loop-participant
invariant-loop-participant l = record {
  first : l.first ≡ (l.participant-index == 0);
  text : l.text.items ≡ l.fn.text.items ++ join_with_byte 32 (map (λ p. p ∷ []) (take l.participant-index l.participants));
}
