use Rattle.std.proofs.Common.{◌≡◌, ◌++◌, drop}
use Rattle.std.specs.List.{flat_map}
use Rattle.std.specs.Vec.Iter.{into_iter_items}
use Rattle.day_terms.specs.Arguments.{ended_word}
use Rattle.day_terms.proofs.arguments.ended_words.Given as goal

abbrev pub invariant-loop-word : goal.invariant-loop-word
invariant-loop-word l = record {
  -- the text so far and that of the words that are left make the text of all words after the first
  text : l.text.items ++ flat_map ended_word (into_iter_items l.word-iterator) ≡ flat_map ended_word (drop 1 (into_iter_items l.fn.words));
}
