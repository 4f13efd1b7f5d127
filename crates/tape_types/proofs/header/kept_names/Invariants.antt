use Rattle.std.proofs.Common.{◌≡◌, ◌≤◌, length, take}
use Rattle.std.specs.Option.{option_map}
use Rattle.tape_types.specs.Header.{all_named, name_texts}
use Rattle.tape_types.specs.Pieces.{pieces_left}
use Rattle.tape_types.proofs.KeptNames.{kept_with}
use Rattle.tape_types.proofs.header.kept_names.Given as goal

abbrev pub invariant-loop-piece : goal.invariant-loop-piece
invariant-loop-piece g l = record {
  can : (goal.iterator-loop-piece g).can_next l.piece-iterator;
  finite : (goal.iterator-loop-piece g).is_finite l.piece-iterator;
  few : length l.names.items ≤ 4097;
  -- the names so far, and those of the pieces that are left, are the text's
  kept : kept_with g.N.Named.named l.names.items (pieces_left l.piece-iterator)
      ≡ option_map (take 4097) (all_named g.N.Named.named (name_texts l.fn.separator l.fn.text));
}
