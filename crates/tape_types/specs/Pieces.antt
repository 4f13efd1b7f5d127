-- The pieces that an iterator has left.
use Rattle.std.specs.Prelude.{ℕ, List, [], Option, Some, None}
use Rattle.tape_types.specs.Header.{pieces_of}
use Rattle.tape_types.specs.declared.pieces.Pieces.{Pieces}
use denote.Ref.{Bor}

-- the pieces of the rest of a text, if there is a rest
abbrev pub pieces_of_rest : ℕ → Option (Bor (List ℕ)) → List (List ℕ)
pieces_of_rest separator None = []
pieces_of_rest separator (Some rest) = pieces_of separator rest.now

-- the pieces that are left
abbrev pub pieces_left : Pieces → List (List ℕ)
pieces_left p = pieces_of_rest p.separator p.rest
