-- Answers messages in turn, and then one more.
use Rattle.std.proofs.Common.{◌≡◌, ◌++◌, ℕ, List, [], ◌∷◌, refl, subst}
use Rattle.tape_core.specs.Tape.{TapeState}
use Rattle.tapebox_c.specs.Many.{Turn, Turns}

-- turns, and one more after them
pub turns_more : (bytes : List ℕ) (old mid new : TapeState) (at next end number : ℕ) (numbers : List ℕ)
    → Turns bytes old at numbers mid next → Turn bytes mid next number new end → Turns bytes old at (numbers ++ number ∷ []) new end
turns_more bytes old mid new at next end number [] made turn =
    (new, end, subst (λ (t : TapeState). Turn bytes t at number new end) made.0 (subst (λ n. Turn bytes mid n number new end) made.1 turn), (refl, refl))
turns_more bytes old mid new at next end number (first ∷ numbers) made turn =
    (made.0, made.1, made.2, turns_more bytes made.0 mid new made.1 next end number numbers made.3 turn)
