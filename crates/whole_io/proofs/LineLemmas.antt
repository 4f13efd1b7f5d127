-- Lines that are gathered.
use Rattle.std.proofs.Common.{◌≢◌, ◌++◌, ◌∷◌, ◌∙◌, [], ℕ, List, ap, refl, sym, append-nil}
use Rattle.std.proofs.lemmas.List.Elements.{All-nil, All-push}
use Rattle.std.proofs.lemmas.List.Folds.{concat-append}
use Rattle.std.specs.List.{concat}
use Rattle.whole_io.specs.Lines.{AreLines, HasNoLineFeed, IsLine}

-- no line
pub AreLines-none : AreLines []
AreLines-none = ([], All-nil IsLine, refl)

-- one line more
pub AreLines-push : (text line : List ℕ) → AreLines text → IsLine line → AreLines (text ++ line)
AreLines-push text line are is = (
  are.0 ++ line ∷ [],
  All-push IsLine are.0 line are.1 is,
  ap (λ (t : List ℕ). t ++ line) are.2 ∙ sym (concat-append are.0 (line ∷ []) ∙ ap (λ (l : List ℕ). concat are.0 ++ l) (append-nil line)),
)

-- words that a byte follows
pub HasNoLineFeed-push : (words : List ℕ) (byte : ℕ) → HasNoLineFeed words → byte ≢ 10 → HasNoLineFeed (words ++ byte ∷ [])
HasNoLineFeed-push words byte none is = All-push (λ b. b ≢ 10) words byte none is
