-- Shows what the lines of a text are, by its last line feed.
use Rattle.std.proofs.Common.{◌≡◌, ◌≢◌, ◌≤◌, ◌<◌, ◌+◌, ◌++◌, ◌∙◌, ◌∷◌, [], ℕ, List, All, refl, sym, ap, arith, drop, get_or, inl, inr, length, length-drop, subst, take}
use Rattle.std.proofs.lemmas.List.{get_or-drop, take-append-drop, take_more}
use Rattle.std.proofs.lemmas.List.Elements.{All-from_get_or}
use Rattle.recorded_tapes.specs.Verdicts.{AreLines}

-- no byte is a line feed
abbrev pub NoLineFeed : List ℕ → Type 0
NoLineFeed text = All (λ byte. byte ≢ 10) text

-- a text is split after its last line feed
pub lines-at : (text lines cut : List ℕ) (i : ℕ) → i < length text → get_or text i 0 ≡ 10
    → ((k : ℕ) → i + 1 ≤ k → k < length text → get_or text k 0 ≢ 10) → lines ≡ take (i + 1) text → cut ≡ drop (i + 1) text → AreLines text lines cut
lines-at text lines cut i inside here after lines_is cut_is = record {
  split = sym (take-append-drop (i + 1) text) ∙ rw (lines_is, cut_is) refl;
  ended = inr (take i text, lines_is ∙ take_more text i 0 inside ∙ ap (λ (byte : ℕ). take i text ++ byte ∷ []) here);
  unended = rw cut_is (All-from_get_or (λ byte. byte ≢ 10) (drop (i + 1) text) 0 (λ k within.
      subst (λ (byte : ℕ). byte ≢ 10) (sym (get_or-drop (i + 1) text k 0)) (after (i + 1 + k) (omega arith) (omega (arith, length-drop (i + 1) text, within)))));
}

-- a text without a line feed has no lines
pub lines-none : (text lines : List ℕ) → NoLineFeed text → lines ≡ take 0 text → AreLines text lines text
lines-none text lines none is = record { split = rw is refl; ended = inl is; unended = none }
