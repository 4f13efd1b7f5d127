-- Shows how much of a text is written after each of its pieces.
use Rattle.std.proofs.Common.{◌≡◌, ◌++◌, ◌<◌, ◌+◌, ◌∷◌, ◌∙◌, ◌==◌, [], ℕ, true, List, Option, Result, Ok, Err, OnOk, ap, arith, drop, append-nil, append_assoc, get_or, length, refl, sym, take}
use Rattle.std.specs.Io.KnownBytes.{Appends}
use Rattle.std.specs.List.{flat_map}
use Rattle.std.proofs.lemmas.Grind.{flat_map-append}
use Rattle.std.proofs.lemmas.List.{take-append-drop, take_more}
use Rattle.whole_io.specs.Writing.{WritesPrefix, WritesUpTo}
use Rattle.whole_io.specs.Lemmas.WriteLemmas.{WritesPrefix-after, WritesPrefix-longer, WritesUpTo-all, WritesUpTo-both, WritesUpTo-none}

-- ## A text up to a rest

-- the next piece of what is left is written
pub piece_written : (whole piece more : List ℕ) (old now new : Option (List ℕ)) → WritesUpTo whole (piece ++ more) old now → Appends now new piece
    → WritesUpTo whole more old new
piece_written whole piece more old now new had written =
    WritesUpTo-both whole (piece ++ more) more old now new had (record { prefix = piece; split = refl; written = written })

-- a part of the next piece of what is left is written
pub piece_begun : (whole piece more : List ℕ) (old now new : Option (List ℕ)) → WritesUpTo whole (piece ++ more) old now → WritesPrefix piece now new
    → WritesPrefix whole old new
piece_begun whole piece more old now new had begun = WritesPrefix-after whole (piece ++ more) old now new had (WritesPrefix-longer piece more now new begun)

-- nothing is written
pub nothing_written : (text : List ℕ) (known : Option (List ℕ)) → WritesPrefix text known known
nothing_written text known = (text, WritesUpTo-none text known)

-- ## Messages

-- a list in two parts
pub two_parts : {M : Type 0} (n : ℕ) (rest next behind : List M) → next ≡ take n rest → behind ≡ drop n rest → rest ≡ next ++ behind
two_parts n rest next behind front back = rw (front, back) (sym (take-append-drop n rest))

-- no message is left
pub no_messages : {M : Type 0} (rest : List M) → (length rest == 0) ≡ true → rest ≡ []
no_messages [] test = refl
no_messages (m ∷ rest) test = let none : length (m ∷ rest) ≡ 0 = grind (arith, test) in absurd (omega (arith, none))

-- what follows holds of a success
pub ok_map : {A E : Type 0} (r : Result A E) (P Q : Type 0) → (P → Q) → OnOk r P → OnOk r Q
ok_map (Ok value) P Q f p = f p
ok_map (Err error) P Q f p = tt

module _ {M : Type 0} (text : M → List ℕ) where
  -- the texts of the next messages are made, and those behind them are left
  pub next_made : (whole piece made : List ℕ) (messages next behind : List M) (old now new : Option (List ℕ)) → messages ≡ next ++ behind
      → made ≡ flat_map text next → WritesUpTo whole (piece ++ flat_map text messages) old now → Appends now new piece
      → WritesUpTo whole (made ++ flat_map text behind) old new
  next_made whole piece made messages next behind old now new split is had written =
      let texts : flat_map text messages ≡ made ++ flat_map text behind =
      ap (flat_map text) split ∙ flat_map-append text next behind ∙ ap (λ (l : List ℕ). l ++ flat_map text behind) (sym is) in
      rw texts at (piece_written whole piece (flat_map text messages) old now new had written)

  -- no message is left, and the last piece is written
  pub last_written : (whole piece : List ℕ) (messages : List M) (old now new : Option (List ℕ)) → messages ≡ []
      → WritesUpTo whole (piece ++ flat_map text messages) old now → Appends now new piece → Appends old new whole
  last_written whole piece messages old now new none had written =
      let rest : flat_map text messages ≡ [] = ap (flat_map text) none in
      WritesUpTo-all whole old new (rw rest at (piece_written whole piece (flat_map text messages) old now new had written))

  -- the text of one message more
  pub texts-more : (messages : List M) (i : ℕ) (m : M) (now new front : List ℕ) → i < length messages → get_or messages i m ≡ m
      → now ≡ front ++ flat_map text (take i messages) → new ≡ now ++ text m → new ≡ front ++ flat_map text (take (i + 1) messages)
  texts-more messages i m now new front within is had made =
      let one : take (i + 1) messages ≡ take i messages ++ m ∷ [] =
      take_more messages i m within ∙ ap (λ (n : M). take i messages ++ n ∷ []) is in
      made ∙ ap (λ (l : List ℕ). l ++ text m) had ∙ append_assoc front (flat_map text (take i messages)) (text m)
      ∙ ap (λ (l : List ℕ). front ++ l) (
      ap (λ (l : List ℕ). flat_map text (take i messages) ++ l) (sym (append-nil (text m)))
      ∙ sym (flat_map-append text (take i messages) (m ∷ [])) ∙ ap (flat_map text) (sym one))
