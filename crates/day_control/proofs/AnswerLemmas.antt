-- Follows an answer that is read byte by byte.
use Rattle.std.proofs.Common.{◌≡◌, ◌≢◌, ◌≤◌, ℕ, List, [], ◌∷◌, ◌++◌, Bool, true, false, not, Option, length, refl, sym, ap, ◌∙◌, append-nil, append_assoc, inl, inr, nat_eq, subst, arith}
use Rattle.std.proofs.lemmas.Bool.Decides.{eqb_tells}
use Rattle.std.proofs.lemmas.List.Concat.{flat_map-append}
use Rattle.std.proofs.lemmas.List.Elements.{All-nil, All-push}
use Rattle.std.specs.List.{flat_map}
use Rattle.std.specs.Io.KnownBytes.{Consumes}
use Rattle.std.proofs.KnownBytes.{Consumes-trans}
use Rattle.day_control.specs.Asking.{AreLines}
use Rattle.day_control.specs.Lines.{IsLine, is_full, line_text}

-- lines of an answer were read, and then a part of a line
pub record Reading (had left : Option (List ℕ)) (text : List ℕ) (is_begun : Bool) : Type 0 where
  pub lines : List (List ℕ)
  pub part : List ℕ
  pub full : AreLines lines
  pub is_line : IsLine part
  pub is : text ≡ flat_map line_text lines ++ part
  pub begun : is_begun ≡ is_full part
  pub read : Consumes had left text

-- a line that has a byte is not empty
full_some : (line : List ℕ) → true ≡ is_full line → 1 ≤ length line
full_some [] full = cc
full_some (byte ∷ rest) full = omega arith

-- a part that grows is not empty
full_more : (part : List ℕ) (byte : ℕ) → true ≡ is_full (part ++ byte ∷ [])
full_more [] byte = refl
full_more (first ∷ part) byte = refl

-- one more line
line_more : (lines : List (List ℕ)) (part text : List ℕ) → text ≡ flat_map line_text lines ++ part
    → text ++ 10 ∷ [] ≡ flat_map line_text (lines ++ part ∷ []) ++ []
line_more lines part text is =
    ap (λ (l : List ℕ). l ++ 10 ∷ []) is
    ∙ append_assoc (flat_map line_text lines) part (10 ∷ [])
    ∙ ap (λ (l : List ℕ). flat_map line_text lines ++ l) (sym (append-nil (line_text part)))
    ∙ sym (flat_map-append line_text lines (part ∷ []))
    ∙ sym (append-nil (flat_map line_text (lines ++ part ∷ [])))

-- the end of a line that is begun
Reading-line : (had left rest : Option (List ℕ)) (text : List ℕ) → Reading had left text true → Consumes left rest (10 ∷ [])
    → Reading had rest (text ++ 10 ∷ []) false
Reading-line had left rest text so_far read = record {
  lines = so_far.lines ++ so_far.part ∷ [];
  part = [];
  full = All-push (λ line. IsLine line × (1 ≤ length line)) so_far.lines so_far.part so_far.full (so_far.is_line, full_some so_far.part so_far.begun);
  is_line = All-nil (λ byte. byte ≢ 10);
  is = line_more so_far.lines so_far.part text so_far.is;
  begun = refl;
  read = Consumes-trans had left rest text (10 ∷ []) so_far.read read;
}

-- a byte of a line
Reading-byte : (had left rest : Option (List ℕ)) (text : List ℕ) (is_begun : Bool) (byte : ℕ) → byte ≢ 10 → Reading had left text is_begun
    → Consumes left rest (byte ∷ []) → Reading had rest (text ++ byte ∷ []) true
Reading-byte had left rest text is_begun byte other so_far read = record {
  lines = so_far.lines;
  part = so_far.part ++ byte ∷ [];
  full = so_far.full;
  is_line = All-push (λ b. b ≢ 10) so_far.part byte so_far.is_line other;
  is = ap (λ (l : List ℕ). l ++ byte ∷ []) so_far.is ∙ append_assoc (flat_map line_text so_far.lines) so_far.part (byte ∷ []);
  begun = full_more so_far.part byte;
  read = Consumes-trans had left rest text (byte ∷ []) so_far.read read;
}

-- the next byte of an answer that does not end it
pub Reading-more : (had left rest : Option (List ℕ)) (text : List ℕ) (is_begun : Bool) (byte : ℕ) → Reading had left text is_begun
    → ((byte ≡ 10) → is_begun ≡ true) → Consumes left rest (byte ∷ []) → Reading had rest (text ++ byte ∷ []) (not (nat_eq byte 10))
Reading-more had left rest text is_begun byte so_far goes_on read =
    elim (eqb_tells byte 10) [
      | inl same ↦ rw (same.0, same.1) (Reading-line had left rest text (subst (λ (b : Bool). Reading had left text b) (goes_on same.1) so_far)
          (subst (λ (b : ℕ). Consumes left rest (b ∷ [])) same.1 read))
      | inr other ↦ rw other.0 (Reading-byte had left rest text is_begun byte other.1 so_far read)
    ]
