-- Puts the lines of a text that are not empty, byte by byte.
use Rattle.std.proofs.Common.{◌≡◌, ◌==◌, ◌∙◌, ℕ, Bool, true, false, cond, List, [], ◌∷◌, ◌++◌, filter, refl, sym, ap}
use Rattle.std.specs.List.{flat_map, slice_split, onto_first}
use Rattle.day_control.specs.Lines.{full_lines, is_full, line_text}

abbrev is_line_feed : ℕ → Bool
is_line_feed byte = byte == 10

-- what is put for the rest of a text, after whether a line is begun
abbrev pub put_rest : Bool → List ℕ → List ℕ
put_rest is_begun [] = cond is_begun (10 ∷ []) []
put_rest is_begun (byte ∷ rest) = cond (byte == 10) (cond is_begun (10 ∷ put_rest false rest) (put_rest false rest)) (byte ∷ put_rest true rest)

-- what is put for these parts of a text, after whether a line is begun
abbrev put_parts : Bool → List (List ℕ) → List ℕ
put_parts is_begun [] = cond is_begun (10 ∷ []) []
put_parts true (part ∷ parts) = line_text part ++ flat_map line_text (filter is_full parts)
put_parts false (part ∷ parts) = flat_map line_text (filter is_full (part ∷ parts))

put_onto : (is_begun : Bool) (byte : ℕ) (parts : List (List ℕ)) → put_parts is_begun (onto_first byte parts) ≡ byte ∷ put_parts true parts
put_onto true byte [] = refl
put_onto true byte (part ∷ parts) = refl
put_onto false byte [] = refl
put_onto false byte (part ∷ parts) = refl

put_empty : (is_begun : Bool) (parts : List (List ℕ)) → put_parts is_begun ([] ∷ parts) ≡ cond is_begun (10 ∷ put_parts false parts) (put_parts false parts)
put_empty true [] = refl
put_empty true (part ∷ parts) = refl
put_empty false [] = refl
put_empty false (part ∷ parts) = refl

put_is : (is_begun : Bool) (text : List ℕ) → put_rest is_begun text ≡ put_parts is_begun (slice_split is_line_feed text)
put_is true [] = refl
put_is false [] = refl
put_is is_begun (byte ∷ text) =
    let parts = slice_split is_line_feed text in
    elim (byte == 10) as (λ v. cond v (cond is_begun (10 ∷ put_rest false text) (put_rest false text)) (byte ∷ put_rest true text)
    ≡ put_parts is_begun (cond v ([] ∷ parts) (onto_first byte parts))) [
      | true ↦ ap (λ (l : List ℕ). cond is_begun (10 ∷ l) l) (put_is false text) ∙ sym (put_empty is_begun parts)
      | false ↦ ap (λ (l : List ℕ). byte ∷ l) (put_is true text) ∙ sym (put_onto is_begun byte parts)
    ]

put_false : (parts : List (List ℕ)) → put_parts false parts ≡ flat_map line_text (filter is_full parts)
put_false [] = refl
put_false (part ∷ parts) = refl

-- the lines of a text that are not empty are put
pub put_full_lines : (text : List ℕ) → put_rest false text ≡ flat_map line_text (full_lines text)
put_full_lines text = put_is false text ∙ put_false (slice_split is_line_feed text)
