-- A moment, a kind, a participant, a symbol and a condition are read exactly if they are spelled.
use Rattle.std.proofs.Common.{◌≡◌, ◌⊎◌, ◌<◌, ◌+◌, ◌-◌, ◌^◌, ◌∷◌, ◌++◌, ◌∙◌, ◌==◌, ◌&&◌, [], ℕ, List, Bool, true, false, Some, None, codes, refl, sym, ap, arith, length, length-append, map, replicate, nat_le, nat_lt, inl, inr, if◌then◌else◌}
use Rattle.std.specs.Fmt.{decimal}
use Rattle.std.specs.List.{list_all, list_any}
use Rattle.std.specs.Str.{bytes_eq}
use Rattle.std.proofs.lemmas.Bool.{cases_Bool, eqb-true, leb-true, ltb-true, or_parts}
use Rattle.std.proofs.lemmas.Fmt.{decimal_nonempty}
use Rattle.std.proofs.lemmas.Slice.Eq.{bytes_eq-Decides}
use Rattle.tape_types.specs.Ranges.{FIRST_PARTICIPANT, IsSymbol, LAST_PARTICIPANT, is_name_byte, name_of}
use Rattle.sale_matrix.specs.Matrix.{IsCondition, is_within}
use Rattle.sale_matrix.specs.declared.matrix.Matrix.TheVariants.{Two}
use Rattle.reports.specs.Texts.{is_condition}
use Rattle.csv_messages.specs.Kinds.{kind_letter, kind_of, kind_of_letter, kind_of_word, kind_word}
use Rattle.csv_messages.specs.Spellings.{ConditionIsSpelled, KindIsSpelled, MomentIsSpelled, ParticipantIsSpelled, SpellsNumber, SymbolIsSpelled}
use Rattle.csv_messages.specs.Texts.{as_condition, code_byte, code_of, condition_of}
use Rattle.csv_messages.specs.Writing.{condition_text}
use Rattle.csv_messages.specs.declared.kind.Kind.{Kind}
use Rattle.csv_messages.specs.declared.kind.Kind.TheVariants.{Report, Cancel, Correct, Reinstate}
use Rattle.csv_messages.proofs.RoundTrip.{condition_of-text, within-own}
use Rattle.csv_messages.proofs.SpellingLemmas.{number_is_spelled, within-is}
use Rattle.tape_types.specs.Lemmas.Symbols.{IsSymbol-padded, name_of-padded, symbol_named-name}
use Rattle.tape_types.specs.Names.{symbol_named}

-- ## Moments

-- no number is spelled by nothing
some-digits : (number : ℕ) → number < 2 ^ 64 → SpellsNumber [] number → ⊥
some-digits number fits spells =
    let some = decimal_nonempty number fits in
    let total : 0 ≡ length (replicate spells.zeros 48) + length (decimal number) =
    ap length spells.digits ∙ length-append (replicate spells.zeros 48) (decimal number) in
    omega (arith, some, total)

-- a moment is read exactly if it is spelled
pub moment_is_spelled : MomentIsSpelled
moment_is_spelled moment [] = (
  λ is. inl (refl, cc is),
  λ spells. elim spells [
    | inl none ↦ rw (none.1) refl
    | inr number ↦ absurd (some-digits moment number.0 number.1)
  ],
)
moment_is_spelled moment (byte ∷ bytes) =
    let law = number_is_spelled 0 (2 ^ 64 - 1) moment (byte ∷ bytes) (omega arith) in (
      λ is. let read = law.0 is in inr (omega (arith, read.1), read.2),
      λ spells. elim spells [
        | inl none ↦ cc (none.0)
        | inr number ↦ law.1 (omega arith, omega (arith, number.0), number.1)
      ],
    )

-- ## Kinds

-- a word that names a kind is its word
word-is : (word : List ℕ) (kind : Kind) → kind_of_word word ≡ Some kind → word ≡ kind_word kind
word-is word kind is =
    cases (bytes_eq word (codes "report")) (bytes_eq word (codes "cancel")) (bytes_eq word (codes "correct")) (bytes_eq word (codes "reinstate")) refl refl refl refl is
  where
    cases : (a b c d : Bool) → bytes_eq word (codes "report") ≡ a → bytes_eq word (codes "cancel") ≡ b → bytes_eq word (codes "correct") ≡ c
        → bytes_eq word (codes "reinstate") ≡ d
        → (if a then Some Report else if b then Some Cancel else if c then Some Correct else if d then Some Reinstate else None) ≡ Some kind
        → word ≡ kind_word kind
    cases true b c d ea eb ec ed is = let same : Report ≡ kind = cc is in rw (← same) ((bytes_eq-Decides word (codes "report")).0 ea)
    cases false true c d ea eb ec ed is = let same : Cancel ≡ kind = cc is in rw (← same) ((bytes_eq-Decides word (codes "cancel")).0 eb)
    cases false false true d ea eb ec ed is = let same : Correct ≡ kind = cc is in rw (← same) ((bytes_eq-Decides word (codes "correct")).0 ec)
    cases false false false true ea eb ec ed is = let same : Reinstate ≡ kind = cc is in rw (← same) ((bytes_eq-Decides word (codes "reinstate")).0 ed)
    cases false false false false ea eb ec ed is = cc is

-- a letter that names a kind is its letter
letter-is : (letter : ℕ) (kind : Kind) → kind_of_letter letter ≡ Some kind → letter ≡ kind_letter kind
letter-is letter kind is = cases (letter == 82) (letter == 88) (letter == 67) (letter == 83) refl refl refl refl is
  where
    cases : (a b c d : Bool) → (letter == 82) ≡ a → (letter == 88) ≡ b → (letter == 67) ≡ c → (letter == 83) ≡ d
        → (if a then Some Report else if b then Some Cancel else if c then Some Correct else if d then Some Reinstate else None) ≡ Some kind
        → letter ≡ kind_letter kind
    cases true b c d ea eb ec ed is = let same : Report ≡ kind = cc is in rw (← same) (eqb-true letter 82 ea)
    cases false true c d ea eb ec ed is = let same : Cancel ≡ kind = cc is in rw (← same) (eqb-true letter 88 eb)
    cases false false true d ea eb ec ed is = let same : Correct ≡ kind = cc is in rw (← same) (eqb-true letter 67 ec)
    cases false false false true ea eb ec ed is = let same : Reinstate ≡ kind = cc is in rw (← same) (eqb-true letter 83 ed)
    cases false false false false ea eb ec ed is = cc is

-- the word of a kind names it
word-names : (kind : Kind) → kind_of (kind_word kind) ≡ Some kind
word-names Report = refl
word-names Cancel = refl
word-names Correct = refl
word-names Reinstate = refl

-- so does its letter
letter-names : (kind : Kind) → kind_of (kind_letter kind ∷ []) ≡ Some kind
letter-names Report = refl
letter-names Cancel = refl
letter-names Correct = refl
letter-names Reinstate = refl

-- a text that names a kind is its word or its letter
kind-is : (kind : Kind) (text : List ℕ) → kind_of text ≡ Some kind → (text ≡ kind_word kind) ⊎ (text ≡ kind_letter kind ∷ [])
kind-is kind [] is = inl (word-is [] kind is)
kind-is kind (letter ∷ []) is = inr (ap (λ (l : ℕ). l ∷ []) (letter-is letter kind is))
kind-is kind (letter ∷ next ∷ rest) is = inl (word-is (letter ∷ next ∷ rest) kind is)

-- a kind is read exactly if it is spelled
pub kind_is_spelled : KindIsSpelled
kind_is_spelled kind text = (
  kind-is kind text,
  λ spells. elim spells [
    | inl word ↦ ap kind_of word ∙ word-names kind
    | inr letter ↦ ap kind_of letter ∙ letter-names kind
  ],
)

-- ## Participants and symbols

-- a participant is read exactly if it is spelled
pub participant_is_spelled : ParticipantIsSpelled
participant_is_spelled participant [] = (λ is. cc is, λ spells. cc (spells.1))
participant_is_spelled participant (letter ∷ []) = (
  λ is.
      let read = within-is FIRST_PARTICIPANT LAST_PARTICIPANT letter participant is in
      rw (← read.2) ((read.0, read.1), refl),
  λ spells.
      let same : letter ≡ participant = cc (spells.1) in
      rw same (within-own FIRST_PARTICIPANT LAST_PARTICIPANT participant spells.0.0 spells.0.1),
)
participant_is_spelled participant (letter ∷ next ∷ rest) = (λ is. cc is, λ spells. cc (spells.1))

-- a name that is read as a symbol is its name
symbol-is : (symbol name : List ℕ) → symbol_named name ≡ Some symbol → IsSymbol symbol × (name ≡ name_of symbol)
symbol-is symbol name is = cases (nat_lt 0 (length name)) (nat_le (length name) 8) (list_all is_name_byte name) refl refl refl is
  where
    cases : (some few all : Bool) → nat_lt 0 (length name) ≡ some → nat_le (length name) 8 ≡ few → list_all is_name_byte name ≡ all
        → (if some && (few && all) then Some (name ++ replicate (8 - length name) 32) else None) ≡ Some symbol
        → IsSymbol symbol × (name ≡ name_of symbol)
    cases true true true some few all is =
        let same : name ++ replicate (8 - length name) 32 ≡ symbol = cc is in
        rw (← same) (
          IsSymbol-padded name (ltb-true 0 (length name) some) (leb-true (length name) 8 few) all,
          sym (name_of-padded name (8 - length name) all),
        )
    cases false few all es ef ea is = cc is
    cases true false all es ef ea is = cc is
    cases true true false es ef ea is = cc is

-- a symbol is read exactly if it is spelled
pub symbol_is_spelled : SymbolIsSpelled
symbol_is_spelled symbol text = (
  symbol-is symbol text,
  λ spells. ap symbol_named spells.1 ∙ symbol_named-name symbol spells.0,
)

-- ## Conditions

-- a code other than a space is written as it was read
code-back : (byte : ℕ) → (byte == 32) ≡ false → code_byte (code_of byte) ≡ byte
code-back byte other = elim (cases_Bool (byte == 95)) [
  | inl blank ↦ rw blank (sym (eqb-true byte 95 blank))
  | inr code ↦ rw (code, other) refl
]

-- so are codes with no space among them
codes-back : (text : List ℕ) → list_any (λ byte. byte == 32) text ≡ false → map code_byte (map code_of text) ≡ text
codes-back [] none = refl
codes-back (byte ∷ text) none =
    let parts = or_parts (byte == 32) (list_any (λ byte. byte == 32) text) none in
    let first = code-back byte parts.0 in
    let more = codes-back text parts.1 in
    cc

-- codes that make a condition
condition-is : (condition codes : List ℕ) → as_condition codes ≡ Some condition → IsCondition codes × (codes ≡ condition)
unfolding is_condition
condition-is condition codes is = cases (length codes == 4) (is_within Two codes) refl refl is
  where
    cases : (four coded : Bool) → (length codes == 4) ≡ four → is_within Two codes ≡ coded → (if four && coded then Some codes else None) ≡ Some condition
        → IsCondition codes × (codes ≡ condition)
    cases true true four coded is = (record { four = eqb-true (length codes) 4 four; coded = coded }, cc is)
    cases true false four coded is = cc is
    cases false coded four e is = cc is

-- a text that is read as a condition is its codes
condition_text-is : (condition text : List ℕ) → condition_of text ≡ Some condition → IsCondition condition × (text ≡ condition_text condition)
unfolding condition_of
condition_text-is condition text is = cases (list_any (λ byte. byte == 32) text) refl is
  where
    cases : (spaces : Bool) → list_any (λ byte. byte == 32) text ≡ spaces → (if spaces then None else as_condition (map code_of text)) ≡ Some condition
        → IsCondition condition × (text ≡ condition_text condition)
    cases true spaces is = cc is
    cases false none is =
        let read = condition-is condition (map code_of text) is in
        rw (← read.1) (read.0, sym (codes-back text none))

-- a condition is read exactly if it is spelled
pub condition_is_spelled : ConditionIsSpelled
condition_is_spelled condition text = (
  condition_text-is condition text,
  λ spells. ap condition_of spells.1 ∙ condition_of-text condition spells.0,
)
