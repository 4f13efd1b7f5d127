-- The two laws of messages: the bytes that are read spell the message, and a spelling is read as its message.
use Rattle.std.proofs.Common.{◌≡◌, ℕ, ◌+◌, ◌^◌, ◌<◌, ◌≤◌, false, cond, ltb, List, [], ◌∷◌, ◌++◌, length, take, drop, ◌==◌, ◌%◌, inl, inr, length-append}
use Rattle.std.proofs.Common.{take-add, lit<, length-take, length-drop, append-nil, ◌||◌, Result, Ok, Err, refl, sym, ap, subst, ◌∙◌, append_assoc, arith}
use Rattle.std.specs.Prelude.{IfOk, if◌then◌else◌, nat_lt}
use Rattle.std.specs.Int.{w8, w16, w32, w64, to_be_bytes, from_be_bytes}
use Rattle.std.proofs.lemmas.Bool.{cases_Bool, eqb-true, le-ltb, ltb-false, ne_eqb}
use Rattle.std.proofs.lemmas.List.{nil_from_length, take-append-le, take_at}
use Rattle.std.proofs.lemmas.Nat.{from_be_bytes-to_be_bytes_2}
use Rattle.tape_types.specs.Ranges.{FIRST_PARTICIPANT, LAST_PARTICIPANT}
use Rattle.tape_types.specs.Ranges.{IsMessageNumber, IsParticipant, IsPrice, IsSize, IsSymbol, PRICE_MOST, NUMBER_MOST, SIZE_MOST}
use Rattle.sale_matrix.specs.Matrix.{IsCondition}
use Rattle.reports.specs.declared.fault.MessageFault.{MessageFault}
use Rattle.reports.specs.declared.fault.MessageFault.TheVariants.{Oversize, Short, BadParticipant, BadNumber, BadSymbol, BadTarget, BadPrice, BadSize}
use Rattle.reports.specs.declared.fault.MessageFault.TheVariants.{BadCondition}
use Rattle.reports.specs.declared.message.Header.{Header}
use Rattle.sale_matrix.specs.declared.content.Content.{Content}
use Rattle.reports.specs.declared.message.Message.{Message}
use Rattle.reports.specs.declared.message.Message.TheVariants.{Report, Cancel, Correct, Reinstate}
use Rattle.reports.specs.Fields.{◌>>=◌, bytes_at, number_at, ranged_at, text_at}
use Rattle.reports.specs.Texts.{is_condition, is_symbol}
use Rattle.reports.specs.Spelling.{IsHeader, IsContent, IsMessage, OneSpelling, Spells, body, content_text, fields_text, header_text, kind_byte, spelling}
use Rattle.reports.specs.Spelling.{target_text}
use Rattle.reports.specs.Reading.{announced_length, body_message, cancel_at, content_at, correction_at, fields_at, header_at, message_at, report_at, target_at}
use Rattle.reports.specs.Reading.{reinstatement_at}
use Rattle.reports.specs.Reading.{LONGEST_BODY, fields_of_length}
use Rattle.reports.specs.Kinds.{REPORT, CANCEL, CORRECTION, REINSTATEMENT, REPORT_LENGTH, CANCEL_LENGTH, CORRECTION_LENGTH, REINSTATEMENT_LENGTH}
use Rattle.reports.specs.Lemmas.Fields.{AreBytes, AreBytes-drop, AreBytes-take, IsReader, Takes, Takes-then, bind_ok, first_taken, number_reader, ok_is, passed}
use Rattle.reports.specs.Lemmas.Fields.{ranged_reader, text_reader, wide8, wide16, wide32, wide64}
use Rattle.reports.specs.Lemmas.Texts.{condition_decided, symbol_decided}

-- ---- the parts of a message

-- a participant is read from its spelling alone
participant_reader : IsReader (ranged_at Short w8 FIRST_PARTICIPANT LAST_PARTICIPANT BadParticipant) (to_be_bytes w8) IsParticipant
participant_reader = ranged_reader Short wide8 FIRST_PARTICIPANT LAST_PARTICIPANT BadParticipant (lit< tt)

-- a message number is read from its spelling alone
message_number_reader : IsReader (ranged_at Short w32 1 NUMBER_MOST BadNumber) (to_be_bytes w32) IsMessageNumber
message_number_reader = ranged_reader Short wide32 1 NUMBER_MOST BadNumber (lit< tt)

-- a symbol is read from its spelling alone
symbol_reader : IsReader (text_at Short 8 is_symbol BadSymbol) (λ text. text) IsSymbol
symbol_reader = text_reader Short 8 is_symbol BadSymbol IsSymbol symbol_decided (λ text fits. fits.eight)

-- a target is read from its spelling alone
target_reader : IsReader target_at target_text IsMessageNumber
target_reader = ranged_reader Short wide32 1 NUMBER_MOST BadTarget (lit< tt)

-- a price is read from its spelling alone
price_reader : IsReader (ranged_at Short w64 1 PRICE_MOST BadPrice) (to_be_bytes w64) IsPrice
price_reader = ranged_reader Short wide64 1 PRICE_MOST BadPrice (lit< tt)

-- a size is read from its spelling alone
size_reader : IsReader (ranged_at Short w32 1 SIZE_MOST BadSize) (to_be_bytes w32) IsSize
size_reader = ranged_reader Short wide32 1 SIZE_MOST BadSize (lit< tt)

-- a condition is read from its spelling alone
condition_reader : IsReader (text_at Short 4 is_condition BadCondition) (λ text. text) IsCondition
condition_reader = text_reader Short 4 is_condition BadCondition IsCondition condition_decided (λ text fits. fits.four)

-- a header: its four fields in a row
header_reader : IsReader header_at header_text IsHeader
unfolding header_at
header_reader = record {
  takes = λ bytes x fits e.
      let a = first_taken participant_reader bytes _ x fits e in
      let b = first_taken message_number_reader a.0.1 _ x a.1.rest_fits a.3 in
      let c = first_taken (number_reader Short wide64) b.0.1 _ x b.1.rest_fits b.3 in
      let d = first_taken symbol_reader c.0.1 _ x c.1.rest_fits c.3 in
      let made : Header × List ℕ = (record { participant = a.0.0; number = b.0.0; moment = c.0.0; symbol = d.0.0 }, d.0.1) in
      subst (λ (y : Header × List ℕ). Takes bytes (header_text y.0) y.1 × IsHeader y.0) {x = made} (ok_is Short made x d.3)
      (Takes-then a.1 (Takes-then b.1 (Takes-then c.1 d.1)), record { participant = a.2; number = b.2; moment = c.2; symbol = d.2 });
  again = λ h rest fits.
      let p = to_be_bytes w8 h.participant in
      let n = to_be_bytes w32 h.number in
      let m = to_be_bytes w64 h.moment in
      let regrouped : header_text h ++ rest ≡ p ++ (n ++ (m ++ (h.symbol ++ rest))) = simp append_assoc in
      let first = participant_reader.again h.participant (n ++ (m ++ (h.symbol ++ rest))) fits.participant in
      let second = message_number_reader.again h.number (m ++ (h.symbol ++ rest)) fits.number in
      let third = (number_reader Short wide64).again h.moment (h.symbol ++ rest) fits.moment in
      let fourth = symbol_reader.again h.symbol rest fits.symbol in
      ap header_at regrouped ∙ rw (first, second, third, fourth) refl;
}

-- a content: its three fields in a row
content_reader : IsReader content_at content_text IsContent
unfolding content_at
content_reader = record {
  takes = λ bytes x fits e.
      let a = first_taken price_reader bytes _ x fits e in
      let b = first_taken size_reader a.0.1 _ x a.1.rest_fits a.3 in
      let c = first_taken condition_reader b.0.1 _ x b.1.rest_fits b.3 in
      let made : Content × List ℕ = (record { price = a.0.0; size = b.0.0; condition = c.0.0 }, c.0.1) in
      subst (λ (y : Content × List ℕ). Takes bytes (content_text y.0) y.1 × IsContent y.0) {x = made} (ok_is Short made x c.3)
      (Takes-then a.1 (Takes-then b.1 c.1), record { price = a.2; size = b.2; condition = c.2 });
  again = λ c rest fits.
      let p = to_be_bytes w64 c.price in
      let s = to_be_bytes w32 c.size in
      let regrouped : content_text c ++ rest ≡ p ++ (s ++ (c.condition ++ rest)) = simp append_assoc in
      let first = price_reader.again c.price (s ++ (c.condition ++ rest)) fits.price in
      let second = size_reader.again c.size (c.condition ++ rest) fits.size in
      let third = condition_reader.again c.condition rest fits.condition in
      ap content_at regrouped ∙ rw (first, second, third) refl;
}

-- ---- the fields of each kind

-- a message of the kind, with every field in its range
abbrev IsOfKind : ℕ → Message → Type 0
IsOfKind kind m = IsMessage m × (kind_byte m ≡ kind)

-- a report's fields that are read were spelled so
report_takes : (bytes : List ℕ) (x : Message × List ℕ) → AreBytes bytes → report_at bytes ≡ Ok x
    → Takes bytes (fields_text x.0) x.1 × IsOfKind REPORT x.0
unfolding report_at
report_takes bytes x fits e =
    let h = first_taken header_reader bytes _ x fits e in
    let c = first_taken content_reader h.0.1 _ x h.1.rest_fits h.3 in
    let made : Message × List ℕ = (Report h.0.0 c.0.0, c.0.1) in
    subst (λ (y : Message × List ℕ). Takes bytes (fields_text y.0) y.1 × IsOfKind REPORT y.0) {x = made} (ok_is Short made x c.3)
    (Takes-then h.1 c.1, ((h.2, c.2), refl))

-- a cancel's fields that are read were spelled so
cancel_takes : (bytes : List ℕ) (x : Message × List ℕ) → AreBytes bytes → cancel_at bytes ≡ Ok x
    → Takes bytes (fields_text x.0) x.1 × IsOfKind CANCEL x.0
unfolding cancel_at
cancel_takes bytes x fits e =
    let h = first_taken header_reader bytes _ x fits e in
    let t = first_taken target_reader h.0.1 _ x h.1.rest_fits h.3 in
    let made : Message × List ℕ = (Cancel h.0.0 t.0.0, t.0.1) in
    subst (λ (y : Message × List ℕ). Takes bytes (fields_text y.0) y.1 × IsOfKind CANCEL y.0) {x = made} (ok_is Short made x t.3)
    (Takes-then h.1 t.1, ((h.2, t.2), refl))

-- a correction's fields that are read were spelled so
correction_takes : (bytes : List ℕ) (x : Message × List ℕ) → AreBytes bytes → correction_at bytes ≡ Ok x
    → Takes bytes (fields_text x.0) x.1 × IsOfKind CORRECTION x.0
unfolding correction_at
correction_takes bytes x fits e =
    let h = first_taken header_reader bytes _ x fits e in
    let t = first_taken target_reader h.0.1 _ x h.1.rest_fits h.3 in
    let c = first_taken content_reader t.0.1 _ x t.1.rest_fits t.3 in
    let made : Message × List ℕ = (Correct h.0.0 t.0.0 c.0.0, c.0.1) in
    subst (λ (y : Message × List ℕ). Takes bytes (fields_text y.0) y.1 × IsOfKind CORRECTION y.0) {x = made} (ok_is Short made x c.3)
    (Takes-then h.1 (Takes-then t.1 c.1), ((h.2, (t.2, c.2)), refl))

-- a reinstatement's fields that are read were spelled so
reinstatement_takes : (bytes : List ℕ) (x : Message × List ℕ) → AreBytes bytes → reinstatement_at bytes ≡ Ok x
    → Takes bytes (fields_text x.0) x.1 × IsOfKind REINSTATEMENT x.0
unfolding reinstatement_at
reinstatement_takes bytes x fits e =
    let h = first_taken header_reader bytes _ x fits e in
    let t = first_taken target_reader h.0.1 _ x h.1.rest_fits h.3 in
    let made : Message × List ℕ = (Reinstate h.0.0 t.0.0, t.0.1) in
    subst (λ (y : Message × List ℕ). Takes bytes (fields_text y.0) y.1 × IsOfKind REINSTATEMENT y.0) {x = made} (ok_is Short made x t.3)
    (Takes-then h.1 t.1, ((h.2, t.2), refl))

-- a report's fields that are spelled are read again
report_again : (h : Header) (c : Content) → IsHeader h → IsContent c
    → report_at (header_text h ++ content_text c) ≡ Ok (Report h c, [])
unfolding report_at
report_again h c header content =
    rw (header_reader.again h (content_text c) header, ap content_at (sym (append-nil (content_text c))) ∙ content_reader.again c [] content) refl

-- a cancel's fields that are spelled are read again
cancel_again : (h : Header) (n : ℕ) → IsHeader h → IsMessageNumber n → cancel_at (header_text h ++ target_text n) ≡ Ok (Cancel h n, [])
unfolding cancel_at
cancel_again h n header target = rw (header_reader.again h (target_text n) header, target_reader.again n [] target) refl

-- a correction's fields that are spelled are read again
correction_again : (h : Header) (n : ℕ) (c : Content) → IsHeader h → IsMessageNumber n → IsContent c
    → correction_at (header_text h ++ (target_text n ++ content_text c)) ≡ Ok (Correct h n c, [])
unfolding correction_at
correction_again h n c header target content =
    rw (
      header_reader.again h (target_text n ++ content_text c) header,
      target_reader.again n (content_text c) target,
      ap content_at (sym (append-nil (content_text c))) ∙ content_reader.again c [] content,
    ) refl

-- a reinstatement's fields that are spelled are read again
reinstatement_again : (h : Header) (n : ℕ) → IsHeader h → IsMessageNumber n → reinstatement_at (header_text h ++ target_text n) ≡ Ok (Reinstate h n, [])
unfolding reinstatement_at
reinstatement_again h n header target = rw (header_reader.again h (target_text n) header, target_reader.again n [] target) refl

-- ---- the length of a kind, and its fields

-- the length of a body of the kind
abbrev pub body_length : ℕ → ℕ
body_length kind =
    if kind == REPORT then REPORT_LENGTH
    else if kind == CANCEL then CANCEL_LENGTH
    else if kind == CORRECTION then CORRECTION_LENGTH
    else REINSTATEMENT_LENGTH

-- a header has 21 bytes
length-header : (h : Header) → IsHeader h → length (header_text h) ≡ 21
length-header h fits = omega (arith, fits.symbol.eight)

-- a content has 16 bytes
length-content : (c : Content) → IsContent c → length (content_text c) ≡ 16
length-content c fits = omega (arith, fits.condition.four)

-- the body has the length of its kind
length-body : (m : Message) → IsMessage m → length (body m) ≡ body_length (kind_byte m)
length-body (Report h c) fits =
    omega (arith, length-append (header_text h) (content_text c), length-header h fits.0, length-content c fits.1)
length-body (Cancel h n) fits = omega (arith, length-append (header_text h) (target_text n), length-header h fits.0)
length-body (Correct h n c) fits =
    omega (arith, length-append (header_text h) (target_text n ++ content_text c), length-header h fits.0, length-content c fits.1.1)
length-body (Reinstate h n) fits = omega (arith, length-append (header_text h) (target_text n), length-header h fits.0)

-- a message has as many bytes as its kind requires: those of its body, and two for their number
pub length-spelling : (m : Message) → IsMessage m → length (spelling m) ≡ 2 + body_length (kind_byte m)
length-spelling m fits = omega (arith, length-body m fits)

-- the spelling begins with the length of its kind
pub spelling-parts : (m : Message) → IsMessage m → spelling m ≡ to_be_bytes w16 (body_length (kind_byte m)) ++ body m
spelling-parts m fits = ap (λ (n : ℕ). to_be_bytes w16 n ++ body m) (length-body m fits)

-- if reading succeeded, the length was the one that is due
length_is_due : (due len : ℕ) (r : Result (Message × List ℕ) MessageFault) (x : Message × List ℕ) → fields_of_length due len r ≡ Ok x
    → (len ≡ due) × (r ≡ Ok x)
length_is_due due len r x e = elim (cases_Bool (len == due)) [
  | inl same ↦ (eqb-true len due same, rw same at e)
  | inr other ↦ absurd (cc (rw other at e))
]

-- if the body has the kind's length, the fields are all of it
all_taken : (kind : ℕ) (bytes : List ℕ) (x : Message × List ℕ) → length bytes + 1 ≡ body_length kind
    → Takes bytes (fields_text x.0) x.1 × IsOfKind kind x.0
    → IsOfKind kind x.0 × (bytes ≡ fields_text x.0)
all_taken kind bytes x due taken =
    let len : length (body x.0) ≡ body_length kind = length-body x.0 taken.1.0 ∙ ap body_length taken.1.1 in
    let none : x.1 ≡ [] = nil_from_length x.1 (omega (arith, due, len, ap length taken.0.parts, length-append (fields_text x.0) x.1)) in
    (taken.1, taken.0.parts ∙ ap (λ (r : List ℕ). fields_text x.0 ++ r) none ∙ append-nil (fields_text x.0))

-- fields that are read were spelled so
fields_take : (kind len : ℕ) (bytes : List ℕ) (x : Message × List ℕ) → AreBytes bytes → length bytes + 1 ≡ len
    → fields_at kind len bytes ≡ Ok x
    → IsOfKind kind x.0 × (bytes ≡ fields_text x.0)
unfolding fields_at
fields_take kind len bytes x fits size e = elim (cases_Bool (kind == REPORT)) [
  | inl report ↦
      let r = length_is_due REPORT_LENGTH len (report_at bytes) x (rw report at e) in
      rw (eqb-true kind REPORT report) (all_taken REPORT bytes x (size ∙ r.0) (report_takes bytes x fits r.1))
  | inr no_report ↦ elim (cases_Bool (kind == CANCEL)) [
    | inl cancel ↦
        let r = length_is_due CANCEL_LENGTH len (cancel_at bytes) x (rw (no_report, cancel) at e) in
        rw (eqb-true kind CANCEL cancel) (all_taken CANCEL bytes x (size ∙ r.0) (cancel_takes bytes x fits r.1))
    | inr no_cancel ↦ elim (cases_Bool (kind == CORRECTION)) [
      | inl correct ↦
          let r = length_is_due CORRECTION_LENGTH len (correction_at bytes) x (rw (no_report, no_cancel, correct) at e) in
          rw (eqb-true kind CORRECTION correct) (all_taken CORRECTION bytes x (size ∙ r.0) (correction_takes bytes x fits r.1))
      | inr no_correct ↦ elim (cases_Bool (kind == REINSTATEMENT)) [
        | inl reinstate ↦
            let r = length_is_due REINSTATEMENT_LENGTH len (reinstatement_at bytes) x (rw (no_report, no_cancel, no_correct, reinstate) at e) in
            rw (eqb-true kind REINSTATEMENT reinstate) (all_taken REINSTATEMENT bytes x (size ∙ r.0) (reinstatement_takes bytes x fits r.1))
        | inr no_kind ↦ absurd (cc (rw (no_report, no_cancel, no_correct, no_kind) at e))
      ]
    ]
  ]
]

-- fields that are spelled are read again
fields_again : (m : Message) → IsMessage m → fields_at (kind_byte m) (body_length (kind_byte m)) (fields_text m) ≡ Ok (m, [])
unfolding fields_at
fields_again (Report h c) fits = report_again h c fits.0 fits.1
fields_again (Cancel h n) fits = cancel_again h n fits.0 fits.1
fields_again (Correct h n c) fits = correction_again h n c fits.0 fits.1.0 fits.1.1
fields_again (Reinstate h n) fits = reinstatement_again h n fits.0 fits.1

-- ---- the body

-- a body that is read was spelled so
body_takes : (bytes : List ℕ) (m : Message) → AreBytes bytes → body_message bytes ≡ Ok m → IsMessage m × (bytes ≡ body m)
unfolding body_message
body_takes bytes m fits e =
    let kind = first_taken (number_reader Short wide8) bytes _ m fits e in
    let x = bind_ok (fields_at kind.0.0 (length bytes) kind.0.1) _ m kind.3 in
    let size : length kind.0.1 + 1 ≡ length bytes = omega (arith, ap length kind.1.parts, length-append (to_be_bytes w8 kind.0.0) kind.0.1) in
    let fields = fields_take kind.0.0 (length bytes) kind.0.1 x.0 kind.1.rest_fits size x.1 in
    let byte : kind.0.0 % 256 ≡ kind_byte x.0.0 = omega (arith, kind.2, fields.0.1) in
    let text : bytes ≡ body x.0.0 =
    kind.1.parts ∙ ap (λ (r : List ℕ). to_be_bytes w8 kind.0.0 ++ r) fields.1 ∙ ap (λ (n : ℕ). n ∷ fields_text x.0.0) byte in
    subst (λ (y : Message). IsMessage y × (bytes ≡ body y)) (ok_is Short x.0.0 m x.2) (fields.0.0, text)

-- the kind's byte is read again
kind_again : (m : Message) → number_at Short w8 (body m) ≡ Ok (kind_byte m, fields_text m)
kind_again (Report h c) = (number_reader Short wide8).again REPORT (fields_text (Report h c)) (lit< tt)
kind_again (Cancel h n) = (number_reader Short wide8).again CANCEL (fields_text (Cancel h n)) (lit< tt)
kind_again (Correct h n c) = (number_reader Short wide8).again CORRECTION (fields_text (Correct h n c)) (lit< tt)
kind_again (Reinstate h n) = (number_reader Short wide8).again REINSTATEMENT (fields_text (Reinstate h n)) (lit< tt)

-- a body that is spelled is read again
body_again : (m : Message) → IsMessage m → body_message (body m) ≡ Ok m
unfolding body_message
body_again m fits = rw (kind_again m, length-body m fits, fields_again m fits) refl

-- ---- the length in front, and the body

-- a message that is read was spelled so
pub message_takes : (bytes : List ℕ) (x : Message × ℕ) → AreBytes bytes → message_at bytes ≡ Ok x
    → IsMessage x.0 × (x.1 ≤ length bytes) × (take x.1 bytes ≡ spelling x.0)
unfolding message_at announced_length
message_takes bytes x fits e =
    let len = from_be_bytes w16 (take 2 bytes) in
    let inner = take len (drop 2 bytes) in
    let read : Result (Message × ℕ) MessageFault = body_message inner >>= λ m. Ok (m, 2 + len) in
    let within = cond (ltb (length bytes) (2 + len)) (Err Short) read in
    let g1 = passed (ltb (length bytes) 2) Short (cond ((len == 0) || ltb LONGEST_BODY len) (Err Oversize) within) x e in
    let g2 = passed ((len == 0) || ltb LONGEST_BODY len) Oversize within x g1.1 in
    let g3 = passed (ltb (length bytes) (2 + len)) Short read x g2.1 in
    let long : 2 + len ≤ length bytes = ltb-false _ _ g3.0 in
    let b = bind_ok (body_message inner) (λ m. Ok (m, 2 + len)) x g3.1 in
    let m = b.0 in
    let text = body_takes inner m (AreBytes-take len (drop 2 bytes) (AreBytes-drop 2 bytes fits)) b.1 in
    let size : length (body m) ≡ len = omega (arith, ap length text.1, length-take len (drop 2 bytes), length-drop 2 bytes) in
    let front : to_be_bytes w16 len ≡ take 2 bytes = wide16.back (take 2 bytes) (omega (arith, length-take 2 bytes)) (AreBytes-take 2 bytes fits) in
    let whole : take (2 + len) bytes ≡ spelling m =
    take-add 2 len bytes
    ∙ ap (λ (l : List ℕ). l ++ inner) (sym front)
    ∙ ap (λ (l : List ℕ). to_be_bytes w16 len ++ l) text.1
    ∙ ap (λ (n : ℕ). to_be_bytes w16 n ++ body m) (sym size) in
    subst (λ (y : Message × ℕ). IsMessage y.0 × (y.1 ≤ length bytes) × (take y.1 bytes ≡ spelling y.0)) {x = (m, 2 + len)}
    (ok_is Short (m, 2 + len) x b.2) (text.0, long, whole)

-- the bytes that are read spell the message
pub message_at-Ok : (bytes : List ℕ) (r : Result (Message × ℕ) MessageFault) → AreBytes bytes → r ≡ message_at bytes
    → IfOk r (λ x. (x.1 ≤ length bytes) × Spells (take x.1 bytes) x.0)
message_at-Ok bytes (Ok x) fits read = let t = message_takes bytes x fits (sym read) in (t.1, (t.0, t.2))
message_at-Ok bytes (Err e) fits read = tt

-- the number read from the first two bytes is the announced length
pub length_read : {F : Type 0} (short : F) (bytes : List ℕ)
    → number_at short w16 bytes ≡ (if nat_lt (length bytes) 2 then Err short else Ok (announced_length bytes, drop 2 bytes))
unfolding number_at bytes_at announced_length
length_read short bytes = grind arith

-- the length is read from the first two bytes, whatever follows them
pub announced_length-append : (head rest : List ℕ) → 2 ≤ length head → announced_length (head ++ rest) ≡ announced_length head
unfolding announced_length
announced_length-append head rest two = ap (from_be_bytes w16) (take-append-le 2 head rest two)

-- a body of an allowed length is read after its length
framed : (len : ℕ) (bytes inner : List ℕ) (m : Message) → announced_length bytes ≡ len → 0 < len → len ≤ LONGEST_BODY → 2 + len ≤ length bytes
    → take len (drop 2 bytes) ≡ inner
    → body_message inner ≡ Ok m
    → message_at bytes ≡ Ok (m, 2 + len)
unfolding message_at
framed len bytes inner m is some small long front read =
    let two : ltb (length bytes) 2 ≡ false = le-ltb _ _ (omega arith) in
    let not_zero : (len == 0) ≡ false = ne_eqb len 0 (omega arith) in
    let not_large : ltb LONGEST_BODY len ≡ false = le-ltb _ _ small in
    let enough : ltb (length bytes) (2 + len) ≡ false = le-ltb _ _ long in
    rw (two, is, not_zero, not_large, enough, front, read) refl

-- the length in front of a spelling is read again
announced_length-spelling : (n : ℕ) (rest : List ℕ) → n < 2 ^ 16 → announced_length (to_be_bytes w16 n ++ rest) ≡ n
unfolding announced_length
announced_length-spelling n rest lt = from_be_bytes-to_be_bytes_2 n lt

-- no body is longer than a correction's
body_length-le : (m : Message) → body_length (kind_byte m) ≤ CORRECTION_LENGTH
body_length-le (Report h c) = omega arith
body_length-le (Cancel h n) = omega arith
body_length-le (Correct h n c) = omega arith
body_length-le (Reinstate h n) = omega arith

-- a spelling is read as its message, whatever follows it
pub message_at-spelling : (m : Message) (rest : List ℕ) → IsMessage m → message_at (spelling m ++ rest) ≡ Ok (m, length (spelling m))
message_at-spelling m rest fits =
    let n = length (body m) in
    let size : n ≤ CORRECTION_LENGTH = omega (arith, length-body m fits, body_length-le m) in
    let long : 2 + n ≤ length (spelling m ++ rest) = omega (arith, length-append (body m) rest) in
    let announced = announced_length-spelling n (body m ++ rest) (omega (arith, size)) in
    let read = framed n (spelling m ++ rest) (body m) m announced (omega arith) (omega (arith, size)) long (take_at (body m) rest n refl) (body_again m fits) in
    let two : 2 + n ≡ length (spelling m) = omega arith in
    read ∙ ap (λ (k : ℕ). Ok (m, k)) two

-- no spelling begins another
pub one_spelling : OneSpelling
one_spelling a b text_a text_b x y spells_a spells_b same =
    let spelled : spelling a ++ x ≡ spelling b ++ y =
    ap (λ (t : List ℕ). t ++ x) (sym spells_a.1) ∙ same ∙ ap (λ (t : List ℕ). t ++ y) spells_b.1 in
    let read = sym (message_at-spelling a x spells_a.0) ∙ ap message_at spelled ∙ message_at-spelling b y spells_b.0 in
    let one = ap (λ (p : Message × ℕ). p.0) (ok_is Short _ _ read) in
    (one, spells_a.1 ∙ ap spelling one ∙ sym spells_b.1)
