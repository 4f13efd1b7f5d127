-- Defines the bytes of a message made of its fields, and the fields read from its bytes.
use Rattle.std.specs.Prelude.{◌≡◌, ◌==◌, ◌||◌, ℕ, List, [], ◌∷◌, ◌++◌, drop, length, replicate, take, Result, Ok, Err, if◌then◌else◌}
use Rattle.std.specs.Int.{w16, w32, w64, to_be_bytes}
use Rattle.reports.specs.declared.message.Header.{Header}
use Rattle.reports.specs.declared.message.Message.{Message}
use Rattle.reports.specs.declared.message.Message.TheVariants.{Report, Cancel, Correct, Reinstate}
use Rattle.sale_matrix.specs.declared.content.Content.{Content}
use Rattle.tapebox_c.specs.Faults.{fault_code}
use Rattle.tapebox_c.specs.Rows.{LONGEST_MESSAGE}
use Rattle.tapebox_c.specs.declared.fault.CallFault.{CallFault}
use Rattle.tapebox_c.specs.declared.rows.FieldsRow.{FieldsRow}
use Rattle.tapebox_c.specs.declared.rows.MessageRow.{MessageRow}

-- the length of what follows, and the kind
abbrev pub start_part : ℕ → ℕ → List ℕ
start_part len kind = to_be_bytes w16 len ++ (kind ∷ [])

-- participant, number, moment and symbol
abbrev pub header_part : FieldsRow → List ℕ
header_part f = (f.participant ∷ []) ++ (to_be_bytes w32 f.number ++ (to_be_bytes w64 f.moment ++ f.symbol))

-- price, size and condition
abbrev pub content_part : FieldsRow → List ℕ
content_part f = to_be_bytes w64 f.price ++ (to_be_bytes w32 f.size ++ f.condition)

-- the bytes of the fields that a kind has, each as it is: `R` 82, `C` 67, `X` 88, `S` 83
abbrev pub fields_text : FieldsRow → List ℕ
fields_text f =
    if f.kind == 82 then start_part 38 82 ++ (header_part f ++ content_part f)
    else if f.kind == 67 then start_part 42 67 ++ (header_part f ++ (to_be_bytes w32 f.target ++ content_part f))
    else if (f.kind == 88) || (f.kind == 83) then start_part 26 f.kind ++ (header_part f ++ to_be_bytes w32 f.target)
    else start_part 1 f.kind

-- the bytes, with zeros after them, if they are a message
abbrev pub EncodesTo : List ℕ → Result Message CallFault → ℕ → MessageRow → MessageRow → Type 0
EncodesTo text (Ok message) code old new =
    (code ≡ 0) × (new.len ≡ length text) × (take new.len new.bytes ≡ text) × (drop new.len new.bytes ≡ drop new.len (replicate LONGEST_MESSAGE 0))
EncodesTo text (Err fault) code old new = (code ≡ fault_code fault) × (new ≡ old)

-- the fields that a kind has from its header
abbrev pub with_header : ℕ → Header → FieldsRow
with_header kind h = record {
  moment = h.moment;
  price = 0;
  number = h.number;
  target = 0;
  size = 0;
  kind = kind;
  participant = h.participant;
  condition = 0 ∷ 0 ∷ 0 ∷ 0 ∷ [];
  symbol = h.symbol;
}

-- the fields with a content
abbrev pub with_content : FieldsRow → Content → FieldsRow
with_content f c = record f { price = c.price; size = c.size; condition = c.condition }

-- the fields of a message
abbrev pub fields_of : Message → FieldsRow
fields_of (Report header content) = with_content (with_header 82 header) content
fields_of (Cancel header target) = record (with_header 88 header) { target = target }
fields_of (Correct header target content) = with_content (record (with_header 67 header) { target = target }) content
fields_of (Reinstate header target) = record (with_header 83 header) { target = target }

-- the fields of a message as the result of a call
abbrev pub DecodesTo : Result Message CallFault → ℕ → FieldsRow → FieldsRow → Type 0
DecodesTo (Ok message) code old new = (code ≡ 0) × (new ≡ fields_of message)
DecodesTo (Err fault) code old new = (code ≡ fault_code fault) × (new ≡ old)
