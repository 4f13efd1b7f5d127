-- Spells the fields of each kind.
use Rattle.std.proofs.Common.{◌≡◌, ◌++◌, refl}
use Rattle.std.specs.Int.{w32, to_be_bytes}
use Rattle.tapebox_c.specs.Coding.{start_part, header_part, content_part, fields_text}
use Rattle.tapebox_c.specs.declared.rows.FieldsRow.{FieldsRow}

-- the text of a report
pub report_text : (f : FieldsRow) → f.kind ≡ 82 → start_part 38 82 ++ (header_part f ++ content_part f) ≡ fields_text f
report_text f e = rw e refl

-- the text of a correction
pub correction_text : (f : FieldsRow) → f.kind ≡ 67 → start_part 42 67 ++ (header_part f ++ (to_be_bytes w32 f.target ++ content_part f)) ≡ fields_text f
correction_text f e = rw e refl

-- the text of a cancel
pub cancel_text : (f : FieldsRow) → f.kind ≡ 88 → start_part 26 f.kind ++ (header_part f ++ to_be_bytes w32 f.target) ≡ fields_text f
cancel_text f e = rw e refl

-- the text of a reinstatement
pub reinstatement_text : (f : FieldsRow) → f.kind ≡ 83 → start_part 26 f.kind ++ (header_part f ++ to_be_bytes w32 f.target) ≡ fields_text f
reinstatement_text f e = rw e refl
