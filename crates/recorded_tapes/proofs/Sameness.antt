-- Shows that a text is a table of at most one list of messages, and that a readable tape is found to be as recorded.
use Rattle.std.proofs.Common.{◌≡◌, ◌≢◌, ◌+◌, ◌-◌, ◌++◌, ◌∙◌, ◌∷◌, [], ℕ, List, All, Some, None, refl, sym, ap, append_assoc, append-nil, arith, get_or, length, length-append, subst, if◌then◌else◌}
use Rattle.std.proofs.lemmas.List.{append_cancel_left, get_or-append_right, get_or_push, length_push}
use Rattle.std.proofs.lemmas.List.Elements.{All-get_or}
use Rattle.csv.specs.Machine.{Read}
use Rattle.csv.specs.Reading.{AreRecords, Reached}
use Rattle.csv.specs.Writing.{default_writer, is_blank, row_body, row_text}
use Rattle.csv.specs.declared.parser.Config.{Config}
use Rattle.csv.specs.declared.parser.State.{State}
use Rattle.sale_matrix.specs.declared.matrix.Matrix.{Matrix}
use Rattle.reports.specs.declared.message.Message.{Message}
use Rattle.tape_core.specs.Tape.{TapeState}
use Rattle.csv_messages.specs.Tables.{IsTable}
use Rattle.csv_days.specs.Days.{first_tape}
use Rattle.csv_days.specs.TapeRows.{TapeRow, tape_columns, rows_text, tape_fields, tape_rows, tape_text, text_from}
use Rattle.recorded_tapes.specs.Differences.{AreApart, IsDifference}
use Rattle.recorded_tapes.specs.Laws.{TapeRoundTrip, TapesAreRecorded}
use Rattle.recorded_tapes.specs.Verdicts.{AreLines, IsVerdict}
use Rattle.recorded_tapes.specs.declared.difference.Difference.{Difference}
use Rattle.recorded_tapes.specs.declared.verdict.Rows.{Rows}
use Rattle.recorded_tapes.specs.declared.verdict.Verdict.{Verdict}
use Rattle.recorded_tapes.specs.declared.verdict.Verdict.TheVariants.{Recorded, CutOff, Differs}

-- a text has one list of records
pub records-same : (config : Config) (s : State) (text : List ℕ) (one other : List (List (List ℕ)))
    → AreRecords config s text one → AreRecords config s text other → one ≡ other
unfolding Reached
records-same config s text [] [] first second = refl
records-same config s text [] (row ∷ rows) first second =
    let (s2, rest, (at, left), none) = first in
    let (s3, behind, (p, there, is, more), end) = second in
    absurd (never p (sym there ∙ rw (at, left) none))
  where
    never : (p : Read) → Some p ≡ None → ⊥
    never p e = cc
records-same config s text (row ∷ rows) [] first second =
    let (s2, rest, (p, there, is, more), none) = first in
    let (s3, behind, (at, left), end) = second in
    absurd (never p (sym there ∙ rw (at, left) end))
  where
    never : (p : Read) → Some p ≡ None → ⊥
    never p e = cc
records-same config s text (row ∷ rows) (next ∷ others) first second =
    let (s2, rest, (p, there, is, more), none) = first in
    let (s3, behind, (q, here, same, further), end) = second in
    let one : p ≡ q = cc (there, here) in
    let heads : row ≡ next = cc (is, same, one) in
    let behind_one : AreRecords config p.1 p.2 rows = (s2, rest, more, none) in
    let behind_other : AreRecords config q.1 q.2 others = (s3, behind, further, end) in
    let tails : rows ≡ others =
    records-same config q.1 q.2 rows others (subst (λ (r : Read). AreRecords config r.1 r.2 rows) one behind_one) behind_other in
    cc (heads, tails)

-- and so the messages of one table
pub messages-same : (text : List ℕ) (one other : List Message) → IsTable text one → IsTable text other → one ≡ other
messages-same text one other first second =
    let (records, are, none, read) = first in
    let (others, those, nothing, reads) = second in
    let same : records ≡ others = records-same _ _ _ records others are those in
    cc (read, reads, same)

-- ## A readable tape is found to be as recorded

-- the line of a row ends in a line feed
line-ends : (fields : List (List ℕ)) → (front : List ℕ) × (row_text default_writer fields ≡ front ++ 10 ∷ [])
line-ends fields =
    let blank : List ℕ = if is_blank default_writer fields then 34 ∷ 34 ∷ [] else [] in
    (row_body default_writer fields ++ blank, sym (append_assoc (row_body default_writer fields) blank (10 ∷ [])))

-- lines of rows after a line that ends in a line feed end in one
rows-end : (front : List ℕ) (rows : List TapeRow) → (before : List ℕ) × ((front ++ 10 ∷ []) ++ rows_text rows ≡ before ++ 10 ∷ [])
unfolding rows_text
rows-end front [] = (front, append-nil (front ++ 10 ∷ []))
rows-end front (row ∷ rows) =
    let (line, is) = line-ends (tape_fields row) in
    let (before, ends) = rows-end ((front ++ 10 ∷ []) ++ line) rows in (
      before,
      ap (λ (l : List ℕ). (front ++ 10 ∷ []) ++ (l ++ rows_text rows)) is
          ∙ sym (append_assoc (front ++ 10 ∷ []) (line ++ 10 ∷ []) (rows_text rows))
          ∙ ap (λ (l : List ℕ). l ++ rows_text rows) (sym (append_assoc (front ++ 10 ∷ []) line (10 ∷ [])))
          ∙ ends,
    )

-- a readable tape ends in a line feed
text-ends : (t : TapeState) (messages : List Message) → (before : List ℕ) × (text_from t messages ≡ before ++ 10 ∷ [])
unfolding text_from
text-ends t messages =
    let (head, is) = line-ends tape_columns in
    let (before, ends) = rows-end head (tape_rows t messages) in
    (before, ap (λ (l : List ℕ). l ++ rows_text (tape_rows t messages)) is ∙ ends)

-- a rest without a line feed is empty if the text ends in one
cut-none : (front lines cut : List ℕ) → front ++ 10 ∷ [] ≡ lines ++ cut → All (λ byte. byte ≢ 10) cut → cut ≡ []
cut-none front lines [] is none = refl
cut-none front lines (byte ∷ cut) is none =
    let i : ℕ = length front in
    let long : i + 1 ≡ length lines + length (byte ∷ cut) = sym (length_push front 10) ∙ ap length is ∙ length-append lines (byte ∷ cut) in
    let last : get_or (byte ∷ cut) (i - length lines) 0 ≡ 10 =
    sym (get_or-append_right lines (byte ∷ cut) (length lines) i 0 refl (omega (arith, long))) ∙ ap (λ (l : List ℕ). get_or l i 0) (sym is)
    ∙ get_or_push front 10 0 i refl in
    absurd (All-get_or (λ b. b ≢ 10) (byte ∷ cut) (i - length lines) 0 (omega (arith, long)) none last)

-- two texts with a difference are not the same
difference-apart : (stands wanted : List ℕ) (d : Difference) → IsDifference stands wanted d → stands ≢ wanted
difference-apart stands wanted d apart same =
    never apart.left apart.right (append_cancel_left apart.front apart.left apart.right (sym apart.stands_is ∙ same ∙ apart.wanted_is)) apart.apart
  where
    never : (left right : List ℕ) → left ≡ right → AreApart left right → ⊥
    never [] [] e differ = differ
    never [] (b ∷ right) e differ = cc e
    never (a ∷ left) [] e differ = cc e
    never (a ∷ left) (b ∷ right) e differ = differ (cc e)

-- the lines of a readable tape are all of it
lines-whole : (matrix : Matrix) (m : Message) (ms : List Message) (lines cut : List ℕ) → AreLines (tape_text matrix (m ∷ ms)) lines cut
    → (cut ≡ []) × (tape_text matrix (m ∷ ms) ≡ lines)
lines-whole matrix m ms lines cut are =
    let (before, ends) = text-ends (first_tape matrix (m ∷ ms)) (m ∷ ms) in
    let none : cut ≡ [] = cut-none before lines cut (sym ends ∙ are.split) are.unended in
    (none, are.split ∙ ap (λ (l : List ℕ). lines ++ l) none ∙ append-nil lines)

-- each readable tape of one message or more is found to be as recorded
pub tapes_are_recorded : TapeRoundTrip → TapesAreRecorded
tapes_are_recorded back matrix m ms verdict all found = by_verdict verdict found
  where
    text : List ℕ
    text = tape_text matrix (m ∷ ms)

    by_verdict : (verdict : Verdict) → IsVerdict matrix text verdict → (rows : Rows) × (verdict ≡ Recorded rows)
    by_verdict (Recorded rows) found = (rows, refl)
    by_verdict (CutOff rows line) found =
        let (lines, cut, are, some, replay, number) = found in
        absurd (some (lines-whole matrix m ms lines cut are).0)
    by_verdict (Differs difference) found =
        let (lines, cut, are, (messages, table, differs)) = found in
        let whole : text ≡ lines = (lines-whole matrix m ms lines cut are).1 in
        let same : messages ≡ m ∷ ms = messages-same lines messages (m ∷ ms) table (rw whole at (back matrix m ms all)) in
        absurd (difference-apart lines (tape_text matrix messages) difference differs (sym whole ∙ ap (tape_text matrix) (sym same)))
