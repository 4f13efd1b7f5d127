-- The text that tells of a tape's reports, entry by entry and piece by piece.
use Rattle.std.proofs.Common.{◌≡◌, ◌<◌, ◌≤◌, ◌+◌, ◌-◌, ◌∷◌, ◌++◌, ◌∙◌, [], ℕ, Bool, true, false, List, Option, Some, None, suc, if◌then◌else◌}
use Rattle.std.proofs.Common.{ap, append-nil, append_assoc, arith, get_or, is_some, drop, length, refl, slice_get, subst, sym, take, unwrap_or}
use Rattle.std.specs.Io.KnownBytes.{Appends}
use Rattle.std.specs.List.{cons_option, filter_map, flat_map}
use Rattle.std.specs.Option.{option_map}
use Rattle.std.proofs.lemmas.Grind.{flat_map-append}
use Rattle.std.proofs.lemmas.List.{take-append-drop, take_all, take_more}
use Rattle.std.proofs.lemmas.List.Elements.{filter_map-append}
use Rattle.std.proofs.lemmas.Option.{get_or_from_slice_get, same_Some, slice_get-get_or}
use Rattle.sale_matrix.specs.Matrix.{cells_of}
use Rattle.corrections.specs.declared.target.Target.{Target}
use Rattle.reports.specs.Messages.{header_of, reported_content}
use Rattle.whole_io.specs.Lemmas.WriteLemmas.{WritesPrefix-after, WritesPrefix-longer, WritesUpTo-all, WritesUpTo-both, WritesUpTo-longer, WritesUpTo-none, WritesUpTo-whole}
use Rattle.whole_io.specs.Writing.{WritesPrefix, WritesUpTo}
use Rattle.tape_core.specs.Books.{target_of}
use Rattle.tape_core.specs.Lemmas.LegalPrefix.{number-of_position}
use Rattle.tape_core.specs.Reported.{report_at, report_in}
use Rattle.tape_core.specs.Standing.{participant_summary, symbol_summary}
use Rattle.tape_core.specs.Tape.{IsLegal, TapeState, messages_of, numbered_message}
use Rattle.tape_core.specs.declared.entry.Entry.{Entry}
use Rattle.csv_days.specs.Explained.{entry_line, explained, explained_at, explained_entry, explained_head, explained_line, explained_rows, explained_text, explained_to, last_change}
use Rattle.csv_days.specs.declared.explained.Explained.{Explained}

-- ## Lines

-- the text of rows, and of more
explained_text-append : (rows more : List Explained) → explained_text (rows ++ more) ≡ explained_text rows ++ flat_map explained_line more
unfolding explained_text
explained_text-append rows more =
    ap (λ (l : List ℕ). explained_head ++ l) (flat_map-append explained_line rows more)
    ∙ sym (append_assoc explained_head (flat_map explained_line rows) (flat_map explained_line more))

-- the lines of one entry
lines-one : (o : Option Explained) → flat_map explained_line (cons_option o []) ≡ entry_line o
lines-one None = refl
lines-one (Some row) = append-nil (explained_line row)

-- an index below the number of entries has one
entry-at : (es : List Entry) (i : ℕ) → i < length es → (e : Entry) × (slice_get es i ≡ Some e)
entry-at [] i within = absurd (omega (arith, within))
entry-at (e ∷ es) i within = (get_or (e ∷ es) i e, slice_get-get_or (e ∷ es) i e within)

-- the text as far as one entry more
pub explained_to-more : (t : TapeState) (rows : List ℕ) (i : ℕ) → i < length t.entries
    → explained_to t rows (i + 1) ≡ explained_to t rows i ++ entry_line (explained_at t rows i)
explained_to-more t rows i within =
    let found = entry-at t.entries i within in
    some found.0 found.1
    ∙ ap (λ (o : Option Entry). explained_to t rows i ++ entry_line (unwrap_or (option_map (explained_entry t rows) o) None)) (sym found.1)
  where
    some : (e : Entry) → slice_get t.entries i ≡ Some e → explained_to t rows (i + 1) ≡ explained_to t rows i ++ entry_line (explained_entry t rows e)
    some e at =
        let front : List Explained = filter_map (explained_entry t rows) (take i t.entries) in
        let more : take (i + 1) t.entries ≡ take i t.entries ++ e ∷ [] =
        take_more t.entries i e within ∙ ap (λ (x : Entry). take i t.entries ++ x ∷ []) (get_or_from_slice_get t.entries i e e at) in
        ap (λ (l : List Entry). explained_text (filter_map (explained_entry t rows) l)) more
        ∙ ap explained_text (filter_map-append (explained_entry t rows) (take i t.entries) (e ∷ []))
        ∙ explained_text-append front (cons_option (explained_entry t rows e) [])
        ∙ ap (λ (l : List ℕ). explained_text front ++ l) (lines-one (explained_entry t rows e))

-- the text as far as no entry
pub explained_to-none : (t : TapeState) (rows : List ℕ) → explained_to t rows 0 ≡ explained_head
unfolding explained_text
explained_to-none t rows = append-nil explained_head

-- the text as far as all entries
pub explained_to-all : (t : TapeState) (rows : List ℕ) (count : ℕ) → length t.entries ≤ count → explained_to t rows count ≡ explained_text (explained_rows t rows)
explained_to-all t rows count all =
    ap (λ (l : List Entry). explained_text (filter_map (explained_entry t rows) l)) (take_all count t.entries all)

-- one line more is made
pub lines-more : (t : TapeState) (rows : List ℕ) (from i : ℕ) (o : Option Explained) (old new : List ℕ) → i < length t.entries
    → o ≡ explained_at t rows i → explained_to t rows i ≡ explained_to t rows from ++ old → new ≡ old ++ entry_line o
    → explained_to t rows (i + 1) ≡ explained_to t rows from ++ new
lines-more t rows from i o old new within is so_far made =
    explained_to-more t rows i within
    ∙ ap (λ (l : List ℕ). l ++ entry_line (explained_at t rows i)) so_far
    ∙ append_assoc (explained_to t rows from) old (entry_line (explained_at t rows i))
    ∙ ap (λ (x : Option Explained). explained_to t rows from ++ (old ++ entry_line x)) (sym is)
    ∙ ap (λ (l : List ℕ). explained_to t rows from ++ l) (sym made)

-- ## Rows

-- an entry that is read is there
pub entry-there : (t : TapeState) (lent : List Entry) (index : ℕ) (d : Entry) → lent ≡ t.entries → index < length t.entries
    → slice_get t.entries index ≡ Some (get_or lent index d)
entry-there t lent index d is within =
    slice_get-get_or t.entries index d within ∙ ap (λ (l : List Entry). Some (get_or l index d)) (sym is)

-- a report of a legal tape is told as it is now, with the row and the change that are noted at its index
pub explained_at-some : (t : TapeState) (rows : List ℕ) (index : ℕ) (e : Entry) (row : Explained) → IsLegal t → slice_get t.entries index ≡ Some e
    → Some row.report ≡ report_at t index → row.header ≡ header_of e.message → row.row ≡ get_or rows index 0
    → row.changed ≡ last_change (messages_of t.entries) (index + 1) → row.cells ≡ cells_of t.matrix row.report.content.condition
    → row.figures ≡ symbol_summary t.matrix (messages_of t.entries) (header_of e.message).symbol
    → row.own ≡ participant_summary t.matrix (messages_of t.entries) (header_of e.message).symbol (header_of e.message).participant
    → Some row ≡ explained_at t rows index
explained_at-some t rows index e row legal at report header numbered changed cells figures own =
    by (is_some (reported_content e.message)) (report ∙ ap (λ (o : Option Entry). unwrap_or (option_map (report_in t) o) None) at)
    ∙ sym (ap (λ (o : Option Entry). unwrap_or (option_map (explained_entry t rows) o) None) at)
  where
    tape_number : e.number ≡ suc index
    tape_number = number-of_position t index e legal at

    by : (b : Bool) → Some row.report ≡ (if b then Some (target_of (messages_of t.entries) (numbered_message e)) else None)
        → Some row ≡ (if b then Some (explained t rows e) else None)
    by true is =
        let same : row.report ≡ target_of (messages_of t.entries) (numbered_message e) = same_Some row.report _ is in
        let place : index ≡ e.number - 1 = omega (arith, tape_number) in
        let after : index + 1 ≡ e.number = omega (arith, tape_number) in
        λ i. Some (record {
          report = same i;
          header = header i;
          row = (numbered ∙ ap (λ (n : ℕ). get_or rows n 0) place) i;
          changed = (changed ∙ ap (last_change (messages_of t.entries)) after) i;
          cells = (cells ∙ ap (λ (r : Target). cells_of t.matrix r.content.condition) same) i;
          figures = figures i;
          own = own i;
        })
    by false is = absurd cc

-- ## Pieces

-- the whole text begins with that as far as some entries
whole-front : (t : TapeState) (rows : List ℕ) (from : ℕ)
    → explained_text (explained_rows t rows) ≡ explained_to t rows from ++ flat_map explained_line (filter_map (explained_entry t rows) (drop from t.entries))
whole-front t rows from =
    ap (λ (l : List Entry). explained_text (filter_map (explained_entry t rows) l)) (sym (take-append-drop from t.entries))
    ∙ ap explained_text (filter_map-append (explained_entry t rows) (take from t.entries) (drop from t.entries))
    ∙ explained_text-append (filter_map (explained_entry t rows) (take from t.entries)) (filter_map (explained_entry t rows) (drop from t.entries))

-- before the first entry the line of the names waits
pub text-none : (t : TapeState) (rows : List ℕ) (text : List ℕ) (known : Option (List ℕ)) → text ≡ explained_head
    → WritesUpTo (explained_to t rows 0) text known known
text-none t rows text known is = subst (λ (l : List ℕ). WritesUpTo l text known known) (is ∙ sym (explained_to-none t rows)) (WritesUpTo-none text known)

-- the part that waited is written
text-written : (t : TapeState) (rows : List ℕ) (from : ℕ) (text : List ℕ) (old now new : Option (List ℕ)) → Appends now new text
    → WritesUpTo (explained_to t rows from) text old now → WritesUpTo (explained_to t rows from) [] old new
text-written t rows from text old now new written so_far =
    WritesUpTo-both (explained_to t rows from) text [] old now new so_far (WritesUpTo-whole text now new written)

-- the part that waited is written, and the next lines wait
pub text-next : (t : TapeState) (rows : List ℕ) (from to : ℕ) (text lines : List ℕ) (old now new : Option (List ℕ))
    → explained_to t rows to ≡ explained_to t rows from ++ lines → Appends now new text
    → WritesUpTo (explained_to t rows from) text old now → WritesUpTo (explained_to t rows to) lines old new
text-next t rows from to text lines old now new longer written so_far =
    subst (λ (l : List ℕ). WritesUpTo l lines old new) (sym longer)
    (WritesUpTo-longer (explained_to t rows from) [] lines old new (text-written t rows from text old now new written so_far))

-- the part that waited is written in part
pub text-fault : (t : TapeState) (rows : List ℕ) (from : ℕ) (text : List ℕ) (old now new : Option (List ℕ)) → WritesPrefix text now new
    → WritesUpTo (explained_to t rows from) text old now → WritesPrefix (explained_text (explained_rows t rows)) old new
text-fault t rows from text old now new prefix so_far =
    subst (λ (l : List ℕ). WritesPrefix l old new) (sym (whole-front t rows from))
    (WritesPrefix-longer (explained_to t rows from) (flat_map explained_line (filter_map (explained_entry t rows) (drop from t.entries))) old new
    (WritesPrefix-after (explained_to t rows from) text old now new so_far prefix))

-- the last part is written
pub text-whole : (t : TapeState) (rows : List ℕ) (from : ℕ) (text : List ℕ) (old now new : Option (List ℕ)) → length t.entries ≤ from
    → Appends now new text → WritesUpTo (explained_to t rows from) text old now → Appends old new (explained_text (explained_rows t rows))
text-whole t rows from text old now new all written so_far =
    subst (λ (l : List ℕ). Appends old new l) (explained_to-all t rows from all)
    (WritesUpTo-all (explained_to t rows from) old new (text-written t rows from text old now new written so_far))
