-- The rows that tell of a tape's reports: whose they are, which figures they set, and that each figure has one.
use Rattle.std.proofs.Common.{◌≡◌, ◌≢◌, ◌<◌, ◌+◌, ◌==◌, ◌&&◌, ◌∷◌, ◌++◌, ◌∙◌, [], ℕ, Bool, true, false, cond, not, List, Option, Some, None, IfSome, if◌then◌else◌}
use Rattle.std.proofs.Common.{inl, inr, ap, arith, drop, eq-eqb, filter, fold, get_or, is_none, is_some, length, map, refl, slice_get, subst, sym, take, true≢false, unwrap_or}
use Rattle.std.specs.List.{All, cons_option, filter_map}
use Rattle.std.specs.Option.{option_map}
use Rattle.std.proofs.lemmas.Bool.{ne_eqb}
use Rattle.std.proofs.lemmas.Bool.Decides.{nat_tests}
use Rattle.std.proofs.lemmas.List.{drop_more, get_or-drop, get_or-take, length-drop, length-take, take-append-drop}
use Rattle.std.proofs.lemmas.List.Elements.{All-cons, All-filter, All-head, All-map, All-nil, All-tail, filter-append, filter_map-append}
use Rattle.std.proofs.lemmas.Option.{get_or_from_slice_get, slice_get-get_or, slice_get_within}
use Rattle.std.proofs.lemmas.Slice.Eq.{bytes_eq-Decides}
use Rattle.tape_types.specs.Names.{symbol_eq}
use Rattle.sale_matrix.specs.declared.content.Content.{Content}
use Rattle.sale_matrix.specs.declared.matrix.Matrix.{Matrix}
use Rattle.reports.specs.Messages.{header_of, reported_content}
use Rattle.reports.specs.declared.message.Header.{Header}
use Rattle.reports.specs.declared.message.Message.{Message}
use Rattle.scratch_fold.specs.Fold.{PlacedEffect, becomes_last, empty_summary, is_higher, is_lower, mark_of, step, summary_of}
use Rattle.scratch_fold.specs.declared.summary.Mark.{Mark}
use Rattle.scratch_fold.specs.declared.summary.Summary.{Summary}
use Rattle.corrections.specs.declared.target.Standing.TheVariants.{Standing, Cancelled}
use Rattle.tape_core.specs.Books.{latest_content, no_content}
use Rattle.tape_core.specs.Lemmas.LegalNext.{IsLegal-with_message}
use Rattle.tape_core.specs.Lemmas.LegalPrefix.{number-of_position}
use Rattle.tape_core.specs.Standing.{NumberedMessage, StandingReport, is_cancelled, participant_summary, placed_consolidated, placed_participant}
use Rattle.tape_core.specs.Standing.{standing_content, standing_report, standing_reports, symbol_summary}
use Rattle.tape_core.specs.Tape.{IsLegal, TapeState, messages_of, numbered_message, refusal}
use Rattle.tape_core.specs.declared.entry.Entry.{Entry}
use Rattle.tape_core.specs.declared.refusal.Refusal.{Refusal}
use Rattle.tape_core.specs.Answers.{tape_after, tape_by}
use Rattle.csv_days.specs.Days.{first_tape, tape_of}
use Rattle.csv_days.specs.Explained.{explained, explained_entry, explained_rows, is_set_at, rows_of, set_words, sets_text}
use Rattle.csv_days.specs.ExplainedLaws.{CancelledSetNothing, HasOneRow, IsFigure, RowsOfFigures, RowsOfOwnFigures, RowsOfReports, is_report_of, is_row_of, message_name, row_name}
use Rattle.csv_days.specs.declared.explained.Explained.{Explained}

-- ## Lists

-- what holds of all that elements give, if it holds of what each gives
All-filter_map : {X Y : Type 0} (h : X → Option Y) (P : Y → Type 0) (xs : List X) → All (λ x. IfSome (h x) P) xs → All P (filter_map h xs)
All-filter_map h P [] all = All-nil P
All-filter_map {Y = Y} h P (x ∷ xs) all = by (h x) (All-head (λ z. IfSome (h z) P) x xs all) (All-filter_map h P xs (All-tail (λ z. IfSome (h z) P) x xs all))
  where
    by : (o : Option Y) → IfSome o P → All P (filter_map h xs) → All P (cons_option o (filter_map h xs))
    by None some rest = rest
    by (Some y) some rest = All-cons P y (filter_map h xs) some rest

-- nothing is kept of what fails
none_kept : {X Y : Type 0} (h : X → Option Y) (p : Y → Bool) (xs : List X) → All (λ x. IfSome (h x) (λ y. p y ≡ false)) xs
    → filter p (filter_map h xs) ≡ []
none_kept h p [] all = refl
none_kept {Y = Y} h p (x ∷ xs) all =
    by (h x) (All-head (λ z. IfSome (h z) (λ y. p y ≡ false)) x xs all) (none_kept h p xs (All-tail (λ z. IfSome (h z) (λ y. p y ≡ false)) x xs all))
  where
    by : (o : Option Y) → IfSome o (λ y. p y ≡ false) → filter p (filter_map h xs) ≡ [] → filter p (cons_option o (filter_map h xs)) ≡ []
    by None some rest = rest
    by (Some y) fails rest = ap (λ (b : Bool). cond b (y ∷ filter p (filter_map h xs)) (filter p (filter_map h xs))) fails ∙ rest

-- if one element alone gives what passes, that alone is kept
one_kept : {X Y : Type 0} (h : X → Option Y) (p : Y → Bool) (xs : List X) (k : ℕ) (x : X) (y : Y) → slice_get xs k ≡ Some x → h x ≡ Some y → p y ≡ true
    → ((j : ℕ) (z : X) → slice_get xs j ≡ Some z → j ≢ k → IfSome (h z) (λ v. p v ≡ false)) → filter p (filter_map h xs) ≡ y ∷ []
one_kept {X = X} {Y = Y} h p xs k x y at gives passes others =
    let within : k < length xs = slice_get_within xs k x at in
    let here : drop k xs ≡ x ∷ drop (k + 1) xs =
    drop_more xs k x within ∙ ap (λ (z : X). z ∷ drop (k + 1) xs) (get_or_from_slice_get xs k x x at) in
    let split : xs ≡ take k xs ++ x ∷ drop (k + 1) xs = sym (take-append-drop k xs) ∙ ap (λ (l : List X). take k xs ++ l) here in
    let front : filter p (filter_map h (take k xs)) ≡ [] = none_kept h p (take k xs) (λ j d inside.
    let below : j < k = omega (arith, inside, length-take k xs) in
    let there : j < length xs = omega (arith, below, within) in
    subst (λ (z : X). IfSome (h z) (λ v. p v ≡ false)) (sym (get_or-take k xs j d below))
    (others j (get_or xs j d) (slice_get-get_or xs j d there) (omega (arith, below)))) in
    let behind : filter p (filter_map h (drop (k + 1) xs)) ≡ [] = none_kept h p (drop (k + 1) xs) (λ j d inside.
    let there : k + 1 + j < length xs = omega (arith, inside, length-drop (k + 1) xs) in
    subst (λ (z : X). IfSome (h z) (λ v. p v ≡ false)) (sym (get_or-drop (k + 1) xs j d))
    (others (k + 1 + j) (get_or xs (k + 1 + j) d) (slice_get-get_or xs (k + 1 + j) d there) (omega arith))) in
    ap (λ (l : List X). filter p (filter_map h l)) split
    ∙ ap (filter p) (filter_map-append h (take k xs) (x ∷ drop (k + 1) xs))
    ∙ filter-append p (filter_map h (take k xs)) (cons_option (h x) (filter_map h (drop (k + 1) xs)))
    ∙ ap (λ (l : List Y). l ++ filter p (cons_option (h x) (filter_map h (drop (k + 1) xs)))) front
    ∙ ap (λ (o : Option Y). filter p (cons_option o (filter_map h (drop (k + 1) xs)))) gives
    ∙ ap (λ (b : Bool). cond b (y ∷ filter p (filter_map h (drop (k + 1) xs))) (filter p (filter_map h (drop (k + 1) xs)))) passes
    ∙ ap (λ (l : List Y). y ∷ l) behind

-- ## Tapes

-- a legal tape stays one after a message
legal-after : (t : TapeState) (m : Message) → IsLegal t → IsLegal (tape_after t m)
unfolding tape_after
legal-after t m legal = cases (refusal t m) refl
  where
    cases : (o : Option Refusal) → refusal t m ≡ o → IsLegal (tape_by t m o)
    cases None none = IsLegal-with_message t m legal none
    cases (Some refused) is = legal

-- and after many
legal-kept : (t : TapeState) (messages : List Message) → IsLegal t → IsLegal (fold tape_after t messages)
legal-kept t [] legal = legal
legal-kept t (m ∷ messages) legal = legal-kept (tape_after t m) messages (legal-after t m legal)

-- so a table's tape is legal
legal_tape : (matrix : Matrix) (messages : List Message) → IsLegal (tape_of matrix messages)
legal_tape matrix messages = legal-kept (first_tape matrix messages) messages (λ k e at. absurd cc)

-- ## Reports

-- the rows of a symbol have the names of its reports
names-same : (t : TapeState) (rows symbol : List ℕ) (es : List Entry)
    → map row_name (filter (is_row_of symbol) (filter_map (explained_entry t rows) es)) ≡ map message_name (filter (is_report_of symbol) (messages_of es))
names-same t rows symbol [] = refl
names-same t rows symbol (e ∷ es) = by (is_some (reported_content e.message)) (names-same t rows symbol es)
  where
    pick : (of_symbol : Bool)
        → map row_name (filter (is_row_of symbol) (filter_map (explained_entry t rows) es)) ≡ map message_name (filter (is_report_of symbol) (messages_of es))
        → map row_name (cond of_symbol (explained t rows e ∷ filter (is_row_of symbol) (filter_map (explained_entry t rows) es))
        (filter (is_row_of symbol) (filter_map (explained_entry t rows) es)))
        ≡ map message_name (cond of_symbol (numbered_message e ∷ filter (is_report_of symbol) (messages_of es)) (filter (is_report_of symbol) (messages_of es)))
    pick true rest = ap (λ (l : List (ℕ × Header)). message_name (numbered_message e) ∷ l) rest
    pick false rest = rest

    by : (reported : Bool)
        → map row_name (filter (is_row_of symbol) (filter_map (explained_entry t rows) es)) ≡ map message_name (filter (is_report_of symbol) (messages_of es))
        → map row_name (filter (is_row_of symbol) (cons_option (if reported then Some (explained t rows e) else None) (filter_map (explained_entry t rows) es)))
        ≡ map message_name (cond (reported && symbol_eq (header_of e.message).symbol symbol) (numbered_message e ∷ filter (is_report_of symbol) (messages_of es))
        (filter (is_report_of symbol) (messages_of es)))
    by true rest = pick (symbol_eq (header_of e.message).symbol symbol) rest
    by false rest = rest

-- the rows of a symbol are its reports that the tape admitted, each once, by rising place
pub rows_of_reports : RowsOfReports
rows_of_reports matrix messages symbol = names-same (tape_of matrix messages) (rows_of matrix messages) symbol (tape_of matrix messages).entries

-- ## Figures

-- this holds of each figure of a summary
record HoldOfFigures (P : Mark → Type 0) (z : Summary) : Type 0 where
  opening : IfSome z.opening P
  high : IfSome z.high P
  low : IfSome z.low P
  last : IfSome z.last P

-- a figure stays, or becomes the mark of the report
figure-after : (P : Mark → Type 0) (counts : Bool) (r : PlacedEffect) (figure : Option Mark) → P (mark_of r) → IfSome figure P
    → IfSome (if counts then Some (mark_of r) else figure) P
figure-after P true r figure here before = here
figure-after P false r figure here before = before

-- what holds of the mark of each report holds of each figure of a fold
folded-figures : (P : Mark → Type 0) (reports : List PlacedEffect) (z : Summary) → All (λ r. P (mark_of r)) reports → HoldOfFigures P z
    → HoldOfFigures P (fold step z reports)
folded-figures P [] z all before = before
folded-figures P (r ∷ reports) z all before =
    let here : P (mark_of r) = All-head (λ (x : PlacedEffect). P (mark_of x)) r reports all in
    folded-figures P reports (step z r) (All-tail (λ (x : PlacedEffect). P (mark_of x)) r reports all) (record {
      opening = figure-after P (becomes_last r.1.last r.1.who z.last && is_none z.last) r z.opening here before.opening;
      high = figure-after P (r.1.high_low && is_higher r.1.price z.high) r z.high here before.high;
      low = figure-after P (r.1.high_low && is_lower r.1.price z.low) r z.low here before.low;
      last = figure-after P (becomes_last r.1.last r.1.who z.last) r z.last here before.last;
    })

-- and of each figure of their summary
summary-figures : (P : Mark → Type 0) (reports : List PlacedEffect) → All (λ r. P (mark_of r)) reports → HoldOfFigures P (summary_of reports)
summary-figures P reports all = folded-figures P reports empty_summary all (record { opening = tt; high = tt; low = tt; last = tt })

-- a report of the symbol stands at this place of the tape, from this participant and with this price
record Stands (t : TapeState) (symbol : List ℕ) (place who price : ℕ) : Type 0 where
  index : ℕ
  entry : Entry
  at : slice_get t.entries index ≡ Some entry
  reported : is_some (reported_content entry.message) ≡ true
  of_symbol : symbol_eq (header_of entry.message).symbol symbol ≡ true
  standing : is_cancelled (messages_of t.entries) entry.number ≡ false
  placed : place ≡ entry.number
  sent : who ≡ (header_of entry.message).participant
  priced : price ≡ (latest_content (messages_of t.entries) entry.number).price

-- the report that a mark tells of stands
abbrev MarkStands : TapeState → List ℕ → Mark → Type 0
MarkStands t symbol mark = Stands t symbol mark.place mark.who mark.price

-- a report that stands
abbrev ReportStands : TapeState → List ℕ → StandingReport → Type 0
ReportStands t symbol r = Stands t symbol r.place r.who r.content.price

-- an entry stands as the report that it is, if it does
entry-stands : (t : TapeState) (symbol : List ℕ) (k : ℕ) (e : Entry) → slice_get t.entries k ≡ Some e
    → IfSome (standing_report (messages_of t.entries) symbol (numbered_message e)) (ReportStands t symbol)
entry-stands t symbol k e at =
    by (is_some (reported_content e.message)) refl (symbol_eq (header_of e.message).symbol symbol) refl (is_cancelled (messages_of t.entries) e.number) refl
    (standing_content (messages_of t.entries) e.number) refl
  where
    by : (reported : Bool) → is_some (reported_content e.message) ≡ reported
        → (of_symbol : Bool) → symbol_eq (header_of e.message).symbol symbol ≡ of_symbol
        → (gone : Bool) → is_cancelled (messages_of t.entries) e.number ≡ gone
        → (o : Option Content) → standing_content (messages_of t.entries) e.number ≡ o
        → IfSome (if reported && (of_symbol && not gone)
        then option_map {U = StandingReport} (λ now. record { place = e.number; who = (header_of e.message).participant; content = now }) o else None)
        (ReportStands t symbol)
    by true is true of false stands (Some content) latest = record {
      index = k;
      entry = e;
      at = at;
      reported = is;
      of_symbol = of;
      standing = stands;
      placed = refl;
      sent = refl;
      priced = ap (λ (o : Option Content). (unwrap_or o no_content).price) (sym latest);
    }
    by true is true of false stands None latest = tt
    by true is true of true gone o latest = tt
    by true is false of gone is_gone o latest = tt
    by false is of_symbol of gone is_gone o latest = tt

-- so each report that stands does
reports-stand : (t : TapeState) (symbol : List ℕ) → All (ReportStands t symbol) (standing_reports (messages_of t.entries) symbol)
reports-stand t symbol =
    let one : NumberedMessage → Type 0 = λ n. IfSome (standing_report (messages_of t.entries) symbol n) (ReportStands t symbol) in
    All-filter_map (standing_report (messages_of t.entries) symbol) (ReportStands t symbol) (messages_of t.entries)
    (All-map one numbered_message t.entries
    (λ k d within. entry-stands t symbol k (get_or t.entries k d) (slice_get-get_or t.entries k d within)))

-- the reports of a symbol's figures stand
symbol-figures : (matrix : Matrix) (t : TapeState) (symbol : List ℕ)
    → HoldOfFigures (MarkStands t symbol) (symbol_summary matrix (messages_of t.entries) symbol)
symbol-figures matrix t symbol =
    let reports : List StandingReport = standing_reports (messages_of t.entries) symbol in
    summary-figures (MarkStands t symbol) (map (placed_consolidated matrix) reports)
    (All-map (λ (r : PlacedEffect). MarkStands t symbol (mark_of r)) (placed_consolidated matrix) reports (reports-stand t symbol))

-- and so do those of a participant's figures in it
own-figures : (matrix : Matrix) (t : TapeState) (symbol : List ℕ) (who : ℕ)
    → HoldOfFigures (MarkStands t symbol) (participant_summary matrix (messages_of t.entries) symbol who)
own-figures matrix t symbol who =
    let reports : List StandingReport = standing_reports (messages_of t.entries) symbol in
    let mine : List StandingReport = filter (λ r. r.who == who) reports in
    summary-figures (MarkStands t symbol) (map (placed_participant matrix) mine)
    (All-map (λ (r : PlacedEffect). MarkStands t symbol (mark_of r)) (placed_participant matrix) mine
    (All-filter (λ (r : StandingReport). r.who == who) (ReportStands t symbol) reports (reports-stand t symbol)))

-- a mark that is a figure
figure-holds : (P : Mark → Type 0) (z : Summary) (mark : Mark) → HoldOfFigures P z → IsFigure mark z → P mark
figure-holds P z mark all (inl is) = subst (λ (o : Option Mark). IfSome o P) is all.opening
figure-holds P z mark all (inr (inl is)) = subst (λ (o : Option Mark). IfSome o P) is all.high
figure-holds P z mark all (inr (inr (inl is))) = subst (λ (o : Option Mark). IfSome o P) is all.low
figure-holds P z mark all (inr (inr (inr is))) = subst (λ (o : Option Mark). IfSome o P) is all.last

-- ## Rows of figures

module _ (t : TapeState) (legal : IsLegal t) (rows symbol : List ℕ) (mark : Mark) (stands : MarkStands t symbol mark) where
  -- the row of the mark's report
  abbrev its_row : Explained
  its_row = explained t rows stands.entry

  -- no other row is at its place
  other-place : (j : ℕ) (e : Entry) → slice_get t.entries j ≡ Some e → j ≢ stands.index
      → IfSome (explained_entry t rows e) (λ r. (r.report.place == mark.place) ≡ false)
  other-place j e at other = by (is_some (reported_content e.message))
    where
      apart : e.number ≢ mark.place
      apart same =
          other (omega (arith, same, stands.placed, number-of_position t j e legal at, number-of_position t stands.index stands.entry legal stands.at))

      by : (reported : Bool) → IfSome (if reported then Some (explained t rows e) else None) (λ r. (r.report.place == mark.place) ≡ false)
      by true = ne_eqb e.number mark.place apart
      by false = tt

  -- so the mark has exactly one row
  has_one_row : HasOneRow (explained_rows t rows) symbol mark
  has_one_row = (
    its_row,
    one_kept (explained_entry t rows) (λ r. r.report.place == mark.place) t.entries stands.index stands.entry its_row stands.at
        (ap (λ (b : Bool). if b then Some its_row else None) stands.reported) (eq-eqb stands.entry.number mark.place (sym stands.placed)) other-place,
    record {
      of_symbol = (bytes_eq-Decides (header_of stands.entry.message).symbol symbol).0 stands.of_symbol;
      place = sym stands.placed;
      who = sym stands.sent;
      price = sym stands.priced;
      stands = ap (λ (b : Bool). if b then Cancelled else Standing) stands.standing;
    },
  )

-- each figure of a symbol has exactly one row
pub rows_of_figures : RowsOfFigures
rows_of_figures matrix messages symbol mark figure =
    let t : TapeState = tape_of matrix messages in
    has_one_row t (legal_tape matrix messages) (rows_of matrix messages) symbol mark
    (figure-holds (MarkStands t symbol) (symbol_summary matrix (messages_of t.entries) symbol) mark (symbol-figures matrix t symbol) figure)

-- and so has each figure of a participant in it
pub rows_of_own_figures : RowsOfOwnFigures
rows_of_own_figures matrix messages symbol who mark figure =
    let t : TapeState = tape_of matrix messages in
    has_one_row t (legal_tape matrix messages) (rows_of matrix messages) symbol mark
    (figure-holds (MarkStands t symbol) (participant_summary matrix (messages_of t.entries) symbol who) mark (own-figures matrix t symbol who) figure)

-- ## Cancelled reports

-- a cancelled report is no figure
not-set : (t : TapeState) (symbol : List ℕ) (place : ℕ) (figure : Option Mark) → is_cancelled (messages_of t.entries) place ≡ true
    → IfSome figure (MarkStands t symbol) → is_set_at place figure ≡ false
not-set t symbol place None gone stands = refl
not-set t symbol place (Some mark) gone stands = by (mark.place == place) refl
  where
    by : (b : Bool) → (mark.place == place) ≡ b → b ≡ false
    by true same =
        let at : mark.place ≡ place = grind (arith, nat_tests) in
        absurd (true≢false (sym gone ∙ ap (is_cancelled (messages_of t.entries)) (sym at ∙ stands.placed) ∙ stands.standing))
    by false other = refl

-- so it sets nothing
sets-nothing : (t : TapeState) (symbol : List ℕ) (place : ℕ) (z : Summary) → is_cancelled (messages_of t.entries) place ≡ true
    → HoldOfFigures (MarkStands t symbol) z → sets_text place z ≡ []
sets-nothing t symbol place z gone all =
    λ i. set_words (not-set t symbol place z.opening gone all.opening i) (not-set t symbol place z.high gone all.high i)
    (not-set t symbol place z.low gone all.low i) (not-set t symbol place z.last gone all.last i)

-- a report that does not stand is cancelled
is-gone : (gone : Bool) → (if gone then Cancelled else Standing) ≡ Cancelled → gone ≡ true
is-gone true is = refl
is-gone false is = absurd cc

-- what is told of a report sets nothing if that is cancelled
abbrev SetsNothing : Explained → Type 0
SetsNothing row = row.report.standing ≡ Cancelled → (sets_text row.report.place row.figures ≡ []) × (sets_text row.report.place row.own ≡ [])

-- so an entry that is a cancelled report sets nothing
entry-nothing : (t : TapeState) (rows : List ℕ) (e : Entry) → IfSome (explained_entry t rows e) SetsNothing
entry-nothing t rows e = by (is_some (reported_content e.message))
  where
    by : (reported : Bool) → IfSome (if reported then Some (explained t rows e) else None) SetsNothing
    by true = λ is.
        let gone = is-gone (is_cancelled (messages_of t.entries) e.number) is in
        let symbol = (header_of e.message).symbol in
        let who = (header_of e.message).participant in (
          sets-nothing t symbol e.number (symbol_summary t.matrix (messages_of t.entries) symbol) gone (symbol-figures t.matrix t symbol),
          sets-nothing t symbol e.number (participant_summary t.matrix (messages_of t.entries) symbol who) gone (own-figures t.matrix t symbol who),
        )
    by false = tt

-- a cancelled report sets nothing
pub cancelled_set_nothing : CancelledSetNothing
cancelled_set_nothing matrix messages =
    let t : TapeState = tape_of matrix messages in
    let rows : List ℕ = rows_of matrix messages in
    All-filter_map (explained_entry t rows) SetsNothing t.entries (λ k d within. entry-nothing t rows (get_or t.entries k d))
