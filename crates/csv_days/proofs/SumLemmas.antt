-- The rows of a symbol add up to its volume and its trades.
use Rattle.std.proofs.Common.{◌≡◌, ◌<◌, ◌+◌, ◌==◌, ◌&&◌, ◌∷◌, ◌++◌, ◌∙◌, [], ℕ, Bool, true, false, cond, not, List, Option, Some, None, IsSome, if◌then◌else◌}
use Rattle.std.proofs.Common.{ap, arith, drop, filter, fold, is_some, length, map, refl, slice_get, subst, sym, take, unwrap_or}
use Rattle.std.specs.List.{All, cons_option, filter_map, last_or}
use Rattle.std.specs.Option.{option_map}
use Rattle.std.proofs.lemmas.Bool.Decides.{nat_tests}
use Rattle.std.proofs.lemmas.List.{drop_more, map-append, take-append-drop}
use Rattle.std.proofs.lemmas.List.Elements.{All-head, All-tail}
use Rattle.std.proofs.lemmas.Option.{get_or_from_slice_get, slice_get-get_or, slice_get_within}
use Rattle.tape_types.specs.Names.{symbol_eq}
use Rattle.sale_matrix.specs.Matrix.{cells_of}
use Rattle.sale_matrix.specs.declared.content.Content.{Content}
use Rattle.sale_matrix.specs.declared.matrix.Cells.{Cells}
use Rattle.sale_matrix.specs.declared.matrix.Matrix.{Matrix}
use Rattle.reports.specs.Messages.{header_of, reported_content}
use Rattle.reports.specs.declared.message.Message.{Message}
use Rattle.reports.specs.declared.message.Message.TheVariants.{Report, Cancel, Correct, Reinstate}
use Rattle.scratch_fold.specs.Fold.{PlacedEffect, empty_summary, step}
use Rattle.scratch_fold.specs.declared.summary.Summary.{Summary}
use Rattle.corrections.specs.declared.target.Standing.{Standing as State}
use Rattle.corrections.specs.declared.target.Standing.TheVariants.{Standing, Cancelled}
use Rattle.tape_core.specs.Books.{no_content}
use Rattle.tape_core.specs.Standing.{NumberedMessage, StandingReport, content_from, is_cancelled, placed_consolidated, standing_content, standing_report}
use Rattle.tape_core.specs.Tape.{TapeState, messages_of, numbered_message}
use Rattle.tape_core.specs.declared.entry.Entry.{Entry}
use Rattle.csv_days.specs.Days.{first_tape, tape_of}
use Rattle.csv_days.specs.Explained.{explained, explained_entry, rows_of}
use Rattle.csv_days.specs.ExplainedLaws.{AddUp, RowsAddUp, counted_shares, is_row_of, is_standing}
use Rattle.csv_days.specs.declared.explained.Explained.{Explained}
use Rattle.csv_days.proofs.EntryLemmas.{matrix-kept}

-- ## Folds

-- the shares that a report adds to a volume
abbrev shares_of : PlacedEffect → ℕ
shares_of r = if r.1.volume then r.1.size else 0

-- a fold's volume is a sum
folded-volume : (reports : List PlacedEffect) (z : Summary) → (fold step z reports).volume ≡ fold (λ a r. a + shares_of r) z.volume reports
folded-volume [] z = refl
folded-volume (r ∷ reports) z = folded-volume reports (step z r)

-- and so are its trades
folded-trades : (reports : List PlacedEffect) (z : Summary) → (fold step z reports).trades ≡ fold (λ a r. a + 1) z.trades reports
folded-trades [] z = refl
folded-trades (r ∷ reports) z = folded-trades reports (step z r)

-- ## Contents

-- with one given to start from, there is a last one
last_or-some : {X : Type 0} (o : Option X) (xs : List X) → IsSome o → IsSome (last_or o xs)
last_or-some o [] some = some
last_or-some o (x ∷ xs) some = last_or-some (Some x) xs refl

-- if one of a list gives something, there is a last thing given
last-given : {X Y : Type 0} (h : X → Option Y) (x : X) (o : Option Y) (front behind : List X) → IsSome (h x)
    → IsSome (last_or o (filter_map h (front ++ x ∷ behind)))
last-given {Y = Y} h x o [] behind some = by (h x) some
  where
    by : (given : Option Y) → IsSome given → IsSome (last_or o (cons_option given (filter_map h behind)))
    by None some = absurd cc
    by (Some y) some = last_or-some (Some y) (filter_map h behind) refl
last-given {Y = Y} h x o (z ∷ front) behind some = by (h z) (λ before. last-given h x before front behind some)
  where
    by : (given : Option Y) → ((before : Option Y) → IsSome (last_or before (filter_map h (front ++ x ∷ behind))))
        → IsSome (last_or o (cons_option given (filter_map h (front ++ x ∷ behind))))
    by None rest = rest o
    by (Some y) rest = rest (Some y)

-- a report gives its own place a content
own_content : (tape : List NumberedMessage) (number : ℕ) (m : Message) → is_some (reported_content m) ≡ true → IsSome (content_from tape number (number, m))
own_content tape number (Report header content) is =
    let here : (number == number) ≡ true = grind (arith, nat_tests) in
    ap (λ (b : Bool). is_some (if b then Some content else None)) here
own_content tape number (Cancel header target) is = absurd cc
own_content tape number (Correct header target content) is = absurd cc
own_content tape number (Reinstate header target) is = absurd cc

-- so a report of a tape has a content
content-there : (t : TapeState) (k : ℕ) (e : Entry) → slice_get t.entries k ≡ Some e → is_some (reported_content e.message) ≡ true
    → IsSome (standing_content (messages_of t.entries) e.number)
content-there t k e at is =
    let tape : List NumberedMessage = messages_of t.entries in
    let within : k < length t.entries = slice_get_within t.entries k e at in
    let here : drop k t.entries ≡ e ∷ drop (k + 1) t.entries =
    drop_more t.entries k e within ∙ ap (λ (x : Entry). x ∷ drop (k + 1) t.entries) (get_or_from_slice_get t.entries k e e at) in
    let split : messages_of t.entries ≡ messages_of (take k t.entries) ++ numbered_message e ∷ messages_of (drop (k + 1) t.entries) =
    ap messages_of (sym (take-append-drop k t.entries))
    ∙ map-append numbered_message (take k t.entries) (drop k t.entries)
    ∙ ap (λ (l : List Entry). messages_of (take k t.entries) ++ messages_of l) here in
    subst (λ (l : List NumberedMessage). IsSome (last_or None (filter_map (content_from tape e.number) l))) (sym split)
    (last-given (content_from tape e.number) (numbered_message e) None (messages_of (take k t.entries)) (messages_of (drop (k + 1) t.entries))
    (own_content tape e.number e.message is))

-- ## Rows

-- what a report that stands adds to a sum
abbrev with_report : (PlacedEffect → ℕ) → Matrix → ℕ → Option StandingReport → ℕ
with_report weight matrix a None = a
with_report weight matrix a (Some r) = a + weight (placed_consolidated matrix r)

-- what a row of the symbol adds to a sum
abbrev with_row : (Explained → ℕ) → List ℕ → ℕ → Option Explained → ℕ
with_row weight symbol a None = a
with_row weight symbol a (Some row) = if is_row_of symbol row then a + weight row else a

module _ (t : TapeState) (rows symbol : List ℕ) (report_weight : PlacedEffect → ℕ) (row_weight : Explained → ℕ)
    (gone_weighs : (row : Explained) → row.report.standing ≡ Cancelled → row_weight row ≡ 0)
    (standing_weighs : (row : Explained) (r : StandingReport) → row.report.standing ≡ Standing
    → row.cells ≡ cells_of t.matrix row.report.content.condition → row.report.content ≡ r.content
    → row_weight row ≡ report_weight (placed_consolidated t.matrix r)) where
  -- an entry adds as a row what it adds as a report
  entry-weighs : (a k : ℕ) (e : Entry) → slice_get t.entries k ≡ Some e
      → with_report report_weight t.matrix a (standing_report (messages_of t.entries) symbol (numbered_message e))
      ≡ with_row row_weight symbol a (explained_entry t rows e)
  entry-weighs a k e at =
      by (is_some (reported_content e.message)) refl (symbol_eq (header_of e.message).symbol symbol) refl (is_cancelled (messages_of t.entries) e.number) refl
      (standing_content (messages_of t.entries) e.number) refl
    where
      by : (reported : Bool) → is_some (reported_content e.message) ≡ reported
          → (of_symbol : Bool) → symbol_eq (header_of e.message).symbol symbol ≡ of_symbol
          → (gone : Bool) → is_cancelled (messages_of t.entries) e.number ≡ gone
          → (o : Option Content) → standing_content (messages_of t.entries) e.number ≡ o
          → with_report report_weight t.matrix a (if reported && (of_symbol && not gone)
          then option_map {U = StandingReport} (λ now. record { place = e.number; who = (header_of e.message).participant; content = now }) o else None)
          ≡ with_row row_weight symbol a (if reported then Some (explained t rows e) else None)
      by false is of_symbol of gone is_gone o latest = refl
      by true is false of gone is_gone o latest = sym (ap (λ (b : Bool). if b then a + row_weight (explained t rows e) else a) of)
      by true is true of true gone o latest =
          let none : row_weight (explained t rows e) ≡ 0 =
          gone_weighs (explained t rows e) (ap (λ (b : Bool). if b then Cancelled else Standing) gone) in
          let same : a ≡ a + row_weight (explained t rows e) = omega (arith, none) in
          same ∙ sym (ap (λ (b : Bool). if b then a + row_weight (explained t rows e) else a) of)
      by true is true of false stands (Some content) latest =
          let r : StandingReport = record { place = e.number; who = (header_of e.message).participant; content = content } in
          let weighs : row_weight (explained t rows e) ≡ report_weight (placed_consolidated t.matrix r) =
          standing_weighs (explained t rows e) r (ap (λ (b : Bool). if b then Cancelled else Standing) stands) refl
          (ap (λ (x : Option Content). unwrap_or x no_content) latest) in
          ap (λ (n : ℕ). a + n) (sym weighs) ∙ sym (ap (λ (b : Bool). if b then a + row_weight (explained t rows e) else a) of)
      by true is true of false stands None latest =
          absurd (let some : IsSome (standing_content (messages_of t.entries) e.number) = content-there t k e at is in cc)

  -- so all entries add as rows what they add as reports
  entries-weigh : (es : List Entry) (a : ℕ) → All (λ e. (k : ℕ) × (slice_get t.entries k ≡ Some e)) es
      → fold (λ b r. b + report_weight r) a (map (placed_consolidated t.matrix) (filter_map (standing_report (messages_of t.entries) symbol) (messages_of es)))
      ≡ fold (λ b row. b + row_weight row) a (filter (is_row_of symbol) (filter_map (explained_entry t rows) es))
  entries-weigh [] a there = refl
  entries-weigh (e ∷ es) a there =
      let here = All-head (λ (x : Entry). (k : ℕ) × (slice_get t.entries k ≡ Some x)) e es there in
      let later = All-tail (λ (x : Entry). (k : ℕ) × (slice_get t.entries k ≡ Some x)) e es there in
      reports (standing_report (messages_of t.entries) symbol (numbered_message e))
      ∙ ap (λ (b : ℕ). fold (λ c r. c + report_weight r) b
      (map (placed_consolidated t.matrix) (filter_map (standing_report (messages_of t.entries) symbol) (messages_of es))))
      (entry-weighs a here.0 e here.1)
      ∙ entries-weigh es (with_row row_weight symbol a (explained_entry t rows e)) later
      ∙ sym (told (explained_entry t rows e))
    where
      reports : (o : Option StandingReport)
          → fold (λ b r. b + report_weight r) a
          (map (placed_consolidated t.matrix) (cons_option o (filter_map (standing_report (messages_of t.entries) symbol) (messages_of es))))
          ≡ fold (λ b r. b + report_weight r) (with_report report_weight t.matrix a o)
          (map (placed_consolidated t.matrix) (filter_map (standing_report (messages_of t.entries) symbol) (messages_of es)))
      reports None = refl
      reports (Some r) = refl

      told : (o : Option Explained)
          → fold (λ b row. b + row_weight row) a (filter (is_row_of symbol) (cons_option o (filter_map (explained_entry t rows) es)))
          ≡ fold (λ b row. b + row_weight row) (with_row row_weight symbol a o) (filter (is_row_of symbol) (filter_map (explained_entry t rows) es))
      told None = refl
      told (Some row) = by (is_row_of symbol row)
        where
          by : (b : Bool)
              → fold (λ c r. c + row_weight r) a
              (cond b (row ∷ filter (is_row_of symbol) (filter_map (explained_entry t rows) es)) (filter (is_row_of symbol) (filter_map (explained_entry t rows) es)))
              ≡ fold (λ c r. c + row_weight r) (if b then a + row_weight row else a) (filter (is_row_of symbol) (filter_map (explained_entry t rows) es))
          by true = refl
          by false = refl

  -- the whole tape
  tape-weighs : fold (λ b r. b + report_weight r) 0
      (map (placed_consolidated t.matrix) (filter_map (standing_report (messages_of t.entries) symbol) (messages_of t.entries)))
      ≡ fold (λ b row. b + row_weight row) 0 (filter (is_row_of symbol) (filter_map (explained_entry t rows) t.entries))
  tape-weighs = entries-weigh t.entries 0 (λ k d within. (k, slice_get-get_or t.entries k d within))

-- ## Weights

-- a cancelled report counts no share
gone-shares : (row : Explained) → row.report.standing ≡ Cancelled → counted_shares row ≡ 0
gone-shares row is = ap (λ (s : State). if is_standing s && row.cells.volume then row.report.content.size else 0) is

-- one that stands counts those that it adds to the volume
standing-shares : (matrix : Matrix) (row : Explained) (r : StandingReport) → row.report.standing ≡ Standing
    → row.cells ≡ cells_of matrix row.report.content.condition → row.report.content ≡ r.content
    → counted_shares row ≡ shares_of (placed_consolidated matrix r)
standing-shares matrix row r stands cells same =
    ap (λ (s : State). if is_standing s && row.cells.volume then row.report.content.size else 0) stands
    ∙ ap (λ (c : Cells). if c.volume then row.report.content.size else 0) cells
    ∙ ap (λ (c : Content). if (cells_of matrix c.condition).volume then c.size else 0) same

-- how many trades a report is, by whether it stands
abbrev trades_of : State → ℕ
trades_of state = cond (is_standing state) 1 0

-- a cancelled report is no trade
gone-trade : (row : Explained) → row.report.standing ≡ Cancelled → trades_of row.report.standing ≡ 0
gone-trade row is = ap trades_of is

-- one that stands is
standing-trade : (row : Explained) → row.report.standing ≡ Standing → trades_of row.report.standing ≡ 1
standing-trade row is = ap trades_of is

-- the rows of a tape add up
tape-adds_up : (t : TapeState) (rows symbol : List ℕ)
    → AddUp (filter (is_row_of symbol) (filter_map (explained_entry t rows) t.entries))
    (fold step empty_summary (map (placed_consolidated t.matrix) (filter_map (standing_report (messages_of t.entries) symbol) (messages_of t.entries))))
tape-adds_up t rows symbol =
    let reports : List PlacedEffect =
    map (placed_consolidated t.matrix) (filter_map (standing_report (messages_of t.entries) symbol) (messages_of t.entries)) in
    record {
      volume = folded-volume reports empty_summary ∙ tape-weighs t rows symbol shares_of counted_shares gone-shares (standing-shares t.matrix);
      trades = folded-trades reports empty_summary
          ∙ tape-weighs t rows symbol (λ _. 1) (λ row. trades_of row.report.standing) gone-trade (λ row r stands _ _. standing-trade row stands);
    }

-- the rows of each symbol add up to its volume and its trades
pub rows_add_up : RowsAddUp
rows_add_up matrix messages symbol =
    let t : TapeState = tape_of matrix messages in
    let rows : List ℕ = rows_of matrix messages in
    let tape : List NumberedMessage = messages_of t.entries in
    subst (λ (x : Matrix). AddUp (filter (is_row_of symbol) (filter_map (explained_entry t rows) t.entries))
    (fold step empty_summary (map (placed_consolidated x) (filter_map (standing_report tape symbol) tape))))
    (matrix-kept (first_tape matrix messages) messages) (tape-adds_up t rows symbol)
