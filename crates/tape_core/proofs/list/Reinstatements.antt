-- Shows what one more reinstatement lets stand again, and the books of its symbol and of the others.
use Rattle.std.proofs.Common.{◌≡◌, ℕ, ◌==◌, Bool, true, false, cond, ◌&&◌, not, if◌then◌else◌, List, [], ◌∷◌, ◌++◌, Option, Some, None, IsSome, unwrap_or, refl, sym, ap}
use Rattle.std.proofs.Common.{is_some, subst, ◌∙◌, arith}
use Rattle.std.specs.Option.{option_and_then}
use Rattle.std.specs.Ordering.{nat_cmp, eq_by_cmp}
use Rattle.std.specs.Cmp.{nat_cmp_total}
use Rattle.std.specs.FinMap as map
use Rattle.std.proofs.lemmas.Bool.{and_parts}
use Rattle.std.proofs.lemmas.Bool.Decides.{nat_tests}
use Rattle.tape_types.specs.Names.{symbol_eq}
use Rattle.tape_types.specs.Lemmas.NumberMaps.{same_key}
use Rattle.sale_matrix.specs.declared.content.Content.{Content}
use Rattle.sale_matrix.specs.declared.matrix.Matrix.{Matrix}
use Rattle.reports.specs.declared.message.Header.{Header}
use Rattle.reports.specs.declared.message.Message.{Message}
use Rattle.reports.specs.declared.message.Message.TheVariants.{Reinstate}
use Rattle.reports.specs.Messages.{header_of, reported_content}
use Rattle.symbol_book.specs.declared.trade.Trade.{Trade}
use Rattle.symbol_book.specs.Columns.{Trades, reported_trade}
use Rattle.tape_core.specs.Standing.{NumberedMessage, named_report, is_at, is_of, is_cancelled, standing_content}
use Rattle.tape_core.specs.Books.{IsNumbered, HasTargets, no_content, latest_content, book_of}
use Rattle.tape_core.proofs.list.Named.{named_report-append, said-or_was, is_cancelled-push, standing_content-push}
use Rattle.tape_core.proofs.list.Names.{named_report-is, named_report-at, named_report-message, standing_content-named}
use Rattle.tape_core.proofs.list.Places.{from_one, and_then-same}
use Rattle.tape_core.proofs.list.Trades.{trade_if, trade_at, get-book, entries-book, book_of-quiet, book_of-same}
use Rattle.tape_core.proofs.list.Changes.{place_eq, symbol_eq-back, trade_at-other}

-- a report that is named has a latest content
pub latest-there : (tape : List NumberedMessage) (who target : ℕ) (report : NumberedMessage) → named_report tape who target ≡ Some report
    → standing_content tape report.0 ≡ Some (latest_content tape report.0)
latest-there tape who target report named = by (standing_content tape report.0) (standing_content-named tape who target report named)
  where
    by : (o : Option Content) → IsSome o → o ≡ Some (unwrap_or o no_content)
    by None some = cc
    by (Some content) some = refl

-- a report that is cancelled is no trade
trade_if-gone : (matrix : Matrix) (reported of_symbol : Bool) (who : ℕ) (now : Option Content) → ◌≡◌ {A = Option Trade} (trade_if matrix (reported && (of_symbol && false)) who now) None
trade_if-gone matrix true true who now = refl
trade_if-gone matrix true false who now = refl
trade_if-gone matrix false of_symbol who now = refl

-- the book has nothing in the place of a named report that is cancelled
pub book-absent : (matrix : Matrix) (tape : List NumberedMessage) (symbol : List ℕ) (book : Trades) (who target : ℕ) (report : NumberedMessage) → IsNumbered tape
    → named_report tape who target ≡ Some report → is_cancelled tape report.0 ≡ true → map.entries book ≡ book_of matrix tape symbol
    → map.get book report.0 ≡ None
book-absent matrix tape symbol book who target report numbered named gone is =
    get-book matrix tape symbol book numbered is report.0
    ∙ ap (option_and_then (λ m. trade_at matrix tape symbol (report.0, m))) (named_report-at tape who target report numbered named)
    ∙ (λ i. trade_if matrix (is_some (reported_content report.1) && (symbol_eq (header_of report.1).symbol symbol && not (gone i))) (header_of report.1).participant
    (standing_content tape report.0))
    ∙ trade_if-gone matrix (is_some (reported_content report.1)) (symbol_eq (header_of report.1).symbol symbol) (header_of report.1).participant
    (standing_content tape report.0)

module _ (tape : List NumberedMessage) (number : ℕ) (header : Header) (target : ℕ) (report : NumberedMessage) where
  -- the reinstatement, with its tape number
  abbrev reinstatement : NumberedMessage
  reinstatement = (number, Reinstate header target)

  -- the tape with the reinstatement at its end
  abbrev longer : List NumberedMessage
  longer = tape ++ reinstatement ∷ []

  -- the named report stands, and every other is as it was
  pub is_cancelled-reinstate : (place : ℕ) → HasTargets tape → named_report tape header.participant target ≡ Some report
      → is_cancelled longer place ≡ cond (report.0 == place) false (is_cancelled tape place)
  is_cancelled-reinstate place targets named =
      let there : IsSome (named_report tape header.participant target) = subst (λ o. IsSome o) (sym named) refl in
      is_cancelled-push tape reinstatement place targets
      ∙ ap (λ o. unwrap_or (if is_at place o then Some false else None) (is_cancelled tape place))
      (named_report-append tape (reinstatement ∷ []) header.participant target there ∙ named)
      ∙ said-or_was (report.0 == place) false (is_cancelled tape place)

  -- a reinstatement gives no content, so each report keeps its latest
  pub standing_content-reinstate : (place : ℕ) → HasTargets tape → standing_content longer place ≡ standing_content tape place
  standing_content-reinstate place targets = standing_content-push tape reinstatement place targets

  module _ (matrix : Matrix) (targets : HasTargets tape) (named : named_report tape header.participant target ≡ Some report) where
    -- at any other place the trade stays
    trade_at-elsewhere : (symbol : List ℕ) (place : ℕ) (m : Message) → (report.0 == place) ≡ false
        → trade_at matrix longer symbol (place, m) ≡ trade_at matrix tape symbol (place, m)
    trade_at-elsewhere symbol place m other =
        let same : is_cancelled longer place ≡ is_cancelled tape place =
        is_cancelled-reinstate place targets named ∙ ap (λ (b : Bool). cond b false (is_cancelled tape place)) other in
        λ i. trade_if matrix (is_some (reported_content m) && (symbol_eq (header_of m).symbol symbol && not (same i))) (header_of m).participant
        (standing_content-reinstate place targets i)

    -- at the named report's place its trade is there again, with its latest content
    trade_at-again : (symbol : List ℕ) (content : Content) → symbol_eq (header_of report.1).symbol symbol ≡ true
        → standing_content tape report.0 ≡ Some content
        → trade_at matrix longer symbol (report.0, report.1) ≡ Some (reported_trade matrix header.participant content)
    trade_at-again symbol content of_symbol latest =
        let reported = and_parts (is_some (reported_content report.1)) _ (named_report-is tape header.participant target report named) in
        let mine = and_parts (is_of header.participant report.1) _ reported.1 in
        let who : (header_of report.1).participant ≡ header.participant = grind (arith, nat_tests, mine.0) in
        let itself : (report.0 == report.0) ≡ true = grind (arith, nat_tests) in
        let stands : is_cancelled longer report.0 ≡ false =
        is_cancelled-reinstate report.0 targets named ∙ ap (λ (b : Bool). cond b false (is_cancelled tape report.0)) itself in
        λ i. trade_if matrix (reported.0 i && (of_symbol i && not (stands i))) (who i) ((standing_content-reinstate report.0 targets ∙ latest) i)

    -- the book with the report in its place again
    pub book-reinstate : (book : Trades) (content : Content) → IsNumbered tape → symbol_eq header.symbol (header_of report.1).symbol ≡ true
        → standing_content tape report.0 ≡ Some content → map.entries book ≡ book_of matrix tape header.symbol
        → map.entries (map.insert book report.0 (reported_trade matrix header.participant content)) ≡ book_of matrix longer header.symbol
    book-reinstate book content numbered of_symbol latest is =
        entries-book matrix tape longer header.symbol (map.insert book report.0 trade) (from_one tape numbered)
        (λ place. map.get-insert nat_cmp_total book report.0 trade place ∙ by place (eq_by_cmp nat_cmp place report.0) refl)
        ∙ sym (book_of-quiet matrix tape reinstatement header.symbol refl)
      where
        trade : Trade
        trade = reported_trade matrix header.participant content

        by : (place : ℕ) (b : Bool) → eq_by_cmp nat_cmp place report.0 ≡ b
            → cond b (Some trade) (map.get book place) ≡ option_and_then (λ m. trade_at matrix longer header.symbol (place, m)) (map.find nat_cmp place tape)
        by place true same =
            let there : map.find nat_cmp report.0 tape ≡ Some report.1 = named_report-at tape header.participant target report numbered named in
            sym (trade_at-again header.symbol content (symbol_eq-back header.symbol (header_of report.1).symbol of_symbol) latest)
            ∙ ap (option_and_then (λ m. trade_at matrix longer header.symbol (report.0, m))) (sym there)
            ∙ ap (λ p. option_and_then (λ m. trade_at matrix longer header.symbol (p, m)) (map.find nat_cmp p tape)) (sym (same_key place report.0 same))
        by place false apart =
            let other : (report.0 == place) ≡ false = sym (place_eq place report.0) ∙ apart in
            get-book matrix tape header.symbol book numbered is place
            ∙ and_then-same _ _ (map.find nat_cmp place tape) (λ m _. sym (trade_at-elsewhere header.symbol place m other))

    -- the book of another symbol
    pub book_of-reinstate-other : (symbol : List ℕ) → IsNumbered tape → symbol_eq (header_of report.1).symbol symbol ≡ false
        → book_of matrix longer symbol ≡ book_of matrix tape symbol
    book_of-reinstate-other symbol numbered other =
        book_of-same matrix tape reinstatement symbol numbered refl (λ place m there. stays place m there (report.0 == place) refl)
      where
        stays : (place : ℕ) (m : Message) → map.find nat_cmp place tape ≡ Some m → (b : Bool) → (report.0 == place) ≡ b
            → trade_at matrix longer symbol (place, m) ≡ trade_at matrix tape symbol (place, m)
        stays place m there true here =
            let at : report.0 ≡ place = grind (arith, nat_tests) in
            let message : report.1 ≡ m = named_report-message tape header.participant target report place m numbered named there at in
            let apart : symbol_eq (header_of m).symbol symbol ≡ false = ap (λ (x : Message). symbol_eq (header_of x).symbol symbol) (sym message) ∙ other in
            trade_at-other matrix longer symbol place m apart ∙ sym (trade_at-other matrix tape symbol place m apart)
        stays place m there false elsewhere = trade_at-elsewhere symbol place m elsewhere
