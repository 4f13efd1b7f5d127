-- Shows what a message that a tape admits does to the symbols' consolidated summaries.
use Rattle.std.proofs.Common.{◌≡◌, ℕ, ◌+◌, Bool, true, false, not, List, [], ◌∷◌, ◌++◌, map, Option, Some, None, length, refl, sym, ap, ◌∙◌}
use Rattle.std.proofs.lemmas.Bool.{not-false}
use Rattle.std.proofs.lemmas.List.{map-append}
use Rattle.std.proofs.lemmas.List.Sums.{fold-append}
use Rattle.tape_types.specs.Names.{first_fault, symbol_eq}
use Rattle.sale_matrix.specs.declared.matrix.Matrix.{Matrix}
use Rattle.reports.specs.declared.message.Message.{Message}
use Rattle.reports.specs.declared.message.Message.TheVariants.{Report, Cancel, Correct, Reinstate}
use Rattle.reports.specs.Messages.{header_of}
use Rattle.scratch_fold.specs.Fold.{PlacedEffect, empty_summary, step, summary_of}
use Rattle.symbol_book.specs.declared.trade.Trade.{Trade}
use Rattle.symbol_book.specs.Columns.{consolidated_effect_of, reported_trade}
use Rattle.tape_core.specs.Books.{HasTargets, IsNumbered, book_of}
use Rattle.tape_core.specs.Laws.{CountsLast, KeepsOthers}
use Rattle.tape_core.specs.Standing.{NumberedMessage, named_report, standing_reports, symbol_summary}
use Rattle.tape_core.specs.Tape.{TapeState, message_faults, messages_of, target_faults}
use Rattle.tape_core.specs.Lemmas.LegalNext.{admissible, none_first}
use Rattle.tape_core.proofs.Keeping.{apart-from, messages-with, messages_with, next_number-by_messages}
use Rattle.tape_core.proofs.SymbolBooks.{in_columns}
use Rattle.tape_core.proofs.list.Cancels.{book_of-cancel-other}
use Rattle.tape_core.proofs.list.Corrections.{book_of-correct-other}
use Rattle.tape_core.proofs.list.Premises.{IsLegal-numbered, IsLegal-targets}
use Rattle.tape_core.proofs.list.Reinstatements.{book_of-reinstate-other}
use Rattle.tape_core.proofs.list.Reports.{book_of-report, book_of-report-other}

-- the effects of trades, by place
abbrev effects_of : List (ℕ × Trade) → List PlacedEffect
effects_of trades = map (λ r. (r.0, consolidated_effect_of r.1)) trades

-- a symbol's summary is that of its book
book-sum : (matrix : Matrix) (tape : List NumberedMessage) (symbol : List ℕ)
    → symbol_summary matrix tape symbol ≡ summary_of (effects_of (book_of matrix tape symbol))
book-sum matrix tape symbol = sym (ap summary_of (in_columns matrix (standing_reports tape symbol)))

-- one more trade, after all others, is one more step
sum-push : (trades : List (ℕ × Trade)) (trade : ℕ × Trade)
    → summary_of (effects_of (trades ++ trade ∷ [])) ≡ step (summary_of (effects_of trades)) (trade.0, consolidated_effect_of trade.1)
sum-push trades trade =
    ap summary_of (map-append (λ (r : ℕ × Trade). (r.0, consolidated_effect_of r.1)) trades (trade ∷ []))
    ∙ fold-append step empty_summary (effects_of trades) ((trade.0, consolidated_effect_of trade.1) ∷ [])

-- a report that a tape admits counts as the last one of its symbol
pub counts-last : CountsLast
counts-last t header content legal none =
    let tape = messages_of t.entries in
    let longer = messages_with t (Report header content) in
    let trade = reported_trade t.matrix header.participant content in
    ap (λ ns. symbol_summary t.matrix ns header.symbol) (messages-with t (Report header content))
    ∙ book-sum t.matrix longer header.symbol
    ∙ ap (λ es. summary_of (effects_of es)) (book_of-report tape (length t.entries + 1) header content t.matrix (IsLegal-numbered t legal) (IsLegal-targets t legal)
    (next_number-by_messages t))
    ∙ sum-push (book_of t.matrix tape header.symbol) (length t.entries + 1, trade)
    ∙ ap (λ z. step z (length t.entries + 1, consolidated_effect_of trade)) (sym (book-sum t.matrix tape header.symbol))

-- a target without a fault names a report of the symbol
named-there : (tape : List NumberedMessage) (symbol : List ℕ) (reinstated : Bool) (named : Option NumberedMessage)
    → first_fault (target_faults tape symbol reinstated named) ≡ None
    → (report : NumberedMessage) × (named ≡ Some report) × (symbol_eq symbol (header_of report.1).symbol ≡ true)
named-there tape symbol reinstated None faultless = absurd (cc)
named-there tape symbol reinstated (Some report) faultless =
    (report, refl, not-false (symbol_eq symbol (header_of report.1).symbol) (none_first (not (symbol_eq symbol (header_of report.1).symbol)) _ _ faultless).0)

module _ (t : TapeState) (symbol : List ℕ) (numbered : IsNumbered (messages_of t.entries)) (targets : HasTargets (messages_of t.entries)) where
  -- the messages before
  abbrev past : List NumberedMessage
  past = messages_of t.entries

  -- the book of another symbol stays
  book-other : (m : Message) → first_fault (message_faults past m) ≡ None → symbol_eq (header_of m).symbol symbol ≡ false
      → book_of t.matrix (messages_with t m) symbol ≡ book_of t.matrix past symbol
  book-other (Report header content) faultless apart =
      book_of-report-other past (length t.entries + 1) header content t.matrix symbol numbered targets (next_number-by_messages t) apart
  book-other (Cancel header target) faultless apart =
      let named = named-there past header.symbol false (named_report past header.participant target) faultless in
      book_of-cancel-other past (length t.entries + 1) header target named.0 t.matrix symbol numbered targets named.1
      (apart-from header.symbol symbol (header_of named.0.1).symbol named.2 apart)
  book-other (Correct header target content) faultless apart =
      let named = named-there past header.symbol false (named_report past header.participant target) faultless in
      book_of-correct-other past (length t.entries + 1) header target content named.0 t.matrix symbol numbered targets named.1
      (apart-from header.symbol symbol (header_of named.0.1).symbol named.2 apart)
  book-other (Reinstate header target) faultless apart =
      let named = named-there past header.symbol true (named_report past header.participant target) faultless in
      book_of-reinstate-other past (length t.entries + 1) header target named.0 t.matrix targets named.1 symbol numbered
      (apart-from header.symbol symbol (header_of named.0.1).symbol named.2 apart)

-- a message that a tape admits changes nothing of another symbol
pub keeps-others : KeepsOthers
keeps-others t m symbol legal none apart =
    ap (λ ns. symbol_summary t.matrix ns symbol) (messages-with t m)
    ∙ book-sum t.matrix (messages_with t m) symbol
    ∙ ap (λ es. summary_of (effects_of es)) (book-other t symbol (IsLegal-numbered t legal) (IsLegal-targets t legal) m (admissible t m none).target apart)
    ∙ sym (book-sum t.matrix (messages_of t.entries) symbol)
