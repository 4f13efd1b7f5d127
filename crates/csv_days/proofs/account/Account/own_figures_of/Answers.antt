use Rattle.std.proofs.Common.{◌≡◌, ◌+◌, ◌∙◌, Some, ap, sym}
use Rattle.std.specs.List.{position}
use Rattle.tape_types.specs.Names.{symbol_eq}
use Rattle.tape_types.specs.Ranges.{FIRST_PARTICIPANT}
use Rattle.reports.specs.Messages.{header_of}
use Rattle.reports.specs.declared.message.Header.{Header}
use Rattle.csv_days.proofs.AccountLemmas.{own-found}
use Rattle.csv_days.proofs.account.Account.own_figures_of.Goals as goal

pub returns : goal.returns
returns c =
    let t = c.args.self.now.day.tape in
    let header : Header = header_of c.args.message.now in
    let same : c.header-header.result ≡ header = c.header-header.ensures.header in
    let listed : position (symbol_eq header.symbol) t.listing.symbols ≡ Some c.in-Some.at =
    sym (c.in-Some.ensures.position ∙ (λ i. position (symbol_eq (same i).symbol) (c.listing.ensures.listing i).symbols)) in
    let letter : c.row_index.result + FIRST_PARTICIPANT ≡ header.participant = c.row_index.ensures.letter ∙ ap (λ (h : Header). h.participant) same in
    own-found t c.args.self.now.own.items header.symbol header.participant c.in-Some.at c.row_index.result c.index.result.now c.requires.account.own listed
    c.requires.participant letter c.row_index.ensures.within c.index.ensures
