use Rattle.std.proofs.Common.{◌+◌, ◌-◌, ap, sym, ◌∙◌}
use Rattle.std.proofs.lemmas.Result.{err_from_is_err_and}
use Rattle.day_journal.specs.Headers.{symbol_at, values_at}
use Rattle.day_journal.proofs.Headers.{value_next, value_stops, values_end}
use Rattle.day_journal.proofs.header_reading.read_symbol_list.Goals as goal

pub returns-in_err-symbol : goal.returns-in_err-symbol
returns-in_err-symbol c =
    let p = err_from_is_err_and c.from_residual.result c.from_residual.ensures.1 in
    let stops = value_stops symbol_at c.args.count c.loop-place.place c.loop-place.symbols.items c.loop-place.unread.rest.now c.in_err-symbol.field-0.0 c.loop-place-test.true
    c.in_err-symbol.ensures.reads in
    rw (p.1, p.2) (λ some. sym c.loop-place.invariant ∙ stops)

pub loop-place-preserved : goal.loop-place-preserved
loop-place-preserved c =
    ap (λ xs. values_at symbol_at (c.args.count - (c.loop-place.place + 1)) xs c.symbol.new.self.rest.now) c.in-Ok.ensures.items
    ∙ value_next symbol_at c.args.count c.loop-place.place c.loop-place.symbols.items c.loop-place.unread.rest.now c.symbol.new.self.rest.now c.in_ok-symbol.symbol
    c.loop-place-test.true c.in_ok-symbol.ensures.reads
    ∙ c.loop-place.invariant

pub returns : goal.returns
returns c =
    sym c.loop-place.invariant
    ∙ values_end symbol_at c.args.count c.loop-place.place c.loop-place.symbols.items c.loop-place.unread.rest.now c.loop-place-test.false
