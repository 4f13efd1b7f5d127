use Rattle.std.proofs.Common.{rules, ◌≡◌, ◌<◌, ℕ, List, None, Option, Some, length, map, slice_index_or, refl, subst, sym, ap, ◌∙◌, arith}
use Rattle.std.proofs.lemmas.List.{length-map}
use Rattle.line_ledger.specs.declared.locked.LineSeat.{LineSeat}
use Rattle.participant_lines.specs.Lines.{HasTallied, held}
use Rattle.participant_lines.specs.declared.line_end.TalliedEnd.{TalliedEnd}
use Rattle.participant_lines.specs.declared.lines.Running.{Running}
use Rattle.participant_lines.proofs.Places.{at_place, made_at, map_made, same_maps, whole_slice}
use Rattle.participant_lines.proofs.lines.run_watched_lines.Goals as goal

-- the lines that ran are those that were given, and the ends are theirs
pub returns-clause-each : goal.returns-clause-each
returns-clause-each g c = λ i l e within.
    let Given : Type 0 = LineSeat g.row.D.Denot × g.row.R.Denot in
    let Line : Type 0 = LineSeat g.row.D.Denot × Option g.row.R.Denot in
    let End : Type 0 = TalliedEnd g.row.D.Denot in
    let Run : Type 0 = Running g.row.D.Denot g.row.R.Denot in
    let seated : Given → Line = held in
    let line : Run → Line = λ r. (r.seat, r.reader) in
    let end : Run → End = λ r. record { seat = r.seat; tally = r.outcome.tally; ended = r.outcome.ended } in
    let Ran : Line → End → Type 0 = λ x y. (r : g.row.R.Denot) → x.1 ≡ Some r
    → HasTallied g.D.DayName.terms x.0 (g.R.Read.remaining r) y.tally y.ended y.seat in
    let running = c.in-Ok-running_lines.running.items in
    let after = c.run_each.new.lines in
    let lent : c.as_mut_slice.result.now ≡ running = c.as_mut_slice.ensures.value in
    let each = subst (λ (xs : List Run). (k : ℕ) (d : Run) → k < length xs → Ran (line (slice_index_or xs k d)) (end (slice_index_or after k d)))
    lent c.run_each.ensures.each in
    let long : length after ≡ length running = c.run_each.ensures.len ∙ ap length lent in
    let whole = whole_slice running after c.in-Ok-running_lines.running.len (search rules) long in
    let lines : map line running ≡ map seated c.args.lines.items = c.in-Ok-running_lines.ensures.ok in
    let ends : c.tallied_ends.result.items ≡ map end after = c.tallied_ends.ensures ∙ ap (map end) whole in
    let inside : i < length running = omega (arith, within, ap length lines, length-map running line, length-map c.args.lines.items seated) in
    let ran : Ran (slice_index_or (map seated c.args.lines.items) i (seated l)) (slice_index_or c.tallied_ends.result.items i e)
    = subst (λ (ls : List Line). Ran (slice_index_or ls i (seated l)) (slice_index_or c.tallied_ends.result.items i e)) lines
    (subst (λ (es : List End). Ran (slice_index_or (map line running) i (seated l)) (slice_index_or es i e)) (sym ends)
    (at_place line end Ran running after each long i (seated l) e inside)) in
    subst (λ (x : Line). Ran x (slice_index_or c.tallied_ends.result.items i e)) (made_at seated c.args.lines.items i l) ran
    (slice_index_or c.args.lines.items i l).1 refl

pub returns-clause-same : goal.returns-clause-same
returns-clause-same g c =
    let Given : Type 0 = LineSeat g.row.D.Denot × g.row.R.Denot in
    let Line : Type 0 = LineSeat g.row.D.Denot × Option g.row.R.Denot in
    let End : Type 0 = TalliedEnd g.row.D.Denot in
    let Run : Type 0 = Running g.row.D.Denot g.row.R.Denot in
    let seated : Given → Line = held in
    let line : Run → Line = λ r. (r.seat, r.reader) in
    let end : Run → End = λ r. record { seat = r.seat; tally = r.outcome.tally; ended = r.outcome.ended } in
    let who : Run → ℕ = λ r. r.seat.who in
    let running = c.in-Ok-running_lines.running.items in
    let after = c.run_each.new.lines in
    let lent : c.as_mut_slice.result.now ≡ running = c.as_mut_slice.ensures.value in
    let each = subst (λ (xs : List Run). (k : ℕ) (d : Run) → k < length xs → who (slice_index_or after k d) ≡ who (slice_index_or xs k d))
    lent c.run_each.ensures.who in
    let long : length after ≡ length running = c.run_each.ensures.len ∙ ap length lent in
    let whole = whole_slice running after c.in-Ok-running_lines.running.len (search rules) long in
    let lines : map line running ≡ map seated c.args.lines.items = c.in-Ok-running_lines.ensures.ok in
    let ends : c.tallied_ends.result.items ≡ map end after = c.tallied_ends.ensures ∙ ap (map end) whole in
    ap (map (λ (y : End). y.seat.who)) ends
    ∙ map_made end (λ (y : End). y.seat.who) after
    ∙ same_maps who running after each long
    ∙ sym (map_made line (λ (x : Line). x.0.who) running)
    ∙ ap (map (λ (x : Line). x.0.who)) lines
    ∙ map_made seated (λ (x : Line). x.0.who) c.args.lines.items

-- no line that has run holds its reader
pub tallied_ends-requires-clause-closed : goal.tallied_ends-requires-clause-closed
tallied_ends-requires-clause-closed g c =
    let Run : Type 0 = Running g.row.D.Denot g.row.R.Denot in
    let running = c.in-Ok-running_lines.running.items in
    let after = c.run_each.new.lines in
    let lent : c.as_mut_slice.result.now ≡ running = c.as_mut_slice.ensures.value in
    let long : length after ≡ length running = c.run_each.ensures.len ∙ ap length lent in
    let whole = whole_slice running after c.in-Ok-running_lines.running.len (search rules) long in
    subst (λ (xs : List Run). (k : ℕ) (d : Run) → k < length xs → (slice_index_or xs k d).reader ≡ None) (sym whole)
    (λ k d less. c.run_each.ensures.closed k d (omega (arith, less, c.run_each.ensures.len)))
