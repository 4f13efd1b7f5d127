use Rattle.std.proofs.Common.{◌≡◌, ◌++◌, ◌∙◌, List, sym, ap}
use Rattle.std.specs.List.{flat_map}
use Rattle.day_report.specs.Rows.{symbol_rows}
use Rattle.day_report.specs.declared.row.Row.{Row}
use Rattle.day_report.proofs.PieceLemmas.{part_added}
use Rattle.day_report.proofs.pieces.joined.Goals as goal

pub loop-piece-preserved : goal.loop-piece-preserved
loop-piece-preserved g c =
    let t = c.args.tape.now in
    let part = c.in-Some.piece.now in
    let before = c.loop-piece.rows.items in
    let more : c.extend_from_slice.new.self.items ≡ before ++ flat_map (symbol_rows t) part =
    c.in_ok-extend_from_slice.ensures.items
    ∙ ap (λ (rows : List Row). before ++ rows) (c.in-Some-rows_from.ensures t c.args.size c.requires.made
    ∙ ap (flat_map (symbol_rows t)) (sym c.in-Some.ensures.piece)) in
    record {
      within = c.in-Some.ensures.place.within;
      rows = part_added (symbol_rows t) t.listing.symbols c.loop-piece.start c.args.size part before _ c.in-Some.ensures.piece c.loop-piece.invariant.rows more;
    }
