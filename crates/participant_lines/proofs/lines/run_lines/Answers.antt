use Rattle.std.proofs.Common.{[], List, map, slice_index_or, refl, subst, sym, ap, ◌∙◌}
use Rattle.participant_lines.specs.Lines.{HasRun}
use Rattle.participant_lines.specs.declared.line_end.LineEnd.{LineEnd}
use Rattle.participant_lines.specs.declared.line_end.TalliedEnd.{TalliedEnd}
use Rattle.participant_lines.proofs.Places.{made_at, map_made}
use Rattle.participant_lines.proofs.Steps.{runs_counted}
use Rattle.participant_lines.proofs.lines.run_lines.Goals as goal

-- the ends are those with tallies, by how many frames they count
pub returns-in-Ok-run_watched_lines-clause-each : goal.returns-in-Ok-run_watched_lines-clause-each
returns-in-Ok-run_watched_lines-clause-each g c = λ i l e within.
    let Tallied : Type 0 = TalliedEnd g.row.D.Denot in
    let End : Type 0 = LineEnd g.row.D.Denot in
    let plain : Tallied → End = λ t. record { seat = t.seat; refused = t.tally.refused; ended = t.ended } in
    let ends = c.in-Ok-run_watched_lines.tallied.items in
    let line = slice_index_or c.args.lines.items i l in
    let d : Tallied = record { seat = e.seat; tally = record { reasons = []; refused = e.refused }; ended = e.ended } in
    let ran = c.in-Ok-run_watched_lines.ensures.each i l d within in
    let end = slice_index_or ends i d in
    let counted : HasRun g.D.DayName.terms line.0 (g.R.Read.remaining line.1) (plain end).refused (plain end).ended (plain end).seat =
    (ran.0, runs_counted _ _ _ _ _ _ _ _ refl ran.1) in
    subst (λ (x : End). HasRun g.D.DayName.terms line.0 (g.R.Read.remaining line.1) x.refused x.ended x.seat)
    (sym (ap (λ (es : List End). slice_index_or es i e) c.line_ends.ensures ∙ made_at plain ends i d)) counted

pub returns-in-Ok-run_watched_lines-clause-same : goal.returns-in-Ok-run_watched_lines-clause-same
returns-in-Ok-run_watched_lines-clause-same g c =
    let Tallied : Type 0 = TalliedEnd g.row.D.Denot in
    let End : Type 0 = LineEnd g.row.D.Denot in
    let plain : Tallied → End = λ t. record { seat = t.seat; refused = t.tally.refused; ended = t.ended } in
    ap (map (λ (x : End). x.seat.who)) c.line_ends.ensures
    ∙ map_made plain (λ (x : End). x.seat.who) c.in-Ok-run_watched_lines.tallied.items
    ∙ c.in-Ok-run_watched_lines.ensures.same
