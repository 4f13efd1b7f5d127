use Rattle.std.proofs.Common.{◌∙◌, sym}
use Rattle.std.proofs.lemmas.Slice.Eq.{bytes_eq-Decides}
use Rattle.csv_days.specs.TapeRows.{tape_text}
use Rattle.recorded_tapes.proofs.TextLemmas.{same-text}
use Rattle.recorded_tapes.proofs.verify.compare.Goals as goal

pub returns-then-eq-clause-replay : goal.returns-then-eq-clause-replay
returns-then-eq-clause-replay c = λ matrix messages table written are.
    let beside = c.args.beside.now in
    let same = (bytes_eq-Decides c.left.result.now c.as_slice.result.now).0 (sym c.if-eq.ensures) in (
      messages,
      (
        table,
        same-text beside.recorded.now beside.behind.items (tape_text matrix messages) beside.same
            (sym c.left.ensures ∙ same ∙ c.as_slice.ensures.value) written,
      ),
      are,
    )
