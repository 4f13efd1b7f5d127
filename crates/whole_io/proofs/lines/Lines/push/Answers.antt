use Rattle.whole_io.proofs.LineLemmas.{AreLines-push}
use Rattle.whole_io.proofs.lines.Lines.push.Goals as goal

pub invariant_of-self : goal.invariant_of-self
invariant_of-self g c = rw c.in_err-extend_from_slice.ensures.items c.self.invariant

pub invariant_of-self-2 : goal.invariant_of-self-2
invariant_of-self-2 g c =
    rw (c.in_ok-extend_from_slice.ensures.items, c.deref.ensures.value) (AreLines-push c.self.inside.text.items c.in_ok-line.line.items c.self.invariant c.in_ok-line.ensures)
