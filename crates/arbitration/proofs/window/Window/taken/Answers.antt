use Rattle.std.proofs.Common.{◌+◌, ap, sym, subst, ◌∙◌}
use Rattle.std.specs.Prelude.{is_some}
use Rattle.arbitration.specs.Windows.{WindowState, IsWindow, next_of}
use Rattle.arbitration.specs.Inside.{state_of}
use Rattle.arbitration.specs.Lemmas.Windows.{IsWindow-window_past, rotated, some_slots}
use Rattle.arbitration.proofs.window.Window.taken.Goals as goal

pub invariant_of-self : goal.invariant_of-self
invariant_of-self c =
    let w = state_of c.self.inside in
    let slots = c.rotate_left.ensures.items ∙ rotated w.slots (some_slots w c.self.invariant) in
    let ready = ap (λ (v : WindowState). is_some (next_of v)) c.self.view_is ∙ c.requires in
    subst IsWindow (λ i. record {
      session = w.session;
      base = w.base + 1;
      slots = sym slots i;
      announced = w.announced;
      ended = w.ended;
      brought = w.brought;
    }) (IsWindow-window_past w c.self.invariant ready)
