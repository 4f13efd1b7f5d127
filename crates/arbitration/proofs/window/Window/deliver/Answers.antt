use Rattle.std.proofs.Common.{◌+◌, ap, sym, subst, ◌∙◌, arith}
use Rattle.std.specs.Prelude.{count_by, is_some}
use Rattle.std.specs.Option.{option_or}
use Rattle.arbitration.specs.declared.taken.Taken.{Taken}
use Rattle.tape_frames.specs.Packets.{entries_of, end_of}
use Rattle.arbitration.specs.Windows.{WindowState, IsWindow}
use Rattle.arbitration.specs.Counts.{taken_of, brought_with}
use Rattle.arbitration.specs.Deliveries.{slots_after, is_beyond, is_other_end}
use Rattle.arbitration.specs.Inside.{state_of}
use Rattle.std.proofs.Common.{max, ◌||◌}
use Rattle.arbitration.specs.Lemmas.Windows.{IsWindow-window_after, brought_fits, REACH-fits}
use Rattle.arbitration.specs.Lemmas.Numbers.{row_numbers}
use Rattle.arbitration.specs.Lemmas.Counts.{few_taken}
use Rattle.arbitration.proofs.window.Window.deliver.Goals as goal

pub add-requires : goal.add-requires
add-requires c =
    let fits = brought_fits (state_of c.self.inside) c.self.invariant in
    let few = (few_taken (c.self.inside.base + 1) c.self.inside.slots.items c.entries-entries.result.now).0 in
    let short = (row_numbers c.entries-entries.result.now c.entries-entries.ensures.row).1 in
    let fresh = ap (λ (t : Taken). t.fresh) c.settle-taken.ensures.taken in
    omega (arith, REACH-fits)

pub invariant_of-self : goal.invariant_of-self
invariant_of-self c =
    let q = c.args.packet.now in
    let w = state_of c.self.inside in
    let same_entries = c.entries-entries.ensures.value in
    let slots = c.settle-taken.ensures.slots ∙ ap (slots_after (w.base + 1) w.slots) same_entries in
    let taken = c.settle-taken.ensures.taken ∙ ap (taken_of (w.base + 1) w.slots) same_entries in
    let announced = c.max-self-inside.ensures ∙ ap (max w.announced) c.last-last.ensures.value in
    let ended = c.or-self-inside.ensures ∙ ap (λ o. option_or o w.ended) c.end-end.ensures.end in
    let brought = c.add.ensures ∙ ap (λ (t : Taken). brought_with w.brought c.args.line t.fresh) taken in
    let in_time =
    ap (λ n. is_beyond w.ended n || is_other_end w.ended w.announced (end_of q)) (sym c.last-last.ensures.value)
    ∙ ap (λ o. is_beyond w.ended c.last-last.result || is_other_end w.ended w.announced o) (sym c.end-end.ensures.end)
    ∙ sym c.is_past_end.ensures ∙ c.if-is_past_end.false in
    let count = ap (count_by is_some) (sym slots) ∙ c.settle-taken.ensures.count ∙ ap (λ (t : Taken). count_by is_some w.slots + t.fresh) taken in
    let window = IsWindow-window_after w c.args.line q c.self.invariant c.last-last.ensures.numbers in_time count in
    subst IsWindow (λ i. record {
      session = w.session;
      base = w.base;
      slots = sym slots i;
      announced = sym announced i;
      ended = sym ended i;
      brought = sym brought i;
    }) window

pub returns-clause-taken : goal.returns-clause-taken
returns-clause-taken c =
    let q = c.args.packet.now in
    c.settle-taken.ensures.taken
    ∙ ap (taken_of (c.self.inside.base + 1) c.self.inside.slots.items) c.entries-entries.ensures.value
    ∙ ap (λ (w : WindowState). taken_of (w.base + 1) w.slots (entries_of q)) c.self.view_is
