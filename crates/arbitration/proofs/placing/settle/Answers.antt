use Rattle.std.proofs.Common.{◌+◌, ◌∷◌, [], get_or, sym, ap, refl, ◌∙◌, arith}
use Rattle.std.specs.Prelude.{count_by, is_some}
use Rattle.arbitration.specs.declared.taken.Taken.{Taken}
use Rattle.arbitration.specs.Counts.{fresh_count, taken_with, placing_of}
use Rattle.arbitration.specs.Deliveries.{slots_after}
use Rattle.tape_frames.specs.PacketEntries.{first_number}
use Rattle.arbitration.specs.Lemmas.Numbers.{row_numbers}
use Rattle.arbitration.specs.Lemmas.Slots.{slots_after-none, turn_slots}
use Rattle.arbitration.specs.Lemmas.Counts.{turn_taken, fresh_more}
use Rattle.arbitration.proofs.placing.settle.Goals as goal

pub loop-entry-init : goal.loop-entry-init
loop-entry-init c = record { slots = sym (slots_after-none (c.args.base + 1) c.args.slots.now.items); taken = refl; count = omega arith }

pub loop-entry-preserved : goal.loop-entry-preserved
loop-entry-preserved c =
    let next = c.args.base + 1 in
    let start = c.args.slots.now.items in
    let now = c.loop-entry.slots.items in
    let es = c.args.entries.now in
    let k = c.loop-entry.entry-index in
    let so_far = c.loop-entry.invariant in
    let numbers = (row_numbers es c.requires.row).0 in
    record {
      slots = c.put.ensures.slots ∙ ap (λ e. slots_after next now (e ∷ [])) c.entry-item.is ∙ turn_slots next start now es k c.entry-item.result
          c.loop-entry-test.true so_far.slots;
      taken =
          c.count.ensures ∙ ap (taken_with c.loop-entry.taken) (c.put.ensures.placing ∙ ap (placing_of next now) c.entry-item.is)
          ∙ ap (λ t. taken_with t (placing_of next now (get_or es k c.entry-item.result))) so_far.taken
          ∙ turn_taken (first_number es) next start now es k c.entry-item.result numbers c.loop-entry-test.true so_far.slots;
      count = c.put.ensures.count ∙ ap (λ n. n + fresh_count c.put.result) so_far.count ∙ fresh_more _ c.loop-entry.taken c.put.result
          ∙ ap (λ (t : Taken). count_by is_some start + t.fresh) (sym c.count.ensures);
    }
