use Rattle.std.proofs.Common.{◌≡◌, ◌<◌, ◌==◌, if◌then◌else◌, set, slice_index, sym, ap, subst, ◌∙◌, arith}
use Rattle.tape_types.specs.Ranges.{IsParticipant, row_index}
use Rattle.corrections.specs.RegisterState.{last_number_of, targets_of}
use Rattle.corrections.specs.TargetRows.{targets_of_rows}
use Rattle.reports.specs.Messages.{header_of}
use Rattle.tape_core.specs.declared.entry.Entry.{Entry}
use Rattle.tape_core.specs.Changes.{CanChange, book_after, targets_after}
use Rattle.tape_core.specs.Kept.{KeepsTape}
use Rattle.tape_core.specs.Routes.{IsRoute}
use Rattle.tape_core.specs.Tape.{refusal, next_entry, with_message}
use Rattle.tape_core.proofs.Appending.{can-change, entry-next, KeepsTape-message}
use Rattle.tape_core.proofs.Keeping.{register-above, sizes-fit, count-fits, with_message-pushed}
use Rattle.tape_core.proofs.tape.Tape.append.Given.{Over}
use Rattle.tape_core.proofs.tape.Tape.append.Goals.{After-push_reserved}
use Rattle.tape_core.proofs.tape.Tape.append.Goals as goal

pub make_change-requires : goal.make_change-requires
make_change-requires g c =
    let m = c.args.message.now in
    subst (λ h. CanChange c.index_mut-book.result.now (targets_of c.self.inside.register) c.args.route.number h c.args.route.change) (sym c.header-header.ensures.header)
    (can-change _ _ _ _ c.self.invariant c.args.route _ c.index_mut-book.ensures.value m
    (ap (λ t. refusal t m) c.self.view_is ∙ c.requires.none) (subst (λ t. IsRoute t m c.args.route) (sym c.self.view_is) c.requires.route))

pub advance-requires : goal.advance-requires
advance-requires g c =
    let m = c.args.message.now in
    let is = c.header-header.ensures.header in
    record {
      above = subst (λ h. last_number_of c.make_change.new.register h.participant < h.number) (sym is)
          (subst (λ l. slice_index l (row_index (header_of m).participant) < (header_of m).number) (sym c.in_ok-after.ensures.last_numbers)
          (register-above _ _ _ _ c.self.invariant m (ap (λ t. refusal t m) c.self.view_is ∙ c.requires.none)
          (subst (λ h. IsParticipant h.participant) is (omega arith, omega arith))));
    }

pub add-requires-clause-sizes : goal.add-requires-clause-sizes
add-requires-clause-sizes g c =
    let m = c.args.message.now in
    sizes-fit _ _ _ _ c.self.invariant m (ap (λ t. refusal t m) c.self.view_is ∙ c.requires.none)
    (subst (λ h. IsParticipant h.participant) c.header-header.ensures.header (omega arith, omega arith))

pub add-requires-clause-count : goal.add-requires-clause-count
add-requires-clause-count g c =
    let m = c.args.message.now in
    count-fits _ _ _ _ c.self.invariant m (ap (λ t. refusal t m) c.self.view_is ∙ c.requires.none)
    (subst (λ h. IsParticipant h.participant) c.header-header.ensures.header (omega arith, omega arith))

-- the entry that is pushed is the next one
pushed-next : (g : Over) (c : After-push_reserved g)
    → ◌≡◌ {A = Entry} (record { number = c.args.route.number; message = c.args.message.now; after = c.in_ok-after.after })
    (next_entry c.self.inside.matrix c.self.inside.entries.items c.args.message.now)
pushed-next g c =
    let m = c.args.message.now in
    entry-next _ _ _ _ c.self.invariant c.args.route _ c.index_mut-book.ensures.value m (ap (λ t. refusal t m) c.self.view_is ∙ c.requires.none)
    (subst (λ t. IsRoute t m c.args.route) (sym c.self.view_is) c.requires.route) c.in_ok-after.after c.make_change.new.book
    (c.in_ok-after.ensures.book ∙ ap (λ h. book_after c.index_mut-book.result.now c.args.route.number h c.args.route.change) c.header-header.ensures.header)
    c.in_ok-after.ensures.after

pub invariant_of-self-2 : goal.invariant_of-self-2
invariant_of-self-2 g c =
    let m = c.args.message.now in
    let is = c.header-header.ensures.header in
    let made = c.in_ok-after.ensures in
    subst (λ t. KeepsTape t (set c.self.inside.books.items c.args.route.book c.make_change.new.book) c.advance.new.self c.add.new.self)
    (sym (with_message-pushed _ m _ _ _ c.push_reserved.ensures.items c.in_ok-reserve.ensures.items (pushed-next g c)))
    (KeepsTape-message _ _ _ _ c.self.invariant c.args.route _ c.index_mut-book.ensures.value m (ap (λ t. refusal t m) c.self.view_is ∙ c.requires.none)
    (subst (λ t. IsRoute t m c.args.route) (sym c.self.view_is) c.requires.route) c.advance.new.self c.add.new.self c.make_change.new.book
    (made.book ∙ ap (λ h. book_after c.index_mut-book.result.now c.args.route.number h c.args.route.change) is)
    (ap targets_of_rows c.advance.ensures.rows ∙ made.targets
    ∙ ap (λ h. targets_after (targets_of c.self.inside.register) c.args.route.number h c.args.route.change) is)
    (λ other of. c.advance.ensures.last_numbers other of
    ∙ (λ i. if other == (is i).participant then (is i).number else slice_index (made.last_numbers i) (row_index other)))
    c.add.ensures.size c.add.ensures.totals)

pub returns-clause-entry : goal.returns-clause-entry
returns-clause-entry g c = pushed-next g c ∙ ap (λ t. next_entry t.matrix t.entries c.args.message.now) c.self.view_is

pub returns-clause-ok : goal.returns-clause-ok
returns-clause-ok g c =
    with_message-pushed _ c.args.message.now _ _ _ c.push_reserved.ensures.items c.in_ok-reserve.ensures.items (pushed-next g c)
    ∙ ap (λ t. with_message t c.args.message.now) c.self.view_is
