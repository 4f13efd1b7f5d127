use Rattle.std.proofs.Common.{◌≡◌, ◌≤◌, ◌∙◌, List, ap, arith, drop, length, subst, sym, take}
use Rattle.tape_core.specs.declared.entry.Entry.{Entry}
use Rattle.tape_frames.specs.Sources.{IsPublished}
use Rattle.tape_types.specs.Ranges.{TAPE_MOST}
use Rattle.live_feed.specs.Journals.{CanFollow, JournalState}
use Rattle.live_feed.specs.declared.keeper.TheConstants.{GATHERED_AT_ONCE}
use Rattle.live_feed.proofs.Following.{next_follow}
use Rattle.live_feed.proofs.keeper.Keeper.gather.Goals as goal

-- the tape's next entries follow those that the journal has
pub returns-clause-follow : goal.returns-clause-follow
returns-clause-follow g c =
    let es = c.args.tape.now.entries in
    let held = c.self.inside.groups.held in
    let is : IsPublished es = subst IsPublished c.of.ensures.entries c.published.ensures.published in
    let few : length es ≤ TAPE_MOST = omega (arith, c.entries.ensures.within, c.entries.ensures.limit.1) in
    let held_is : held ≡ c.args.self.now.writer.held = ap (λ (j : JournalState). j.writer.held) c.self.view_is in
    let same : c.fill.new.self ≡ take GATHERED_AT_ONCE (drop held es) =
    c.in-Ok.ensures.ok ∙ c.next_of-next.ensures ∙ ap (λ (l : List Entry). take GATHERED_AT_ONCE (drop c.held.result l)) c.entries.ensures.entries
    ∙ ap (λ n. take GATHERED_AT_ONCE (drop n es)) (c.held.ensures.held ∙ sym held_is) in
    let within : held ≤ TAPE_MOST = omega (arith, held_is, c.held.ensures.held, c.held.ensures.within) in
    subst (CanFollow held) (sym same) (next_follow GATHERED_AT_ONCE held es is within few)
