use Rattle.std.proofs.Common.{◌≡◌, ◌≤◌, ◌++◌, ◌∙◌, ap, length, subst, sym}
use Rattle.std.specs.Io.KnownBytes.{Appends}
use Rattle.day_journal.specs.Groups.{IsGroup, pending}
use Rattle.day_journal.specs.Writers.{WriterState, next_text, with_group}
use Rattle.line_ledger.specs.Cells.{shown}
use Rattle.tape_frames.specs.Sources.{IsPublished}
use Rattle.live_feed.specs.Journals.{JournalState}
use Rattle.live_feed.proofs.Following.{pending_gathered, published_on}
use Rattle.live_feed.proofs.Growing.{appends_then_kept, on_ok}
use Rattle.live_feed.proofs.keeper.Keeper.append.Goals as goal

-- what is published and what was gathered are as published
pub new-gathered-requires : goal.new-gathered-requires
new-gathered-requires g c =
    let es = shown c.args.published.now.tokens in
    subst (λ q. IsPublished (es ++ q)) (sym (c.as_slice.ensures ∙ ap (λ (j : JournalState). j.queue) c.self.view_is))
    (published_on es c.args.self.now.queue c.args.self.now.writer.held c.published.ensures.published c.requires.counted c.requires.follow)

-- the journal does not have what was gathered
pub append_group-requires : goal.append_group-requires
append_group-requires g c =
    let is : pending c.self.inside.groups.held c.new-gathered.result ≡ c.args.self.now.queue =
    pending_gathered (shown c.args.published.now.tokens) c.args.self.now.queue c.as_slice.result.now c.new-gathered.result
    c.args.self.now.writer.held c.self.inside.groups.held (ap (λ (j : JournalState). j.writer.held) c.self.view_is)
    (c.as_slice.ensures ∙ ap (λ (j : JournalState). j.queue) c.self.view_is) c.new-gathered.ensures c.requires.counted c.requires.follow.within in
    record { some = subst (λ l. 1 ≤ length l) (sym is) c.requires.some }

-- so it is what was appended
pub returns-in-Ok-clause-group : goal.returns-in-Ok-clause-group
returns-in-Ok-clause-group g c =
    let is : pending c.self.inside.groups.held c.new-gathered.result ≡ c.args.self.now.queue =
    pending_gathered (shown c.args.published.now.tokens) c.args.self.now.queue c.as_slice.result.now c.new-gathered.result
    c.args.self.now.writer.held c.self.inside.groups.held (ap (λ (j : JournalState). j.writer.held) c.self.view_is)
    (c.as_slice.ensures ∙ ap (λ (j : JournalState). j.queue) c.self.view_is) c.new-gathered.ensures c.requires.counted c.requires.follow.within in
    on_ok c.keep.result
    (subst (λ (w : WriterState). IsGroup w.session w.held c.args.self.now.queue) (ap (λ (j : JournalState). j.writer) c.self.view_is)
    (subst (λ es. IsGroup c.self.inside.groups.session c.self.inside.groups.held es) is c.in-Ok.ensures.group))

pub returns-in-Ok-clause-written : goal.returns-in-Ok-clause-written
returns-in-Ok-clause-written g c =
    let is : pending c.self.inside.groups.held c.new-gathered.result ≡ c.args.self.now.queue =
    pending_gathered (shown c.args.published.now.tokens) c.args.self.now.queue c.as_slice.result.now c.new-gathered.result
    c.args.self.now.writer.held c.self.inside.groups.held (ap (λ (j : JournalState). j.writer.held) c.self.view_is)
    (c.as_slice.ensures ∙ ap (λ (j : JournalState). j.queue) c.self.view_is) c.new-gathered.ensures c.requires.counted c.requires.follow.within in
    let before = g.J.Write.contents c.self.inside.file in
    let between = g.J.Write.contents c.append_group.new.writer in
    let after = c.keep.new.self.contents in
    on_ok c.keep.result
    (subst (λ known. Appends known after (next_text c.args.self.now.writer c.args.self.now.queue)) (ap (λ (j : JournalState). j.contents) c.self.view_is)
    (subst (λ (w : WriterState). Appends before after (next_text w c.args.self.now.queue)) (ap (λ (j : JournalState). j.writer) c.self.view_is)
    (subst (λ es. Appends before after (next_text c.self.inside.groups es)) is
    (appends_then_kept before between after _ c.in-Ok.ensures.written c.keep.ensures.contents))))

pub returns-in-Ok-clause-writer : goal.returns-in-Ok-clause-writer
returns-in-Ok-clause-writer g c =
    let is : pending c.self.inside.groups.held c.new-gathered.result ≡ c.args.self.now.queue =
    pending_gathered (shown c.args.published.now.tokens) c.args.self.now.queue c.as_slice.result.now c.new-gathered.result
    c.args.self.now.writer.held c.self.inside.groups.held (ap (λ (j : JournalState). j.writer.held) c.self.view_is)
    (c.as_slice.ensures ∙ ap (λ (j : JournalState). j.queue) c.self.view_is) c.new-gathered.ensures c.requires.counted c.requires.follow.within in
    on_ok c.keep.result
    (c.keep.ensures.same.0 ∙ c.in-Ok.ensures.state ∙ ap (with_group c.self.inside.groups) is
    ∙ ap (λ (j : JournalState). with_group j.writer c.args.self.now.queue) c.self.view_is)
