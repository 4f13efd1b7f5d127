use Rattle.std.proofs.Common.{◌≡◌, ◌∙◌, List, ℕ, subst}
use Rattle.whole_io.specs.Writing.{WritesPrefix}
use Rattle.command_line.specs.Statuses.{status_text}
use Rattle.desk_words.proofs.LineLemmas.{status_lines}
use Rattle.desk_words.proofs.saying.say_status.Goals as goal

pub returns-clause-lines : goal.returns-clause-lines
returns-clause-lines g c =
    let old = g.E.Write.contents c.args.errors.now in
    let new = g.E.Write.contents c.say.new.errors in
    let same : c.as_bytes.result.now ≡ status_text c.args.status = c.as_bytes.ensures.value ∙ c.text.ensures in
    status_lines c.args.status old new (subst (λ (text : List ℕ). WritesPrefix text old new) same c.say.ensures.said)
