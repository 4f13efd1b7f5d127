use Rattle.std.proofs.Common.{rules, ◌≡◌, sym, ◌∙◌}
use Rattle.tape_core.specs.Laws.{entry_eq}
use Rattle.tape_core.specs.Lemmas.Equality.{entry-Decides}
use Rattle.tape_core.proofs.entry.Entry.is_same.Goals as goal

-- `==` of entries decides whether they are the same
pub returns : goal.returns
returns c =
    let decides = entry-Decides c.args.self.now c.args.other.now in
    let is : c.eq.result ≡ entry_eq c.args.self.now c.args.other.now = search rules in
    record { same = (λ true_of. decides.0 (sym is ∙ true_of), λ one. is ∙ decides.1 one) }
