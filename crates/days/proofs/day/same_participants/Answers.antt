use Rattle.std.proofs.Common.{◌≡◌, nat_eq, rules}
use Rattle.std.specs.Cmp.Lexicographic.{pointwise}
use Rattle.std.proofs.lemmas.Bool.Decides.{Decides-eqb}
use Rattle.std.proofs.lemmas.Slice.Eq.{slice_eq-Decides}
use Rattle.days.proofs.day.same_participants.Goals as goal

-- `==` of participants decides whether they are the same
pub returns : goal.returns
returns c =
    let is : c.eq.result ≡ pointwise nat_eq c.args.one.now c.args.other.now = search rules in
    slice_eq-Decides Decides-eqb c.args.one.now c.args.other.now c.eq.result is
