use Rattle.std.proofs.Common.{◌≡◌, rules}
use Rattle.std.specs.Cmp.Lexicographic.{pointwise}
use Rattle.std.proofs.lemmas.Slice.Eq.{bytes_eq-Decides, slice_eq-Decides}
use Rattle.tape_types.specs.Names.{symbol_eq}
use Rattle.days.proofs.day.same_symbols.Goals as goal

-- `==` of symbols decides whether they are the same
pub returns : goal.returns
returns c =
    let is : c.eq.result ≡ pointwise symbol_eq c.args.one.now c.args.other.now = search rules in
    slice_eq-Decides bytes_eq-Decides c.args.one.now c.args.other.now c.eq.result is
