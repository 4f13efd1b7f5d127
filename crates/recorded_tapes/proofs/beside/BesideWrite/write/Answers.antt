use Rattle.std.proofs.Common.{◌≡◌, ◌++◌, ◌∙◌, [], drop, length, rules, sym}
use Rattle.std.proofs.lemmas.Bool.Decides.{Decides-eqb}
use Rattle.std.proofs.lemmas.Slice.Eq.{starts_is}
use Rattle.recorded_tapes.proofs.TextLemmas.{grown, no_bytes}
use Rattle.recorded_tapes.proofs.beside.BesideWrite.write.Goals as goal

pub returns-then-starts_with-clause-bytes : goal.returns-then-starts_with-clause-bytes
returns-then-starts_with-clause-bytes c =
    let beside = c.args.self.now in
    let left = c.left.result.now in
    let none : beside.behind.items ≡ [] = sym c.as_slice.ensures.value ∙ no_bytes c.as_slice.result.now (search rules) in
    let begins : left ≡ c.args.buf.now ++ drop (length c.args.buf.now) left =
    (starts_is Decides-eqb left c.args.buf.now c.starts_with.result c.starts_with.ensures.value).0 (search rules) in
    grown beside.recorded.now beside.behind.items c.args.buf.now (drop (length c.args.buf.now) left) beside.same beside.within none
    (sym c.left.ensures ∙ begins)
