use Rattle.std.proofs.Common.{rules, ◌∙◌, bytes_eq}
use Rattle.tape_types.proofs.EightBytes.{number_eq}
use Rattle.tape_types.proofs.symbol.SymbolPartialEq.eq.Goals as goal

pub returns : goal.returns
returns c =
    number_eq c.value.result c.value-2.result _ _ (search rules) (search rules) (search rules) (search rules) c.from_be_bytes.ensures c.from_be_bytes-2.ensures
    ∙ λ i. bytes_eq (c.value.ensures.value i) (c.value-2.ensures.value i)
