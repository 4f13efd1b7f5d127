use Rattle.std.proofs.Common.{rules, ◌≡◌, length}
use Rattle.std.proofs.lemmas.List.{nil_from_length}
use Rattle.line_ledger.proofs.Openings.{none_of_seven}
use Rattle.line_ledger.proofs.prepared.prepare.Goals as goal

-- with an empty open tape, only memory can be lacking
pub returns-clause-not_empty : goal.returns-clause-not_empty
returns-clause-not_empty c =
    let none : length c.args.tape.entries ≡ 0 = search rules in
    none_of_seven c.prepare_empty.result c.args.tape.closed c.args.tape.entries (search rules) (nil_from_length c.args.tape.entries none)
    c.prepare_empty.ensures.memory
