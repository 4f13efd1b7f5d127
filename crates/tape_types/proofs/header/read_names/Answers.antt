use Rattle.std.proofs.Common.{rules, Some, None, refl}
use Rattle.tape_types.proofs.KeptNames.{names_kept}
use Rattle.tape_types.proofs.header.read_names.Goals as goal

pub returns-in_default-clause-err : goal.returns-in_default-clause-err
returns-in_default-clause-err c = rw (names_kept c.args.separator c.args.symbols.now c.args.participants.now None _ c.in_default.ensures refl) refl

pub returns-in_default-kept_names-clause-err : goal.returns-in_default-kept_names-clause-err
returns-in_default-kept_names-clause-err c =
    rw (names_kept c.args.separator c.args.symbols.now c.args.participants.now (Some c.in-Some.known.items) None c.in-Some.ensures c.in_default-kept_names.ensures) refl

pub returns-clause-ok : goal.returns-clause-ok
returns-clause-ok c =
    rw (names_kept c.args.separator c.args.symbols.now c.args.participants.now (Some c.in-Some.known.items) (Some c.in-Some-kept_names.who.items) c.in-Some.ensures
    c.in-Some-kept_names.ensures) (search rules)

pub returns-clause-err : goal.returns-clause-err
returns-clause-err c =
    rw (names_kept c.args.separator c.args.symbols.now c.args.participants.now (Some c.in-Some.known.items) (Some c.in-Some-kept_names.who.items) c.in-Some.ensures
    c.in-Some-kept_names.ensures) (search rules)
