use Rattle.std.proofs.Common.{arith, sym}
use Rattle.std.proofs.lemmas.List.{drop_all}
use Rattle.csv.specs.Records.{fields_of}
use Rattle.csv_messages.proofs.ColumnLemmas.{drop-none, header_fault-here, header_fault-none, header_fault-on}
use Rattle.csv_messages.proofs.columns.header_fault.Goals as goal

pub loop-place-preserved : goal.loop-place-preserved
loop-place-preserved c =
    header_fault-on (fields_of c.args.names.now) c.in-Some.name.now c.loop-place.place c.loop-place.invariant (sym c.in-Some.ensures.value)
    (sym c.in_default-name_fault.ensures)

pub returns-in_default : goal.returns-in_default
returns-in_default c =
    sym (header_fault-none (fields_of c.args.names.now) c.loop-place.place c.loop-place.invariant
    (drop-none (fields_of c.args.names.now) c.loop-place.place (sym c.in_default.ensures.value)))

pub returns-in-Some-name_fault : goal.returns-in-Some-name_fault
returns-in-Some-name_fault c =
    sym (header_fault-here (fields_of c.args.names.now) c.in-Some.name.now c.loop-place.place c.in-Some-name_fault.fault c.loop-place.invariant (sym c.in-Some.ensures.value)
    (sym c.in-Some-name_fault.ensures))

pub returns : goal.returns
returns c =
    sym (header_fault-none (fields_of c.args.names.now) c.loop-place.place c.loop-place.invariant
    (drop_all c.loop-place.place (fields_of c.args.names.now) (omega (arith, c.len-place-end.ensures))))
