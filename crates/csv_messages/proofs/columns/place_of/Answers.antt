use Rattle.std.proofs.Common.{sym, refl}
use Rattle.csv.specs.Records.{fields_of}
use Rattle.csv_messages.specs.Columns.{place_of}
use Rattle.csv_messages.proofs.ColumnLemmas.{place_of-here, place_of-none, place_of-on}
use Rattle.csv_messages.proofs.columns.place_of.Goals as goal

pub loop-place-init : goal.loop-place-init
unfolding place_of
loop-place-init c = refl

pub loop-place-preserved : goal.loop-place-preserved
loop-place-preserved c =
    place_of-on (fields_of c.args.names.now) c.args.name.now c.in-Some.other.now c.loop-place.place c.loop-place.invariant (sym c.in-Some.ensures.value) (sym c.if-eq.ensures)

pub returns-in_default : goal.returns-in_default
returns-in_default c =
    sym (place_of-none (fields_of c.args.names.now) c.args.name.now c.loop-place.place c.loop-place.invariant (sym c.in_default.ensures.value))

pub returns-then-eq : goal.returns-then-eq
returns-then-eq c =
    sym (place_of-here (fields_of c.args.names.now) c.args.name.now c.in-Some.other.now c.loop-place.place c.loop-place.invariant (sym c.in-Some.ensures.value) (sym c.if-eq.ensures))
