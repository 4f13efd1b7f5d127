use Rattle.std.proofs.Common.{arith, refl}
use Rattle.csv_days.proofs.CheckLemmas.{notes-fault, notes-message}
use Rattle.csv_days.proofs.EndLemmas.{ok_map}
use Rattle.csv_days.proofs.table_check.TableCheck.add_row.Goals as goal

pub returns-in-Ok-clause-notes : goal.returns-in-Ok-clause-notes
returns-in-Ok-clause-notes c = rw c.in-Ok.is
    (ok_map c.add.result _ _ (notes-message c.args.self.now _ c.args.number c.in-Ok.message refl refl refl) c.add.ensures)

pub returns-in-Err-clause-notes : goal.returns-in-Err-clause-notes
returns-in-Err-clause-notes c = rw c.in-Err.is
    (ok_map c.add_fault.result _ _ (notes-fault c.args.self.now c.add_fault.new.self c.args.number c.in-Err.fault (omega (arith, c.ranges.number.fits)) c.add_fault.ensures.names)
    c.add_fault.ensures.told)
