-- Shows that a full `Inside` and a `Loose` own what a box of the same types owns.
use mathlib.Core.List.{[]}
use mir.Syntax.{impl, tnil, dnil}
use denote.Signature.{Slot, plain}
use Rattle.std.proofs.BoxSteps.Form.{Bx}
use Rattle.std.specs.contracts.alloc.Global as Heap
use Rattle.std.specs.contracts.impls.GlobalAllocator.TheImpl.{ghosts, dict}
use Rattle.std.proofs.alloc.Global.TheLaws as heap
use Rattle.tapebox_c.specs.contracts.held.Held as Held
use Rattle.tapebox_c.proofs.held.Held.TheLaws as held
use Rattle.tapebox_c.specs.contracts.loose.Loose as Loose
use Rattle.tapebox_c.specs.contracts.inside.Inside as Inside

abbrev pub E : Bx
E = record { row = Held.the_row; laws = held.the_row_laws; al = record { row = Heap.the_row; laws = heap.the_row_laws; g = ghosts; d = dict; drops = impl [] tnil dnil } }

abbrev pub FromLoose : Slot 0
FromLoose = plain (λ _. Loose.the_row Held.the_row Heap.the_row ghosts)

abbrev pub FromInside : Slot 0
FromInside = plain (λ _. Inside.the_row)
