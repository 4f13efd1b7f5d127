-- Defines what an `Inside` owns: what a box owns, or nothing.
use base.Fml.{Fml, ftrue}
use base.Stored.{Coded}
use denote.RawPtr.{Ptr}
use Rattle.std.specs.Prelude.{Option, None, Some}
use Rattle.std.specs.Coded.{coded_option}
use Rattle.std.specs.Box.Ownership.{box_owns}
use Rattle.std.specs.Global.{Global}
use Rattle.std.specs.contracts.impls.GlobalAllocator.TheImpl.{ghosts}
use Rattle.tapebox_c.specs.contracts.held.Held.{the_row}

-- what a box at a pointer owns, or nothing
abbrev pub inside_owns : Global → Ptr → Option the_row.Denot → Fml
inside_owns alloc at None = ftrue
inside_owns alloc at (Some held) = box_owns (ghosts.dealloc_token alloc) the_row at held

-- how the logic stores what an `Inside` holds
abbrev pub held_coded : Coded (Option the_row.Denot)
held_coded = coded_option the_row.coded
