-- Defines what a writer beside a recorded text holds.
use Rattle.std.specs.Prelude.{ℕ, List, ◌++◌, take}
use Rattle.recorded_tapes.specs.declared.beside.Beside.{Beside}

-- the text that was written
abbrev pub beside_text : Beside → List ℕ
beside_text b = take b.same b.recorded.now ++ b.behind.items
