use Rattle.std.proofs.Common.{◌≡◌, ◌++◌, length, take}
use Rattle.std.specs.Prelude.{flat_map}
use Rattle.std.specs.Int.{w16, to_be_bytes}
use Rattle.day_journal.proofs.header.put_symbols.Given as goal

-- the number and the symbols so far are written
abbrev pub invariant-loop-symbol : goal.invariant-loop-symbol
invariant-loop-symbol l = l.text.items ≡ l.fn.text.items ++ (to_be_bytes w16 (length l.symbols) ++ flat_map (λ s. s) (take l.symbol-index l.symbols))
