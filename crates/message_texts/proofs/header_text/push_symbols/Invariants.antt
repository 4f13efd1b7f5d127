use Rattle.std.proofs.Common.{◌≡◌, ◌++◌, ◌==◌, map, take}
use Rattle.std.specs.List.{join_with_byte}
use Rattle.tape_types.specs.Ranges.{name_of}
use Rattle.message_texts.proofs.header_text.push_symbols.Given as goal

-- the names so far are written
abbrev pub invariant-loop-symbol : goal.invariant-loop-symbol
invariant-loop-symbol l = record {
  first : l.first ≡ (l.symbol-index == 0);
  text : l.text.items ≡ l.fn.text.items ++ join_with_byte 32 (map name_of (take l.symbol-index l.symbols));
}
