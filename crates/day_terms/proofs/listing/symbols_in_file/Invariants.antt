use Rattle.std.proofs.Common.{◌≡◌, ◌+◌, length}
use Rattle.day_terms.specs.Lines.{lines_left}
use Rattle.day_terms.specs.Listings.{each_line, file_symbols}
use Rattle.day_terms.proofs.Fronts.{with_front}
use Rattle.day_terms.proofs.listing.symbols_in_file.Given as goal

-- the symbols so far and those of the lines that are left are those of the file
abbrev pub invariant-loop-name : goal.invariant-loop-name
invariant-loop-name l = with_front l.symbols.items (each_line (length l.symbols.items + 1) (lines_left l.name-iterator)) ≡ file_symbols l.fn.text
