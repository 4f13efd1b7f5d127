use Rattle.std.proofs.Common.{◌≡◌, ◌++◌, drop}
use Rattle.std.specs.List.{flat_map}
use Rattle.day_control.specs.Lines.{full_lines, line_text}
use Rattle.day_control.proofs.FullLines.{put_rest}
use Rattle.day_control.proofs.answer.put_answer.Given as goal

-- what was put, and what is put for the rest, are the lines
abbrev pub invariant-loop-byte : goal.invariant-loop-byte
invariant-loop-byte l = flat_map line_text (full_lines l.told) ≡ l.text.items ++ put_rest l.is_begun (drop l.byte-index l.told)
