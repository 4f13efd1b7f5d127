use Rattle.std.proofs.Common.{◌≡◌, [], length, take}
use Rattle.std.specs.List.{All}
use Rattle.tape_core.specs.Ending.{AreOfAtMost, AreTableOf, KeepsEnd}
use Rattle.tape_core.specs.Tape.{TapeState, messages_of}
use Rattle.tape_core.proofs.end_tape.EndTape.count_all.Given as goal

-- the figures of the messages so far
abbrev pub invariant-loop-sent : goal.invariant-loop-sent
invariant-loop-sent l = record {
  few : All (AreOfAtMost l.sent-index) l.table.items;
  count : length l.table.items ≡ length l.fn.table.items;
  table : (t : TapeState) → KeepsEnd t l.fn.self → t.listing ≡ l.fn.listing → AreTableOf t [] l.fn.table.items → AreTableOf t (take l.sent-index (messages_of t.entries)) l.table.items;
}
