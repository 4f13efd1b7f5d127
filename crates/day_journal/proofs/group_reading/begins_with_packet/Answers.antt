use Rattle.std.proofs.Common.{◌≡◌, ◌-◌, ◌∙◌, take, true, false, sym, arith, rules}
use Rattle.tape_frames.specs.Reading.{packet_of}
use Rattle.day_journal.specs.GroupReading.{is_packet}
use Rattle.day_journal.proofs.ReadPackets.{begins_found, begins_next, begins_none}
use Rattle.day_journal.proofs.group_reading.begins_with_packet.Goals as goal

pub returns-then-is_packet : goal.returns-then-is_packet
returns-then-is_packet c =
    let found : is_packet (packet_of (take (c.loop-len.len - 1) c.args.bytes.now)) ≡ true = search rules in
    sym (begins_found c.loop-len.len c.args.bytes.now (omega (arith, c.loop-len-test.true)) found) ∙ c.loop-len.invariant.left

pub loop-len-preserved : goal.loop-len-preserved
loop-len-preserved c =
    let none : is_packet (packet_of (take (c.loop-len.len - 1) c.args.bytes.now)) ≡ false = search rules in
    record {
      within = omega (arith, c.loop-len.invariant.within);
      left = begins_next c.loop-len.len c.args.bytes.now (omega (arith, c.loop-len-test.true)) none ∙ c.loop-len.invariant.left;
    }

pub returns : goal.returns
returns c = sym (begins_none c.loop-len.len c.args.bytes.now (omega (arith, c.loop-len-test.false))) ∙ c.loop-len.invariant.left
