use Rattle.std.proofs.Common.{◌≡◌, ◌*◌, ◌<◌, ◌≤◌, ◌∙◌, drop, refl, arith}
use Rattle.tape_frames.specs.Limits.{ENTRIES_MOST}
use Rattle.day_journal.specs.Groups.{first_packet, packet_count, pending}
use Rattle.day_journal.proofs.PutPackets.{ArePackets-all, AreSpelled-more, Left-end, Left-more, cut_packet, length-pending}
use Rattle.day_journal.proofs.group_putting.put_packets.Goals as goal

pub overflow_add-packets : goal.overflow_add-packets
overflow_add-packets g c = omega (arith, c.requires.count, length-pending c.args.held (g.S.Source.list c.args.source.now))

pub overflow_add-first : goal.overflow_add-first
overflow_add-first g c =
    omega (arith, c.requires.some, c.requires.count, length-pending c.args.held (g.S.Source.list c.args.source.now), c.loop-place-test.true)

pub overflow_add-first-in-loop-place : goal.overflow_add-first-in-loop-place
overflow_add-first-in-loop-place g c =
    omega (arith, c.requires.some, c.requires.count, length-pending c.args.held (g.S.Source.list c.args.source.now), c.loop-place-test.true)

pub cut-requires-clause-published : goal.cut-requires-clause-published
cut-requires-clause-published g c =
    omega (arith, c.requires.some, c.requires.count, length-pending c.args.held (g.S.Source.list c.args.source.now), c.loop-place-test.true)

pub loop-place-preserved : goal.loop-place-preserved
loop-place-preserved g c =
    let list = g.S.Source.list c.args.source.now in
    let es = pending c.args.held list in
    let place = c.loop-place.place in
    let below : place < packet_count es = omega (arith, c.loop-place-test.true, c.requires.count) in
    let cut : c.cut.result ≡ first_packet c.args.session (drop (ENTRIES_MOST * place) es) =
    c.cut.ensures.packet ∙ cut_packet c.args.session c.args.held place list in
    record {
      left =
          Left-more c.args.text.now.items c.loop-place.text.items c.put_frame.new.text.items c.args.session es (packet_count es) place c.cut.result below
          c.loop-place.invariant.left cut c.in_ok-put_frame.ensures.text;
      spelled = AreSpelled-more c.args.session es place c.cut.result c.loop-place.invariant.spelled cut c.in_ok-put_frame.ensures.packet;
    }

pub returns-clause-text : goal.returns-clause-text
returns-clause-text g c =
    let es = pending c.args.held (g.S.Source.list c.args.source.now) in
    let all : packet_count es ≤ c.loop-place.place = omega (arith, c.loop-place-test.false, c.requires.count) in
    Left-end c.args.text.now.items c.loop-place.text.items c.args.session es (packet_count es) c.loop-place.place all c.loop-place.invariant.left

pub returns-clause-packets : goal.returns-clause-packets
returns-clause-packets g c =
    let es = pending c.args.held (g.S.Source.list c.args.source.now) in
    let all : packet_count es ≤ c.loop-place.place = omega (arith, c.loop-place-test.false, c.requires.count) in
    ArePackets-all c.args.session es (packet_count es) c.loop-place.place refl all c.loop-place.invariant.spelled
