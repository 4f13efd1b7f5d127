use Rattle.std.proofs.Common.{◌≡◌, ◌-◌, ◌++◌, ◌∙◌, List, ℕ, ap, append_assoc, length, arith, rules}
use Rattle.std.specs.Int.{w16, w32, to_be_bytes}
use Rattle.day_journal.specs.Groups.{packet_count, packets_text, pending}
use Rattle.day_journal.proofs.PutPackets.{length-pending, numbered_pending}
use Rattle.day_journal.proofs.group_putting.put_body.Goals as goal

pub overflow_sub-count : goal.overflow_sub-count
overflow_sub-count g c =
    omega (arith, c.requires, length-pending c.args.held (g.S.Source.list c.args.source.now), c.min.ensures, c.published.ensures.count)

pub put_packets-requires-clause-some : goal.put_packets-requires-clause-some
put_packets-requires-clause-some g c =
    omega (arith, c.requires, length-pending c.args.held (g.S.Source.list c.args.source.now), c.min.ensures, c.published.ensures.count)

pub put_packets-requires-clause-count : goal.put_packets-requires-clause-count
put_packets-requires-clause-count g c =
    omega (arith, c.requires, length-pending c.args.held (g.S.Source.list c.args.source.now), c.min.ensures, c.published.ensures.count)

pub returns-clause-text : goal.returns-clause-text
returns-clause-text g c =
    let es = pending c.args.held (g.S.Source.list c.args.source.now) in
    let packets = packets_text (packet_count es) c.args.session es in
    let many : c.min.result - c.args.held ≡ length es =
    omega (arith, c.requires, length-pending c.args.held (g.S.Source.list c.args.source.now), c.min.ensures, c.published.ensures.count) in
    let first : c.put_packets.new.text.items ≡ packets = search rules in
    let second : c.extend_from_slice.new.self.items ≡ c.put_packets.new.text.items ++ to_be_bytes w16 0 = search rules in
    let third : c.extend_from_slice-2.new.self.items ≡ c.extend_from_slice.new.self.items ++ to_be_bytes w32 (c.min.result - c.args.held) = search rules in
    third ∙ ap (λ (n : ℕ). c.extend_from_slice.new.self.items ++ to_be_bytes w32 n) many
    ∙ ap (λ (t : List ℕ). t ++ to_be_bytes w32 (length es)) (second ∙ ap (λ (t : List ℕ). t ++ to_be_bytes w16 0) first)
    ∙ append_assoc packets (to_be_bytes w16 0) (to_be_bytes w32 (length es))

pub returns-clause-group : goal.returns-clause-group
returns-clause-group g c =
    let list = g.S.Source.list c.args.source.now in
    record {
      some = c.requires;
      within = omega (arith, c.requires, length-pending c.args.held list);
      numbered = numbered_pending c.args.held list c.published.ensures.published.numbered c.requires;
      packets = c.in_ok-put_packets.ensures.packets;
    }
