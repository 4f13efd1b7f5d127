use Rattle.std.proofs.Common.{◌≡◌, ◌+◌, ◌-◌, Some, sym, ap, ◌∙◌, arith}
use Rattle.tape_frames.specs.declared.header.PacketHeader.{PacketHeader}
use Rattle.tape_frames.proofs.Headers.{brings_last, brings_none, brings_other, read_is, read_some}
use Rattle.tape_frames.proofs.header.last_entry.Goals as goal

pub returns-in_default : goal.returns-in_default
returns-in_default c = record {
  last = λ packet spelled. absurd (read_some c.args.bytes.now packet c.in_default.field-0 spelled (rw c.of-unread.ensures.rest at c.in_default.ensures));
}

pub returns-then-header-ne-DATA : goal.returns-then-header-ne-DATA
returns-then-header-ne-DATA c = record {
  last = λ packet spelled.
      let same = read_is c.args.bytes.now packet c.in-Ok.header _ spelled (rw c.of-unread.ensures.rest at c.in-Ok.ensures) in
      sym (brings_none c.args.session packet (λ with_entries. c.if-header-ne-DATA.true (ap (λ (h : PacketHeader). h.kind) same ∙ with_entries)));
}

pub returns-then-header-session : goal.returns-then-header-session
returns-then-header-session c = record {
  last = λ packet spelled.
      let same = read_is c.args.bytes.now packet c.in-Ok.header _ spelled (rw c.of-unread.ensures.rest at c.in-Ok.ensures) in
      sym (brings_other c.args.session packet (λ of_session. c.if-header-session.true (ap (λ (h : PacketHeader). h.session) same ∙ of_session)));
}

pub returns : goal.returns
returns c = record {
  last = λ packet spelled.
      let same = read_is c.args.bytes.now packet c.in-Ok.header _ spelled (rw c.of-unread.ensures.rest at c.in-Ok.ensures) in
      let last : c.saturating_sub.result ≡ c.in-Ok.header.number + c.in-Ok.header.count - 1 =
      omega (arith, c.from.ensures, c.from-2.ensures, c.saturating_sub.ensures) in
      ap Some (last ∙ ap (λ (h : PacketHeader). h.number + h.count - 1) same)
      ∙ sym (brings_last c.args.session packet (ap (λ (h : PacketHeader). h.kind) (sym same) ∙ c.if-header-ne-DATA.false)
      (ap (λ (h : PacketHeader). h.session) (sym same) ∙ c.if-header-session.false));
}
