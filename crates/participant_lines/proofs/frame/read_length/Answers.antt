use Rattle.std.proofs.Common.{rules, ◌≡◌, ◌≤◌, ℕ, Option, IfSome, length, sym, subst, ◌∙◌}
use Rattle.reports.specs.Reading.{announced_length}
use Rattle.participant_lines.proofs.Fronts.{head_read, announced-two, oversize}
use Rattle.participant_lines.proofs.frame.read_length.Goals as goal

pub returns-then-is_oversize-clause-err : goal.returns-then-is_oversize-clause-err
returns-then-is_oversize-clause-err g c =
    let row = c.read_on.new.row in
    let two : c.in-Some.field-0 ≡ 2 = search rules in
    let announced = subst (λ (o : Option ℕ). IfSome o (λ len. (len ≡ announced_length row) × (2 ≤ length row))) c.unwrap-len.ensures
    c.length_in_front.ensures.some in
    let had = g.R.Read.remaining c.args.reader.now in
    let left = g.R.Read.remaining c.read_on.new.reader in
    let read = head_read had left c.args.row.now row c.in-Some.field-0 two c.in-Some.ensures.bytes in
    oversize had left row c.unwrap-len.result announced.1 announced.0 (c.is_oversize.ensures.outside c.if-is_oversize.true) read

pub returns-clause-ok : goal.returns-clause-ok
returns-clause-ok g c =
    let row = c.read_on.new.row in
    let two : c.in-Some.field-0 ≡ 2 = search rules in
    let announced = subst (λ (o : Option ℕ). IfSome o (λ len. (len ≡ announced_length row) × (2 ≤ length row))) c.unwrap-len.ensures
    c.length_in_front.ensures.some in (
      announced-two row announced.1 ∙ sym announced.0,
      head_read (g.R.Read.remaining c.args.reader.now) (g.R.Read.remaining c.read_on.new.reader) c.args.row.now row c.in-Some.field-0 two
          c.in-Some.ensures.bytes,
    )
