use Rattle.std.proofs.Common.{rules, ◌≡◌, ◌≤◌, ◌+◌, length, length-take-le, take, arith}
use Rattle.participant_lines.proofs.Fronts.{cut_off, unfinished, whole_frame}
use Rattle.participant_lines.proofs.frame.read_frame.Goals as goal

pub returns-in-None-clause-err : goal.returns-in-None-clause-err
returns-in-None-clause-err g c =
    let remaining = g.R.Read.remaining in
    let row = c.read_length.new.row in
    let long : 2 ≤ length row = search rules in
    let piece = c.in-None.ensures.failed in
    unfinished (remaining c.args.reader.now) (remaining c.read_length.new.reader) (remaining c.read_on.new.reader) (take 2 row) piece.0 c.in_ok-len.len
    (length-take-le 2 row long) c.in_ok-len.ensures.ok.0 c.in_ok-len.ensures.len c.in_ok-len.ensures.ok.1 piece.1 (omega (arith, piece.2))

pub returns-in-Some-clause-err : goal.returns-in-Some-clause-err
returns-in-Some-clause-err g c =
    let remaining = g.R.Read.remaining in
    let row = c.read_length.new.row in
    let long : 2 ≤ length row = search rules in
    let piece = c.in-Some.ensures.bytes in
    cut_off (remaining c.args.reader.now) (remaining c.read_length.new.reader) (remaining c.read_on.new.reader) (take 2 row) piece.0 c.in_ok-len.len
    (length-take-le 2 row long) c.in_ok-len.ensures.ok.0 c.in_ok-len.ensures.len c.in_ok-len.ensures.ok.1 piece.3
    (omega (arith, piece.1, c.if-read-whole.true)) (c.in-Some.ensures.end c.if-read-whole.true)

pub returns-in-Some-2-clause-ok : goal.returns-in-Some-2-clause-ok
returns-in-Some-2-clause-ok g c =
    let remaining = g.R.Read.remaining in
    let row = c.read_length.new.row in
    let long : 2 ≤ length row = search rules in
    let piece = c.in-Some.ensures.bytes in
    let all : c.in-Some.read ≡ 2 + c.in_ok-len.len = omega (arith, c.in-Some.ensures.within, c.if-read-whole.false) in
    whole_frame (remaining c.args.reader.now) (remaining c.read_length.new.reader) (remaining c.read_on.new.reader) (take 2 row) piece.0 c.in_ok-len.len
    (length-take-le 2 row long) c.in_ok-len.ensures.ok.0 c.in_ok-len.ensures.len c.in_ok-len.ensures.ok.1 piece.3
    c.read_on.new.row c.in-Some.read (omega (arith, piece.1, all)) all piece.2
