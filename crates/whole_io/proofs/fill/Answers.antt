use Rattle.std.proofs.Common.{◌-◌, length, rules}
use Rattle.whole_io.specs.Lemmas.Fills.{failed_read, filled_more, filled_same}
use Rattle.whole_io.proofs.fill.Goals as goal
use Rattle.whole_io.proofs.fill.Goals.{in-Ok, in-Err+else-ne}

pub loop-preserved : goal.loop-preserved
loop-preserved g c =
    let remaining = g.R.Read.remaining in
    elim c.match-read.branch [
      | in-Ok w ↦ record {
        size = search rules;
        within = search rules;
        bytes =
            filled_more (remaining c.args.reader.now) (remaining c.loop.reader) (remaining c.read.new.self) c.loop.len
            (length c.loop.row - c.loop.len) w.in-Ok.more c.match-read.len c.loop.row c.read.new.buf
            c.loop.invariant.within w.in-Ok.ensures.bound.0 w.len-is c.loop.invariant.bytes w.in-Ok.ensures.bytes.0;
      }
      | in-Err+else-ne w ↦ record {
        size = search rules;
        within = search rules;
        bytes =
            filled_same (remaining c.args.reader.now) (remaining c.loop.reader) (remaining c.read.new.self) c.loop.len
            (length c.loop.row - c.loop.len) c.match-read.len c.loop.row c.read.new.buf
            c.loop.invariant.within w.len-is c.loop.invariant.bytes w.in-Err.ensures.bytes;
      }
    ]

pub returns-then-ne-clause-failed : goal.returns-then-ne-clause-failed
returns-then-ne-clause-failed g c =
    let remaining = g.R.Read.remaining in
    failed_read (remaining c.args.reader.now) (remaining c.loop.reader) (remaining c.read.new.self) c.loop.len (length c.loop.row - c.loop.len)
    c.loop.row c.read.new.buf
    (search rules) c.loop.invariant.bytes c.in-Err.ensures.bytes (search rules)
