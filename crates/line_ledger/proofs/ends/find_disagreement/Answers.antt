use Rattle.std.proofs.Common.{List, subst}
use Rattle.tape_core.specs.declared.entry.Entry.{Entry}
use Rattle.line_ledger.specs.Cursors.{AllStandAt}
use Rattle.line_ledger.proofs.OneDisagreement.{listed_at, told_more_seats}
use Rattle.line_ledger.proofs.ends.find_disagreement.Goals as goal

pub returns-in-Some : goal.returns-in-Some
returns-in-Some g c =
    let t = c.args.tape.now in
    let k = c.loop-who.who-index in
    let found = c.in-Some.ensures c.args.seats.now t.entries in
    record {
      k = k;
      listed = listed_at c.as_slice-participants.result.now t.listing.participants k c.who-item.result c.loop-who.invariant.1 c.loop-who-test.true c.who-item.is;
      before = c.loop-who.invariant.0;
      first = found (subst (λ (es : List Entry). AllStandAt c.compare-cursors.result.row c.args.seats.now es) c.entries.ensures.entries
          c.compare-cursors.ensures);
    }

pub loop-who-preserved : goal.loop-who-preserved
loop-who-preserved g c =
    let t = c.args.tape.now in
    let k = c.loop-who.who-index in
    let who = c.who-item.result in
    let listed = listed_at c.as_slice-participants.result.now t.listing.participants k who c.loop-who.invariant.1 c.loop-who-test.true c.who-item.is in
    let same = c.in_default.ensures c.args.seats.now t.entries
    (subst (λ (es : List Entry). AllStandAt c.compare-cursors.result.row c.args.seats.now es) c.entries.ensures.entries c.compare-cursors.ensures) in
    (told_more_seats k t.listing.participants t.entries c.args.seats.now who c.loop-who.invariant.0 listed same, c.loop-who.invariant.1)
