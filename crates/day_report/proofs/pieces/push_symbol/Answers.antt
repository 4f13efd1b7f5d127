use Rattle.std.proofs.Common.{◌≡◌, ◌∙◌, refl, ap}
use Rattle.std.specs.Slice.Iter.{iter_rest}
use Rattle.day_report.proofs.Listed.{AreParticipants-all}
use Rattle.day_report.proofs.PieceLemmas.{one_more}
use Rattle.day_report.proofs.pieces.push_symbol.Goals as goal

pub loop-who-init : goal.loop-who-init
loop-who-init g c =
    let listing = c.args.tape.now.listing in
    let all : iter_rest c.into_iter-who-iterator.result ≡ listing.participants =
    ap iter_rest c.into_iter-who-iterator.ensures.into_iter_gives ∙ rw c.participants-who-items.ensures.rest (rw c.listing.ensures.listing refl) in
    record {
      can = tt;
      finite = tt;
      listed = rw all (AreParticipants-all listing);
      rows = rw all (one_more _ _ _ _ _ (rw c.consolidated.ensures at c.in_ok-push.ensures.items) refl);
    }
