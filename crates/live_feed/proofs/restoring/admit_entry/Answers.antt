use Rattle.std.proofs.Common.{◌≡◌, ◌<◌, ◌∙◌, Some, ap, get_or, length, rules, subst, sym}
use Rattle.std.specs.Prelude.{slice_set}
use Rattle.std.proofs.lemmas.Option.{slice_get-get_or}
use Rattle.line_ledger.specs.Seats.{SeatState, with_told}
use Rattle.live_feed.proofs.RestoredGroups.{whos_set}
use Rattle.live_feed.proofs.restoring.admit_entry.Goals as goal

-- the seat is of the same participant then
pub returns-in-Ok-clause-whos : goal.returns-in-Ok-clause-whos
returns-in-Ok-clause-whos g c =
    let seats = c.args.seats.now.items in
    let seat = c.index_mut.result.now in
    let is : seat ≡ get_or seats c.in-Some.at seat = c.index_mut.ensures.value in
    let within : c.in-Some.at < length seats = subst (λ l. c.in-Some.at < length l) c.as_slice.ensures.value c.in-Some.ensures.some.0 in
    whos_set seats c.in-Some.at c.admit.new.seat seat within
    (ap (λ (s : SeatState). s.who) c.in-Ok.ensures.ok.told ∙ ap (λ (s : SeatState). s.who) is)

-- and was told the entry
pub returns-in-Ok-clause-told : goal.returns-in-Ok-clause-told
returns-in-Ok-clause-told g c =
    let seats = c.args.seats.now.items in
    let seat = c.index_mut.result.now in
    let e = c.args.entry.now in
    let is : seat ≡ get_or seats c.in-Some.at seat = c.index_mut.ensures.value in
    let within : c.in-Some.at < length seats = subst (λ l. c.in-Some.at < length l) c.as_slice.ensures.value c.in-Some.ensures.some.0 in
    let number : c.in-Ok.receipt ≡ e.number = search rules in
    record {
      at = c.in-Some.at;
      seat = seat;
      found = slice_get-get_or seats c.in-Some.at seat within ∙ ap Some (sym is);
      own = c.in-Ok.ensures.ok.own_line;
      told = ap (slice_set seats c.in-Some.at) (c.in-Ok.ensures.ok.told ∙ ap (λ n. with_told seat n e.message) number);
    }

pub returns-in-Ok-2-clause-whos : goal.returns-in-Ok-2-clause-whos
returns-in-Ok-2-clause-whos g c =
    let seats = c.args.seats.now.items in
    let seat = c.index_mut.result.now in
    let is : seat ≡ get_or seats c.in-Some.at seat = c.index_mut.ensures.value in
    let within : c.in-Some.at < length seats = subst (λ l. c.in-Some.at < length l) c.as_slice.ensures.value c.in-Some.ensures.some.0 in
    whos_set seats c.in-Some.at c.admit.new.seat seat within
    (ap (λ (s : SeatState). s.who) c.in-Ok-2.ensures.ok.told ∙ ap (λ (s : SeatState). s.who) is)
