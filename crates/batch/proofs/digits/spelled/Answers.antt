use Rattle.std.proofs.Common.{rules, ◌≡◌, ◌<◌, ◌*◌, ◌∙◌, length, take, Some, sym, ap, arith, refl}
use Rattle.std.proofs.lemmas.List.{length-set, take_all, take_more_set}
use Rattle.batch.specs.MessageLine.{hex_bytes}
use Rattle.batch.proofs.HexLemmas.{hex_bytes-no_digit}
use Rattle.batch.proofs.DigitPairs.{pair-more}
use Rattle.batch.proofs.digits.spelled.Goals as goal

pub returns-then-not-are_digits : goal.returns-then-not-are_digits
returns-then-not-are_digits c =
    let sixteen : length c.args.digits.now ≡ 16 = search rules in
    record { bytes = sym (hex_bytes-no_digit c.args.digits.now (omega (arith, sixteen)) (sym c.if-not-are_digits.ensures)) }

pub loop-at-init : goal.loop-at-init
unfolding hex_bytes
loop-at-init c = record {
  all = sym c.if-not-are_digits.ensures;
  room = refl;
  spelled = refl;
}

pub loop-at-preserved : goal.loop-at-preserved
loop-at-preserved c =
    let digits = c.args.digits.now in
    let loop = c.loop-at in
    let sixteen : length digits ≡ 16 = search rules in
    let inside : loop.at < 8 = c.loop-at-test.true in
    record {
      all = loop.invariant.all;
      room = length-set loop.bytes _ _ ∙ loop.invariant.room;
      spelled =
          pair-more digits (take loop.at loop.bytes) loop.at c.digit_value.result c.digit_value-in-loop-at.result (omega (arith, sixteen, inside))
          loop.invariant.all c.digit_value.ensures.value c.digit_value-in-loop-at.ensures.value loop.invariant.spelled
          ∙ ap Some (sym (take_more_set loop.bytes loop.at _ (omega (arith, loop.invariant.room, inside))));
    }

pub returns : goal.returns
returns c =
    let digits = c.args.digits.now in
    let loop = c.loop-at in
    let sixteen : length digits ≡ 16 = search rules in
    let end : loop.at ≡ 8 = search rules in
    record {
      bytes =
          ap Some (sym (take_all loop.at loop.bytes (omega (arith, loop.invariant.room, end)))) ∙ sym loop.invariant.spelled
          ∙ ap hex_bytes (take_all (2 * loop.at) digits (omega (arith, sixteen, end)));
    }
