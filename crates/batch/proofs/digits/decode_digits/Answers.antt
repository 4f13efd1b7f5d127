use Rattle.std.proofs.Common.{rules, ◌≡◌, ◌≤◌, ◌*◌, ◌+◌, ◌%◌, ◌∙◌, ◌++◌, ◌-◌, length, take, drop, Some, sym, ap, arith, refl}
use Rattle.std.proofs.Common.{length-take, length-drop, length-append}
use Rattle.std.proofs.lemmas.List.{drop-drop}
use Rattle.std.proofs.lemmas.Slice.{take-put_mid}
use Rattle.batch.specs.MessageLine.{hex_bytes}
use Rattle.batch.proofs.HexLemmas.{decode_sized-bytes, decoded}
use Rattle.batch.proofs.SpelledSixteens.{spelled-more, spelled-none, spelled-none_sixteen, spelled-whole}
use Rattle.batch.proofs.digits.decode_digits.Goals as goal

pub loop-sixteen-init : goal.loop-sixteen-init
unfolding hex_bytes
loop-sixteen-init c = record {
  whole = refl;
  left = omega arith;
  rest = refl;
  room = c.told-row;
  spelled = refl;
}

pub loop-sixteen-preserved : goal.loop-sixteen-preserved
loop-sixteen-preserved c =
    let digits = c.args.digits.now in
    let loop = c.loop-sixteen in
    let twice : 2 * loop.at + 16 ≡ 2 * (loop.at + 8) = omega arith in
    let within : 2 * loop.at ≤ length digits = omega (arith, loop.invariant.left) in
    let bytes = c.copy_from_slice.new.self in
    record {
      whole = omega (arith, loop.invariant.whole);
      left = search rules;
      rest =
          c.in-Some.ensures.cases.1 ∙ ap (drop 16) loop.invariant.rest ∙ drop-drop 16 (2 * loop.at) digits
          ∙ ap (λ n. drop n digits) twice;
      room =
          let at = loop.at in
          let row = loop.row in
          let behind = drop (at + 8 - at) (drop at row) in
          omega (
            arith,
            loop.invariant.room,
            loop.invariant.left,
            c.in-Some.ensures.cases.2,
            c.requires.fits,
            length-append (take at row) (bytes ++ behind),
            length-append bytes behind,
            length-take at row,
            length-drop (at + 8 - at) (drop at row),
            length-drop at row,
            c.copy_from_slice.ensures.len,
            length-take (at + 8 - at) (drop at row),
          );
      spelled =
          spelled-more digits loop.row loop.rest.now loop.at loop.invariant.rest within loop.invariant.spelled
          c.in-Some.sixteen.now c.in_ok-bytes.bytes (search rules) c.in_ok-bytes.ensures.bytes
          ∙ ap Some (sym (take-put_mid loop.at _ loop.row bytes (loop.at + 8) (search rules) (search rules)
          ∙ ap (λ x. take loop.at loop.row ++ x) c.copy_from_slice.ensures.after));
    }

pub returns-in_err-bytes-clause-bytes : goal.returns-in_err-bytes-clause-bytes
returns-in_err-bytes-clause-bytes c =
    let loop = c.loop-sixteen in
    rw c.from_residual.ensures
    (sym (spelled-none_sixteen c.args.digits.now loop.row loop.rest.now loop.at loop.invariant.rest (omega (arith, loop.invariant.left))
    loop.invariant.spelled c.in-Some.sixteen.now c.in-Some.behind.now (search rules) (search rules) c.in_err-bytes.ensures.bytes))

pub returns-in-Ok-clause-bytes : goal.returns-in-Ok-clause-bytes
returns-in-Ok-clause-bytes c =
    let loop = c.loop-sixteen in
    let out = c.decode_to_slice.new.out in
    let even : length loop.rest.now % 2 ≡ 0 = omega (arith, loop.invariant.left, c.requires.even) in
    ap Some (take-put_mid loop.at _ loop.row out _ (search rules) (search rules))
    ∙ sym (spelled-whole c.args.digits.now loop.row loop.rest.now loop.at loop.invariant.rest (omega (arith, loop.invariant.left))
    loop.invariant.spelled out
    (sym (decoded _ _ _ c.in-Ok.ensures.value ∙ decode_sized-bytes loop.rest.now _ even (search rules))))

pub returns-in-Err-clause-bytes : goal.returns-in-Err-clause-bytes
returns-in-Err-clause-bytes c =
    let loop = c.loop-sixteen in
    let even : length loop.rest.now % 2 ≡ 0 = omega (arith, loop.invariant.left, c.requires.even) in
    sym (spelled-none c.args.digits.now loop.row loop.rest.now loop.at loop.invariant.rest (omega (arith, loop.invariant.left))
    loop.invariant.spelled (sym (decoded _ _ _ c.in-Err.ensures.value ∙ decode_sized-bytes loop.rest.now _ even (search rules))))
