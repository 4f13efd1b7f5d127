use Rattle.std.proofs.Common.{◌≡◌, ◌∙◌, ap, arith, length-take, rules, sym, refl, take}
use Rattle.reports.specs.Reading.{message_at}
use Rattle.batch.specs.MessageLine.{from_bytes, hex_bytes, spelled_message}
use Rattle.batch.proofs.HexLemmas.{hex_bytes-odd}
use Rattle.batch.proofs.FrontLemmas.{rest-or_longest, spelled-front_None, spelled-rest_None, spelled-Some}
use Rattle.batch.proofs.message_line.spelled_message.Goals as goal
use Rattle.batch.proofs.message_line.spelled_message.Goals.{After-decode}

pub returns-then-digits-ne0 : goal.returns-then-digits-ne0
returns-then-digits-ne0 c = rw (hex_bytes-odd c.args.digits.now (omega arith)) refl

pub returns-in_default : goal.returns-in_default
returns-in_default c =
    spelled-front_None c.args.digits.now c.split_at.result.0.now c.split_at.result.1.now c.split_at.ensures.by_index.0 (omega arith) c.in_default.ensures.bytes

pub returns-then-not-are_digits : goal.returns-then-not-are_digits
returns-then-not-are_digits c =
    spelled-rest_None c.args.digits.now c.split_at.result.0.now c.split_at.result.1.now c.split_at.ensures.by_index.0 (omega arith) (omega arith)
    (sym c.if-not-are_digits.ensures)

-- what is read of the front's bytes is what all digits spell
front_read : (c : After-decode) → from_bytes (message_at (take c.in-Some.len c.decode_digits.new.row)) ≡ spelled_message (hex_bytes c.args.digits.now)
front_read c =
    let digits = c.args.digits.now in
    let front = c.split_at.result.0.now in
    let rest = c.split_at.result.1.now in
    let bytes = take c.in-Some.len c.decode_digits.new.row in
    let split = c.split_at.ensures.by_index.0 in
    let kept = length-take c.in-Some.len c.decode_digits.new.row in
    let half = c.in-Some.ensures.len in
    let all = rest-or_longest digits front rest bytes split (omega arith) (omega arith) in
    spelled-Some digits front rest bytes split (omega arith) (omega arith) all c.in-Some.ensures.bytes (sym c.if-not-are_digits.ensures)

pub returns : goal.returns
returns c =
    let mapped : c.map_err.result ≡ from_bytes c.decode.result = search rules in
    mapped ∙ ap from_bytes c.decode.ensures.exact ∙ front_read (goal.at.returns c).After-decode
