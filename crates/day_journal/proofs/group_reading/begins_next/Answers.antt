use Rattle.std.proofs.Common.{◌≡◌, ◌∙◌, List, ℕ, ap, length, min, take, arith}
use Rattle.std.specs.Prelude.{bytes_eq}
use Rattle.std.proofs.lemmas.List.{take_min}
use Rattle.day_journal.specs.GroupReading.{packet_front}
use Rattle.day_journal.proofs.group_reading.begins_next.Goals as goal

pub returns : goal.returns
returns c =
    let bytes = c.args.bytes.now in
    let front = packet_front c.args.session c.args.number in
    let len = c.min-len.result in
    let swapped : min (length bytes) (length front) ≡ min (length front) (length bytes) = omega arith in
    let first : take len bytes ≡ take (length front) bytes =
    ap (λ (n : ℕ). take n bytes) (c.min-len.ensures ∙ swapped) ∙ take_min (length front) bytes in
    let second : take len front ≡ take (length bytes) front = ap (λ (n : ℕ). take n front) c.min-len.ensures ∙ take_min (length bytes) front in
    c.eq.ensures ∙ ap (λ (t : List ℕ). bytes_eq (take len bytes) (take len t)) c.packet_front-front.ensures
    ∙ ap (λ (t : List ℕ). bytes_eq t (take len front)) first ∙ ap (λ (t : List ℕ). bytes_eq (take (length front) bytes) t) second
