use Rattle.std.proofs.Common.{rules, ◌≡◌, ◌++◌, ◌∷◌, []}
use Rattle.std.specs.Io.KnownBytes.{Consumes}
use Rattle.day_control.proofs.AnswerLemmas.{Reading-more}
use Rattle.day_control.proofs.asking.read_answer.Goals as goal
use Rattle.day_control.proofs.asking.read_answer.Goals.{else-byte-eq-LINE_FEED-via-then-byte-eq-LINE_FEED+else-not-is_begun, else-byte-eq-LINE_FEED-via-else-byte-eq-LINE_FEED}

pub loop-preserved : goal.loop-preserved
loop-preserved g c =
    let remaining = g.R.Read.remaining in
    let read : Consumes (remaining c.loop.reader) (remaining c.next_byte.new.reader) (c.in-Ok-Some.byte ∷ []) = search rules in
    let items : c.push.new.self.items ≡ c.loop.text.items ++ c.in-Ok-Some.byte ∷ [] = search rules in
    rw items
    (Reading-more (remaining c.args.reader.now) (remaining c.loop.reader) (remaining c.next_byte.new.reader) c.loop.text.items c.loop.is_begun c.in-Ok-Some.byte
    c.loop.invariant (λ same. elim c.else-byte-eq-LINE_FEED.branch [
      | else-byte-eq-LINE_FEED-via-then-byte-eq-LINE_FEED+else-not-is_begun w ↦ search rules
      | else-byte-eq-LINE_FEED-via-else-byte-eq-LINE_FEED w ↦ absurd (w.if-byte-eq-LINE_FEED.false same)
    ]) read)
