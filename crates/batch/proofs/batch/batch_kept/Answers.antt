use Rattle.std.proofs.Common.{◌≡◌, ◌+◌, ◌==◌, None, ap, arith, if◌then◌else◌, rules, take, ◌∙◌}
use Rattle.std.specs.Io.Buffered.{reader_buffer, reader_capacity, reader_inner}
use Rattle.std.specs.Io.KnownBytes.{prepend_known}
use Rattle.std.specs.Option.{option_map}
use Rattle.std.proofs.lemmas.Option.{IfSome_then}
use Rattle.batch.proofs.FinishLemmas.{Finishes-ends, Finishes-silent, Finishes-stopped, Finishes-wrote, reading-stopped, reading-wrote}
use Rattle.batch.specs.Batch.{INPUT_MOST}
use Rattle.batch.specs.Ends.{end_of_reading}
use Rattle.batch.proofs.WholeInput.{ends_whole, left_known, read_whole}
use Rattle.batch.proofs.batch.batch_kept.Given.{Over}
use Rattle.batch.proofs.batch.batch_kept.Goals as goal
use Rattle.batch.proofs.batch.batch_kept.Goals.{After-new-2}

-- before the first read, the buffered reader has the front of the input
front_left : (g : Over) (c : After-new-2 g) → let reader = c.new-2.result.left in
    (if reader_capacity reader == 0 then None
    else prepend_known (reader_buffer reader) (option_map (take reader.inner.limit) (g.R.Read.remaining reader.inner.inner.now)))
    ≡ option_map (take (INPUT_MOST + 1)) (g.R.Read.remaining c.args.reader.now)
front_left g c =
    let reader = c.new-2.result.left in
    let inner = ap reader_inner c.new-2.ensures.left ∙ c.in-Ok.ensures.inner in
    left_known (INPUT_MOST + 1) (g.R.Read.remaining c.args.reader.now) (g.R.Read.remaining reader.inner.inner.now) (reader_buffer reader)
    (reader_capacity reader) reader.inner.limit (ap reader_capacity c.new-2.ensures.left ∙ c.in-Ok.ensures.capacity)
    (ap reader_buffer c.new-2.ensures.left ∙ c.in-Ok.ensures.empty) (ap (λ t. t.limit) inner ∙ c.limited.ensures.limit)
    (ap (λ t. g.R.Read.remaining t.inner.now) inner ∙ ap (λ r. g.R.Read.remaining r.now) c.limited.ensures.inner)

pub returns-in-Ok-read_batch-clause-wrote : goal.returns-in-Ok-read_batch-clause-wrote
returns-in-Ok-read_batch-clause-wrote g c =
    let known = g.R.Read.remaining c.args.reader.now in
    let left = front_left g (goal.at.returns-in-Ok-read_batch-clause-wrote g c).After-new-2 in
    IfSome_then known (read_whole c.args.matrix (INPUT_MOST + 1) known _ c.in-Ok-read_batch.read left (omega arith)
    (rw c.new-2.ensures.taken at c.in-Ok-read_batch.ensures.fits) c.in-Ok-read_batch.ensures.read)
    (λ input read. Finishes-wrote c.args.matrix c.in-Ok-read_batch.read _ input _ _ read.1 c.finish_batch.ensures.finishes)

pub returns-in-Ok-read_batch-clause-ends : goal.returns-in-Ok-read_batch-clause-ends
returns-in-Ok-read_batch-clause-ends g c =
    let known = g.R.Read.remaining c.args.reader.now in
    let left = front_left g (goal.at.returns-in-Ok-read_batch-clause-ends g c).After-new-2 in
    IfSome_then known (read_whole c.args.matrix (INPUT_MOST + 1) known _ c.in-Ok-read_batch.read left (omega arith)
    (rw c.new-2.ensures.taken at c.in-Ok-read_batch.ensures.fits) c.in-Ok-read_batch.ensures.read)
    (λ input read. Finishes-ends c.args.matrix c.in-Ok-read_batch.read _ input _ _ read.1 c.finish_batch.ensures.finishes read.0)

pub returns-in-Ok-read_batch-clause-silent : goal.returns-in-Ok-read_batch-clause-silent
returns-in-Ok-read_batch-clause-silent g c = λ read_end. absurd (Finishes-silent c.in-Ok-read_batch.read _ _ _ c.finish_batch.ensures.finishes read_end)

pub returns-clause-ends : goal.returns-clause-ends
returns-clause-ends g c =
    let known = g.R.Read.remaining c.args.reader.now in
    let left = front_left g (goal.at.returns-clause-ends g c).After-new-2 in
    let end : c.from.result ≡ end_of_reading c.in-Err.unread.end = search rules in
    rw end (ends_whole (INPUT_MOST + 1) known _ c.in-Err.unread.end left (rw c.new-2.ensures.taken at c.in-Err.ensures.err))

pub returns-clause-wrote : goal.returns-clause-wrote
returns-clause-wrote g c =
    let end : c.from.result ≡ end_of_reading c.in-Err.unread.end = search rules in
    rw end (reading-wrote c.args.matrix (g.R.Read.remaining c.args.reader.now) c.in-Err.unread.end (g.W.Write.contents c.args.writer.now))

pub returns-in-Ok-read_batch-clause-stopped : goal.returns-in-Ok-read_batch-clause-stopped
returns-in-Ok-read_batch-clause-stopped g c = Finishes-stopped c.in-Ok-read_batch.read _ _ _ c.finish_batch.ensures.finishes

pub returns-clause-stopped : goal.returns-clause-stopped
returns-clause-stopped g c =
    let end : c.from.result ≡ end_of_reading c.in-Err.unread.end = search rules in
    rw end (reading-stopped c.in-Err.unread _ _ c.in-Err.ensures.goes_on (search rules))
