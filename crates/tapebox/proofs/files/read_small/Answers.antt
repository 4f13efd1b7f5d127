use Rattle.std.proofs.Common.{◌<◌, length, rules}
use Rattle.tapebox.proofs.FileLemmas.{all_read}
use Rattle.tapebox.proofs.files.read_small.Goals as goal

pub returns-clause-whole : goal.returns-clause-whole
returns-clause-whole g c =
    let short : length c.read_to_end.new.buf.items < c.take-reader.result.limit = search rules in
    all_read c.take-reader.result.limit (g.R.Read.remaining c.args.reader) c.read_to_end.new.buf.items
    (rw c.new-text.ensures.items at rw c.take-reader.ensures.inner at c.in_ok-read.ensures.bytes) short
