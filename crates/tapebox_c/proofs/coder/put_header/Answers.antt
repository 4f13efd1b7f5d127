use Rattle.reports.specs.Lemmas.PutTexts.{Puts-as, Puts-then}
use Rattle.tapebox_c.proofs.coder.put_header.Goals as goal

pub returns : goal.returns
returns c =
    Puts-then c.put-at.ensures.puts
    (Puts-then (Puts-as c.to_be_bytes.ensures c.put-at-2.ensures.puts)
    (Puts-then (Puts-as c.to_be_bytes-2.ensures c.put-at-3.ensures.puts) c.put.ensures.puts))
