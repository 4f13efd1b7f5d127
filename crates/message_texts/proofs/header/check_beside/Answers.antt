use Rattle.std.proofs.Common.{rules}
use Rattle.std.specs.Result.{result_err}
use Rattle.batch.specs.Header.{header_listing}
use Rattle.message_texts.proofs.DecodeLemmas.{header_told}
use Rattle.message_texts.proofs.header.check_beside.Goals as goal
use Rattle.message_texts.proofs.header.check_beside.Goals.{in-Ok, in-Err}

pub returns-clause-end : goal.returns-clause-end
returns-clause-end c = elim c.match-read_header.branch [
  | in-Ok w ↦ search rules
  | in-Err w ↦
      rw w.result-is (header_told c.args.number (result_err (header_listing c.args.first.now c.args.second.now)) w.in-Err.fault w.header_end.result
      w.in-Err.ensures.err w.header_end.ensures.told w.header_end.ensures.memory)
]
