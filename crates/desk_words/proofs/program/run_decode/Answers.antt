use Rattle.message_texts.specs.declared.text_end.TextEnd.TheVariants.{OutOfMemory, WriteFault}
use Rattle.desk_words.proofs.RunLemmas.{part_decoded, silent_else}
use Rattle.desk_words.proofs.program.run_decode.Goals as goal

pub returns-clause-runs : goal.returns-clause-runs
returns-clause-runs g c = record {
  run = c.decode_over-run.result;
  status_is = c.end_decoded.ensures.status;
  written = c.decode_over-run.ensures.written;
  ended = c.decode_over-run.ensures.end;
  part = part_decoded WriteFault OutOfMemory c.decode_over-run.result _ _ _ c.decode_over-run.ensures.prefix c.decode_over-run.ensures.memory;
  silent = silent_else WriteFault OutOfMemory c.decode_over-run.result _ c.decode_over-run.ensures.silent;
  quiet = c.end_decoded.ensures.quiet;
  said = c.end_decoded.ensures.said;
}
