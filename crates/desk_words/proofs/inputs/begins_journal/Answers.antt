use Rattle.std.proofs.Common.{refl, rules, take}
use Rattle.desk_words.proofs.InputLemmas.{row_tells}
use Rattle.desk_words.proofs.inputs.begins_journal.Goals as goal

pub returns : goal.returns
returns g c =
    row_tells c.is_journal.result (g.R.Read.remaining c.args.reader.now) (g.R.Read.remaining c.fill.new.reader)
    (take c.in_ok-len.len c.fill.new.row) c.fill.new.row c.in_ok-len.len refl (search rules) c.in_ok-len.ensures.within
    c.in_ok-len.ensures.bytes c.in_ok-len.ensures.end c.is_journal.ensures.begins
