use Rattle.csv_days.specs.Days.{symbols_of}
use Rattle.csv_days.proofs.NameLemmas.{AreNames-more}
use Rattle.csv_days.proofs.day_names.DayNames.add.Goals as goal

pub returns : goal.returns
returns c = λ messages are.
    AreNames-more messages c.args.message.now c.args.self.now _ c.header-header.result c.header-header.ensures.header
    (c.in_ok-add_symbol.ensures (symbols_of messages) are.symbols) c.in_ok-insert.ensures.keys are
