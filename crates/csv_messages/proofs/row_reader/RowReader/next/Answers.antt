use Rattle.std.proofs.Common.{◌≡◌, ◌+◌, ◌∷◌, [], arith, length-append, refl, rules}
use Rattle.csv.specs.Records.{fields_of}
use Rattle.csv_messages.proofs.row_reader.RowReader.next.Goals as goal

pub returns-clause-row : goal.returns-clause-row
returns-clause-row g c =
    let fields = fields_of c.next_record.new.fields in
    let number : c.in-Some.number ≡ c.args.self.now.number + 1 = search rules in
    record {
      fields = fields;
      is = c.fields_message.ensures;
      columns = refl;
      more = λ input read had. record {
        names = had.names;
        has = c.in_ok-next_record.ensures.more (search rules) input (had.names ∷ read) had.has;
        columns = had.columns;
        number = omega (arith, number, had.number, length-append read (fields ∷ []));
      };
    }
