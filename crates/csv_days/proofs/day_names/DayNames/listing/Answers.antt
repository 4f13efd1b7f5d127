use Rattle.csv_days.proofs.NameLemmas.{listing-fails, listing-made, listing-names}
use Rattle.csv_days.proofs.day_names.DayNames.listing.Goals as goal

pub returns : goal.returns
returns c =
    let names = c.args.self.now in
    let symbols = c.as_slice.result.now in
    let participants = c.as_slice-2.result.now in
    record {
      names = listing-names names symbols participants c.as_slice.ensures.keys c.as_slice-2.ensures.keys c.new.result c.new.ensures.ok c.new.ensures.names;
      ok = listing-made names symbols participants c.as_slice.ensures.keys c.as_slice-2.ensures.keys c.new.result c.new.ensures.ok;
      fault = listing-fails names symbols participants c.as_slice.ensures.keys c.as_slice-2.ensures.keys c.new.result c.new.ensures.refused;
    }
