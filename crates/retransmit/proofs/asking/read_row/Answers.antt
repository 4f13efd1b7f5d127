use Rattle.std.proofs.Common.{◌≡◌, length, rules, subst}
use Rattle.whole_io.specs.FailedReads.{ReadsFewer}
use Rattle.retransmit.specs.Asking.{as_is}
use Rattle.retransmit.proofs.ReadFields.{Follows-bytes, Follows-short}
use Rattle.retransmit.proofs.asking.read_row.Goals as goal

pub returns : goal.returns
returns g c =
    let size : length c.fill_whole.new.row ≡ g.row.N = search rules in
    Follows-bytes as_is c.fill_whole.new.row g.row.N (g.R.Read.remaining c.args.reader.now) (g.R.Read.remaining c.fill_whole.new.reader) size
    c.in_ok-fill_whole.ensures.ok

pub returns-in_err-fill_whole : goal.returns-in_err-fill_whole
returns-in_err-fill_whole g c =
    let had = g.R.Read.remaining c.args.reader.now in
    let left = g.R.Read.remaining c.fill_whole.new.reader in
    let size : length c.fill_whole.new.row ≡ g.row.N = search rules in
    let short = Follows-short as_is g.row.N had left (subst (ReadsFewer had left) size c.in_err-fill_whole.ensures.part) in
    search (rules, short)
