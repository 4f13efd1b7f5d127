use Rattle.std.proofs.Common.{◌≡◌, ◌++◌, rules}
use Rattle.std.specs.Int.{w8, w32, w64, to_be_bytes}
use Rattle.day_journal.specs.Headers.{JOURNAL_VERSION, MAGIC, matrix_byte}
use Rattle.day_journal.proofs.Lists.{five_texts}
use Rattle.day_journal.proofs.header.put_day.Goals as goal

pub returns : goal.returns
returns c =
    let first : c.extend_from_slice.new.self.items ≡ c.args.text.now.items ++ MAGIC = search rules in
    let second : c.extend_from_slice-2.new.self.items ≡ c.extend_from_slice.new.self.items ++ to_be_bytes w8 JOURNAL_VERSION = search rules in
    let third : c.extend_from_slice-3.new.self.items ≡ c.extend_from_slice-2.new.self.items ++ to_be_bytes w64 c.args.day.now.session = search rules in
    let fourth : c.extend_from_slice-4.new.self.items ≡ c.extend_from_slice-3.new.self.items ++ to_be_bytes w8 (matrix_byte c.args.day.now.matrix) = search rules in
    let fifth : c.extend_from_slice-5.new.self.items ≡ c.extend_from_slice-4.new.self.items ++ to_be_bytes w32 c.args.day.now.limit = search rules in
    five_texts c.args.text.now.items MAGIC (to_be_bytes w8 JOURNAL_VERSION) (to_be_bytes w64 c.args.day.now.session) (to_be_bytes w8 (matrix_byte c.args.day.now.matrix))
    (to_be_bytes w32 c.args.day.now.limit) _ _ _ _ _ first second third fourth fifth
