use Rattle.std.proofs.Common.{rules}
use Rattle.std.specs.Io.KnownBytes.{Appends}
use Rattle.desk_words.specs.Tellings.{bad_arguments_line}
use Rattle.desk_words.proofs.LineLemmas.{bad_then}
use Rattle.desk_words.proofs.saying.say_bad_arguments.Goals as goal

pub returns-in-Ok : goal.returns-in-Ok
returns-in-Ok g c =
    let old = g.E.Write.contents c.args.errors.now in
    let mid = g.E.Write.contents c.write_text.new.writer in
    let written : Appends old mid bad_arguments_line = search rules in
    record { said = bad_then old mid (g.E.Write.contents c.say_line.new.errors) written c.say_line.ensures.said }
