use Rattle.std.proofs.Common.{rules, ◌≡◌, ◌<◌, ◌+◌, ◌∙◌, length, take, List, ℕ, sym, subst}
use Rattle.std.proofs.lemmas.Grind.{drop_more_same}
use Rattle.std.proofs.lemmas.List.{drop-set-lt, take_more_set}
use Rattle.tapebox_c.specs.Many.{Turns}
use Rattle.tapebox_c.proofs.ManyTurns.{turns_more}
use Rattle.tapebox_c.proofs.many.admit_each.Goals as goal

pub loop-taken-preserved : goal.loop-taken-preserved
loop-taken-preserved c =
    let loop = c.loop-taken in
    let number = c.in-Ok.number in
    let inside : loop.answered < length loop.numbers = search rules in
    record {
      within = search rules;
      read = c.in-Ok.ensures.1;
      room = search rules;
      behind = drop-set-lt (loop.answered + 1) loop.numbers loop.answered number (search rules) ∙ drop_more_same loop.numbers c.args.numbers.now loop.answered loop.invariant.behind;
      turns =
          subst (λ (ns : List ℕ). Turns c.args.bytes.now c.args.tape.now 0 ns c.turn.new.tape c.in-Ok.next) (sym (take_more_set loop.numbers loop.answered number inside))
          (turns_more c.args.bytes.now c.args.tape.now loop.tape c.turn.new.tape 0 loop.taken c.in-Ok.next number (take loop.answered loop.numbers)
          loop.invariant.turns c.in-Ok.ensures.0);
    }
