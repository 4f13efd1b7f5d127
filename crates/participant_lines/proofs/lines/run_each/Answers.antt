use Rattle.participant_lines.proofs.lines.run_each.Goals as goal

-- each line is left as the call at it left it
pub returns-clause-who : goal.returns-clause-who
returns-clause-who g c = λ i d within. let at = (c.for_each_mut.ensures i d within).1 in rw (← at.left, ← at.argument_is) at.call.0

pub returns-clause-each : goal.returns-clause-each
returns-clause-each g c = λ i d within. let at = (c.for_each_mut.ensures i d within).1 in rw (← at.left, ← at.argument_is) at.call.1.0

pub returns-clause-closed : goal.returns-clause-closed
returns-clause-closed g c = λ i d within. let at = (c.for_each_mut.ensures i d within).1 in rw (← at.left) at.call.1.1
