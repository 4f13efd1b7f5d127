use Rattle.day_terms.proofs.argument_reading.Words.port.Goals as goal

-- a port is a number that fits
pub returns-in_err-port-clause-each : goal.returns-in_err-port-clause-each
returns-in_err-port-clause-each c = λ left port is.
    absurd (cc (c.in_err-port.ensures.each left port (record { word = is.word; order = is.order; is = is.is.number }) is.is.most))
