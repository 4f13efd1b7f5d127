use Rattle.feed_follower.proofs.day.follow_tape_day.Given as goal

abbrev pub ghosts-follow : goal.ghosts-follow
ghosts-follow g a =
    record { listing = a.terms.day.listing; matrix = a.terms.day.matrix; limit = a.terms.day.limit; session = a.terms.day.session; before = g.S.EntrySink.contents a.sink }
