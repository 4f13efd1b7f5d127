use Rattle.feed_follower.proofs.follow.follow_ended.Given as goal

abbrev pub ghosts-follow_plainly : goal.ghosts-follow_plainly
ghosts-follow_plainly g a =
    record { listing = a.terms.day.listing; matrix = a.terms.day.matrix; limit = a.terms.day.limit; session = a.terms.day.session; before = g.S.EntrySink.contents a.sink }
