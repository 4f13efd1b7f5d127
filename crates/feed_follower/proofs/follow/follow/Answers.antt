use Rattle.std.proofs.Common.{◌≡◌, ℕ, List, Option, Result, OnOk, ap, subst, sym}
use Rattle.std.specs.Prelude.{IfSome}
use Rattle.std.specs.Io.KnownBytes.{Appends}
use Rattle.subscriber.specs.Subscribers.{SubscriberState}
use Rattle.feed_ends.specs.declared.fault.Fault.{Fault}
use Rattle.tape_types.specs.Names.{Names}
use Rattle.sale_matrix.specs.declared.matrix.Matrix.{Matrix}
use Rattle.feed_follower.specs.Sinks.{EntryText, GivesPart, rows_of}
use Rattle.feed_follower.proofs.Rows.{part_of_nothing}
use Rattle.feed_follower.proofs.follow.follow.Goals as goal

-- what was given to a sink that had this before
given_from : {T : Type 0} (row : EntryText) (ended : Result T Fault) (held : Option SubscriberState) (before had has : Option (List ℕ)) → had ≡ before
    → OnOk ended (IfSome held (λ (s : SubscriberState). Appends before has (rows_of row s.tape)))
    → OnOk ended (IfSome held (λ (s : SubscriberState). Appends had has (rows_of row s.tape)))
given_from row ended held before had has is given =
    subst (λ (o : Option (List ℕ)). OnOk ended (IfSome held (λ (s : SubscriberState). Appends o has (rows_of row s.tape)))) (sym is) given

pub returns-clause-given : goal.returns-clause-given
returns-clause-given g c = given_from g.S.EntrySink.text _ _ _ _ _ c.requires.before c.into_followed.ensures.given

-- a sink that is as it was has nothing
part_of_same : (row : EntryText) (listing : Names) (matrix : Matrix) (limit : ℕ) (had has : Option (List ℕ)) → has ≡ had
    → GivesPart row listing matrix limit had has
part_of_same row listing matrix limit had has is =
    subst (λ (o : Option (List ℕ)). GivesPart row listing matrix limit had o) (sym is) (part_of_nothing row listing matrix limit had)

-- what a sink was given under the name of its tape
part_named : (row : EntryText) (listing named_listing : Names) (matrix named_matrix : Matrix) (limit named_limit : ℕ)
    (had before has : Option (List ℕ)) → listing ≡ named_listing → matrix ≡ named_matrix → limit ≡ named_limit → had ≡ before
    → GivesPart row named_listing named_matrix named_limit before has → GivesPart row listing matrix limit had has
part_named row listing named_listing matrix named_matrix limit named_limit had before has is_listing is_matrix is_limit is_had part =
    subst (λ (x : Names). GivesPart row x matrix limit had has) (sym is_listing)
    (subst (λ (x : Matrix). GivesPart row named_listing x limit had has) (sym is_matrix)
    (subst (λ (x : ℕ). GivesPart row named_listing named_matrix x had has) (sym is_limit)
    (subst (λ (x : Option (List ℕ)). GivesPart row named_listing named_matrix named_limit x has) (sym is_had) part)))

pub returns-in-Err-clause-part : goal.returns-in-Err-clause-part
returns-in-Err-clause-part g c = part_of_same g.S.EntrySink.text _ _ _ _ _ (ap g.S.EntrySink.contents c.not_begun.ensures.sink)

pub returns-clause-part : goal.returns-clause-part
returns-clause-part g c =
    part_named g.S.EntrySink.text _ _ _ _ _ _ _ _ _ c.requires.listing c.requires.matrix c.requires.limit c.requires.before c.into_followed.ensures.part
