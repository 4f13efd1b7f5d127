-- The rows of a tape grow with its entries.
use Rattle.std.proofs.Common.{◌≡◌, ◌≤◌, ◌+◌, ℕ, arith, length, take, zero, suc, List, [], ◌∷◌, ◌++◌, Bool, true, false, Option, None, Some, refl, sym, ap, subst, ◌∙◌, append-nil, append_assoc}
use Rattle.std.specs.Prelude.{◌||◌, is_some, if◌then◌else◌}
use Rattle.std.specs.Io.KnownBytes.{Appends, Keeps}
use Rattle.std.proofs.KnownBytes.{Appends-kept, Appends-nil}
use Rattle.std.proofs.Math.Seq.{take-append_seam}
use Rattle.std.proofs.lemmas.List.{length-append}
use Rattle.std.proofs.lemmas.Option.{none-some, same_Some}
use Rattle.whole_io.specs.Writing.{WritesPrefix}
use Rattle.whole_io.specs.Lemmas.WriteLemmas.{WritesPrefix-whole, WritesUpTo-none}
use Rattle.arbitration.specs.Windows.{next_of}
use Rattle.sale_matrix.specs.declared.matrix.Matrix.{Matrix}
use Rattle.scratch_fold.specs.declared.summary.Summary.{Summary}
use Rattle.tape_core.specs.declared.entry.Entry.{Entry}
use Rattle.tape_core.specs.Tape.{TapeState, empty_tape, refusal, row_figures}
use Rattle.tape_types.specs.Names.{Names}
use Rattle.subscriber.specs.Drains.{DrainsAll, DrainsNext, DrainStops}
use Rattle.subscriber.specs.declared.drain_fault.DrainFault.{DrainFault}
use Rattle.subscriber.specs.Subscribers.{SubscriberState, own_entry, with_entry, subscriber_after, subscriber_after_entry}
use Rattle.subscriber.specs.Lemmas.Legal.{IsLegal-empty}
use Rattle.feed_follower.specs.Followers.{KeepsTerms}
use Rattle.feed_follower.specs.Sinks.{EntryText, GivesMore, GivesPart, GivesSome, HasAll, HasPart, RowsGrow, rows_after, rows_of}

-- one more entry is one more row, after the others
rows_after-push : (row : EntryText) (matrix : Matrix) (before entries : List Entry) (e : Entry)
    → rows_after row matrix before (entries ++ e ∷ [])
    ≡ rows_after row matrix before entries ++ row e (row_figures matrix ((before ++ entries) ++ e ∷ []) e.message)
rows_after-push row matrix before [] e =
    append-nil (row e (row_figures matrix (before ++ e ∷ []) e.message))
    ∙ ap (λ (l : List Entry). row e (row_figures matrix (l ++ e ∷ []) e.message)) (sym (append-nil before))
rows_after-push row matrix before (x ∷ entries) e =
    let first = row x (row_figures matrix (before ++ x ∷ []) x.message) in
    ap (λ (l : List ℕ). first ++ l) (rows_after-push row matrix (before ++ x ∷ []) entries e)
    ∙ sym (append_assoc first (rows_after row matrix (before ++ x ∷ []) entries)
    (row e (row_figures matrix (((before ++ x ∷ []) ++ entries) ++ e ∷ []) e.message)))
    ∙ ap (λ (l : List Entry). (first ++ rows_after row matrix (before ++ x ∷ []) entries) ++ row e (row_figures matrix (l ++ e ∷ []) e.message))
    (append_assoc before (x ∷ []) entries)

-- no row is written
pub part_none : (row : List ℕ) (known : Option (List ℕ)) → WritesPrefix row known known
part_none row known = (row, WritesUpTo-none row known)

-- so a subscriber that holds the next entry has one more row
pub rows_of-next : (row : EntryText) (e : Entry) (old new : SubscriberState) → DrainsNext (Some e) old new
    → rows_of row new.tape ≡ rows_of row old.tape ++ row e (row_figures new.tape.matrix new.tape.entries e.message)
rows_of-next row e old new drains =
    let own = own_entry old e.message in
    let pushed : rows_of row (with_entry e old).tape ≡ rows_of row old.tape ++ row own (row_figures old.tape.matrix (old.tape.entries ++ own ∷ []) own.message) =
    rows_after-push row old.tape.matrix [] old.tape.entries own in
    let named : rows_of row (with_entry e old).tape ≡ rows_of row old.tape ++ row e (row_figures old.tape.matrix (old.tape.entries ++ own ∷ []) e.message) =
    subst (λ (x : Entry). rows_of row (with_entry e old).tape
    ≡ rows_of row old.tape ++ row x (row_figures old.tape.matrix (old.tape.entries ++ own ∷ []) x.message)) drains.2 pushed in
    subst (λ (s : SubscriberState). rows_of row s.tape ≡ rows_of row old.tape ++ row e (row_figures s.tape.matrix s.tape.entries e.message)) (sym drains.3) named

-- and it keeps the terms
pub kept_at_next : (next : Option Entry) (old new : SubscriberState) → DrainsNext next old new → KeepsTerms old.tape new.tape
kept_at_next None old new drains = subst (λ (s : SubscriberState). KeepsTerms old.tape s.tape) (sym drains.2) (refl, refl, refl)
kept_at_next (Some e) old new drains = subst (λ (s : SubscriberState). KeepsTerms old.tape s.tape) (sym drains.3) (refl, refl, refl)

-- a step of a drain adds a row or nothing
grown_by_entry : (row : EntryText) (next : Option Entry) (s : SubscriberState)
    → (more : List ℕ) × (rows_of row (subscriber_after_entry next s).tape ≡ rows_of row s.tape ++ more)
grown_by_entry row None s = ([], sym (append-nil (rows_of row s.tape)))
grown_by_entry row (Some e) s =
    elim (s.failed || is_some (refusal s.tape e.message))
    as (λ stops. (more : List ℕ) × (rows_of row (if stops then s else with_entry e s).tape ≡ rows_of row s.tape ++ more)) [
      | true ↦ ([], sym (append-nil (rows_of row s.tape)))
      | false ↦
          let own = own_entry s e.message in
          (row own (row_figures s.tape.matrix (s.tape.entries ++ own ∷ []) own.message), rows_after-push row s.tape.matrix [] s.tape.entries own)
    ]

-- and so do several
grown_by_all : (row : EntryText) (n : ℕ) (s : SubscriberState)
    → (more : List ℕ) × (rows_of row (subscriber_after n s).tape ≡ rows_of row s.tape ++ more)
grown_by_all row zero s = ([], sym (append-nil (rows_of row s.tape)))
grown_by_all row (suc n) s =
    let one = grown_by_entry row (next_of s.window) s in
    let rest = grown_by_all row n (subscriber_after_entry (next_of s.window) s) in
    (one.0 ++ rest.0, rest.1 ∙ ap (λ (l : List ℕ). l ++ rest.0) one.1 ∙ append_assoc (rows_of row s.tape) one.0 rest.0)

-- so does a drain, to its end
pub grown_at_end : (n : ℕ) (s after : SubscriberState) → DrainsAll n s after → RowsGrow s.tape after.tape
grown_at_end n s after drains row =
    let grown = grown_by_all row n s in (grown.0, ap (λ (t : SubscriberState). rows_of row t.tape) drains.state ∙ grown.1)

-- or to where it stops
pub grown_at_stop : (stop : DrainFault) (s after : SubscriberState) → DrainStops stop s after → RowsGrow s.tape after.tape
grown_at_stop stop s after stops row =
    let grown = grown_by_all row stop.drained s in (grown.0, ap (λ (t : SubscriberState). rows_of row t.tape) stops.state ∙ grown.1)

-- a sink whose bytes are not known may miss any rows
pub more_unknown : (row : EntryText) (t after : TapeState) (had : Option (List ℕ)) → had ≡ None → RowsGrow t after
    → GivesMore row t after had had
more_unknown row t after had unknown grow =
    let grown = grow row in
    record { more = grown.0; grown = grown.1; given = subst (λ (o : Option (List ℕ)). Appends o o grown.0) (sym unknown) tt }

-- all rows that a tape has more are some of them
pub some_of_more : (row : EntryText) (t after : TapeState) (had has : Option (List ℕ)) → GivesMore row t after had has
    → GivesSome row t after had has
some_of_more row t after had has gives =
    record { more = gives.more; grown = gives.grown; given = WritesPrefix-whole gives.more had has gives.given }

-- if no row was given yet, a sink has some of them
pub some_none : (row : EntryText) (t after : TapeState) (had : Option (List ℕ)) → RowsGrow t after → GivesSome row t after had had
some_none row t after had grow = let grown = grow row in record { more = grown.0; grown = grown.1; given = part_none grown.0 had }

-- nothing more is given of nothing more
pub more_none : (row : EntryText) (t : TapeState) (had : Option (List ℕ)) → GivesMore row t t had had
more_none row t had = record { more = []; grown = sym (append-nil (rows_of row t)); given = Appends-nil had }

-- nothing was ready
pub more_idle : (row : EntryText) (s after : SubscriberState) (had : Option (List ℕ)) → DrainsNext None s after
    → GivesMore row s.tape after.tape had had
more_idle row s after had drains =
    subst (λ (t : SubscriberState). GivesMore row s.tape t.tape had had) (sym drains.2) (more_none row s.tape had)

-- the next entry is given with its figures
pub more_next : (row : EntryText) (e : Entry) (s after : SubscriberState) (had has : Option (List ℕ)) → DrainsNext (Some e) s after
    → Appends had has (row e (row_figures after.tape.matrix after.tape.entries e.message)) → GivesMore row s.tape after.tape had has
more_next row e s after had has drains given = record {
  more = row e (row_figures after.tape.matrix after.tape.entries e.message);
  grown = rows_of-next row e s after drains;
  given = given;
}

-- or a part of its row is
pub some_next : (row : EntryText) (e : Entry) (s after : SubscriberState) (had has : Option (List ℕ)) → DrainsNext (Some e) s after
    → WritesPrefix (row e (row_figures after.tape.matrix after.tape.entries e.message)) had has → GivesSome row s.tape after.tape had has
some_next row e s after had has drains given = record {
  more = row e (row_figures after.tape.matrix after.tape.entries e.message);
  grown = rows_of-next row e s after drains;
  given = given;
}

-- what was given stays as long as known bytes do
pub more_kept : (row : EntryText) (t after : TapeState) (had has holds : Option (List ℕ)) → GivesMore row t after had has
    → Keeps has holds → GivesMore row t after had holds
more_kept row t after had has holds gives kept =
    record { more = gives.more; grown = gives.grown; given = Appends-kept had has holds gives.more gives.given kept }

-- so it is some of it if the flush fails
pub some_kept : (row : EntryText) (t after : TapeState) (had has holds : Option (List ℕ)) → GivesMore row t after had has
    → Keeps has holds → GivesSome row t after had holds
some_kept row t after had has holds gives kept = some_of_more row t after had holds (more_kept row t after had has holds gives kept)

-- ## What a sink has since the run began

-- more after all that it has
all_after : (xs rows more : List ℕ) (had has : Option (List ℕ)) → had ≡ Some (xs ++ rows) → Appends had has more → has ≡ Some (xs ++ (rows ++ more))
all_after xs rows more None has is given = absurd (none-some (xs ++ rows) is)
all_after xs rows more (Some ys) None is given = absurd given
all_after xs rows more (Some ys) (Some zs) is given =
    let had : ys ≡ xs ++ rows = same_Some ys (xs ++ rows) is in
    ap Some (given ∙ ap (λ (l : List ℕ). l ++ more) had ∙ append_assoc xs rows more)

-- it has all rows of the tape that it was given more of
pub all_more : (row : EntryText) (t after : TapeState) (before had has : Option (List ℕ)) → HasAll (rows_of row t) before had
    → GivesMore row t after had has → HasAll (rows_of row after) before has
all_more row t after None had has all gives = tt
all_more row t after (Some xs) had has all gives =
    subst (λ (l : List ℕ). HasAll l (Some xs) has) (sym gives.grown) (all_after xs (rows_of row t) gives.more had has all gives.given)

-- the front of a text after another
part_at : (xs rows more prefix rest ys : List ℕ) → more ≡ prefix ++ rest → ys ≡ xs ++ (rows ++ prefix)
    → (length xs ≤ length ys) × (ys ≡ take (length ys) (xs ++ (rows ++ more)))
part_at xs rows more prefix rest ys split is =
    let whole : xs ++ (rows ++ more) ≡ ys ++ rest =
    ap (λ (l : List ℕ). xs ++ (rows ++ l)) split
    ∙ ap (λ (l : List ℕ). xs ++ l) (sym (append_assoc rows prefix rest))
    ∙ sym (append_assoc xs (rows ++ prefix) rest)
    ∙ ap (λ (l : List ℕ). l ++ rest) (sym is) in
    let size : length ys ≡ length xs + length (rows ++ prefix) = ap (λ (l : List ℕ). length l) is ∙ length-append xs (rows ++ prefix) in
    (omega (arith, size), sym (ap (λ (l : List ℕ). take (length ys) l) whole ∙ take-append_seam ys rest))

-- some more after all that it has
part_after : (xs rows more prefix rest : List ℕ) (had has : Option (List ℕ)) → more ≡ prefix ++ rest → had ≡ Some (xs ++ rows)
    → Appends had has prefix → HasPart (rows ++ more) (Some xs) has
part_after xs rows more prefix rest None has split is given = absurd (none-some (xs ++ rows) is)
part_after xs rows more prefix rest (Some ys) None split is given = absurd given
part_after xs rows more prefix rest (Some ys) (Some zs) split is given =
    let had : ys ≡ xs ++ rows = same_Some ys (xs ++ rows) is in
    part_at xs rows more prefix rest zs split (given ∙ ap (λ (l : List ℕ). l ++ prefix) had ∙ append_assoc xs rows prefix)

-- it has a part of them if it was given some
pub part_some : (row : EntryText) (t after : TapeState) (before had has : Option (List ℕ)) → HasAll (rows_of row t) before had
    → GivesSome row t after had has → HasPart (rows_of row after) before has
part_some row t after None had has all gives = tt
part_some row t after (Some xs) had has all gives =
    subst (λ (l : List ℕ). HasPart l (Some xs) has) (sym gives.grown)
    (part_after xs (rows_of row t) gives.more gives.given.1.prefix gives.given.0 had has gives.given.1.split all gives.given.1.written)

-- all of them are a part
pub part_all : (row : EntryText) (t : TapeState) (before has : Option (List ℕ)) → HasAll (rows_of row t) before has
    → HasPart (rows_of row t) before has
part_all row t before has all = part_some row t t before has has all (some_of_more row t t has has (more_none row t has))

-- a sink that was told to forget what it has, or has nothing yet, begins anew
pub all_anew : (rows : List ℕ) (before had has : Option (List ℕ)) → had ≡ None → HasAll rows before had → HasAll [] before has
all_anew rows None had has unknown all = tt
all_anew rows (Some xs) had has unknown all = absurd (none-some (xs ++ rows) (sym unknown ∙ all))

-- a sink keeps what it has
kept_after : (text : List ℕ) (had has : Option (List ℕ)) → had ≡ Some text → Keeps had has → has ≡ Some text
kept_after text None has is kept = absurd (none-some text is)
kept_after text (Some ys) None is kept = absurd kept
kept_after text (Some ys) (Some zs) is kept = ap Some kept ∙ is

pub all_kept : (rows : List ℕ) (before had has : Option (List ℕ)) → HasAll rows before had → Keeps had has → HasAll rows before has
all_kept rows None had has all kept = tt
all_kept rows (Some xs) had has all kept = kept_after (xs ++ rows) had has all kept

-- before a run it has what it has
pub all_none : (before has : Option (List ℕ)) → has ≡ before → HasAll [] before has
all_none None has is = tt
all_none (Some xs) has is = is ∙ ap Some (sym (append-nil xs))

-- a tape of nothing has no rows
rows_of_nothing : (row : EntryText) (t : TapeState) → t.entries ≡ [] → rows_of row t ≡ []
rows_of_nothing row t is = ap (λ (entries : List Entry). rows_after row t.matrix [] entries) is

-- so none are all of them
pub all_of_nothing : (row : EntryText) (t : TapeState) (before has : Option (List ℕ)) → t.entries ≡ [] → HasAll [] before has
    → HasAll (rows_of row t) before has
all_of_nothing row t before has is all = subst (λ (l : List ℕ). HasAll l before has) (sym (rows_of_nothing row t is)) all

-- and all of them are none
pub nothing_of_all : (row : EntryText) (t : TapeState) (before has : Option (List ℕ)) → t.entries ≡ [] → HasAll (rows_of row t) before has
    → HasAll [] before has
nothing_of_all row t before has is all = subst (λ (l : List ℕ). HasAll l before has) (rows_of_nothing row t is) all

-- if no run begins, a sink has nothing of the empty tape
pub part_of_nothing : (row : EntryText) (listing : Names) (matrix : Matrix) (limit : ℕ) (had : Option (List ℕ))
    → GivesPart row listing matrix limit had had
part_of_nothing row listing matrix limit had =
    let t = empty_tape listing 1 matrix in (
      t,
      record { legal = IsLegal-empty listing 1 matrix; listed = refl; by_matrix = refl; within = omega (arith) },
      part_all row t had had (all_none had had refl),
    )

-- a listed symbol's summary is that of the entries
pub figures_found : (b : Bool) (x after : Summary) → Some after ≡ (if b then Some x else None) → after ≡ x
figures_found true x after is = same_Some after x is
figures_found false x after is = absurd (none-some after (sym is))
