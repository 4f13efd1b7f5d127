-- Lemmas about the rows of a followed tape, the line of the columns' names before them, and the statuses of a run.
use Rattle.std.proofs.Common.{◌≡◌, ◌++◌, ◌∙◌, ◌∷◌, ◌+◌, ◌-◌, ◌≤◌, IfErr, IfSome, IsSome, OnOk, Result, Ok, Err, inl, inr, arith, [], List, ℕ, Option, Some, None, ap, append-nil, drop, length, refl, subst, sym, take}
use Rattle.std.proofs.KnownBytes.{Appends-kept, Keeps-refl}
use Rattle.std.proofs.Math.Seq.{take-append-add}
use Rattle.std.proofs.lemmas.List.{take-append-drop}
use Rattle.std.proofs.lemmas.Bool.{false≢true}
use Rattle.std.specs.Io.KnownBytes.{Appends, Keeps}
use Rattle.std.specs.Prelude.{IsOk}
use Rattle.whole_io.specs.Lemmas.WriteLemmas.{WritesPrefix-kept, WritesPrefix-longer, WritesPrefix-then, WritesUpTo-all, WritesUpTo-gathered, WritesUpTo-whole}
use Rattle.whole_io.specs.Writing.{WritesPrefix}
use Rattle.sale_matrix.specs.declared.matrix.Matrix.{Matrix}
use Rattle.tape_types.specs.Names.{Names}
use Rattle.tape_core.specs.Tape.{IsLegal, empty_tape, row_figures}
use Rattle.tape_core.specs.declared.entry.Entry.{Entry}
use Rattle.feed_ends.specs.declared.fault.Fault.{Fault}
use Rattle.feed_ends.specs.declared.fault.Fault.TheVariants.{Read, Write, Memory, Worker, Disagrees as DisagreesFault}
use Rattle.feed_follower.specs.Reported.{follow_fault}
use Rattle.feed_follower.specs.declared.follow_fault.FollowFault.{FollowFault}
use Rattle.feed_follower.specs.Sinks.{GivesPart, GivesTape, HasPart, rows_after}
use Rattle.csv_days.specs.TapeRows.{entry_rows, head_line, rows_text}
use Rattle.command_line.specs.Statuses.{status_code}
use Rattle.command_line.specs.declared.status.Status.TheVariants.{Done}
use Rattle.desk_words.specs.RunStatuses.{ended_status}
use Rattle.desk_words.specs.Watches.{IsRunStatus, WritesPartOf, WritesTapeOf, WritesWhole, entry_line, followed_text}

-- ## Rows

-- the rows of entries are what a sink makes that writes a row of each
rows_same : (matrix : Matrix) (before entries : List Entry) → rows_text (entry_rows matrix before entries) ≡ rows_after entry_line matrix before entries
unfolding rows_text entry_rows
rows_same matrix before [] = refl
rows_same matrix before (e ∷ entries) =
    ap (λ (l : List ℕ). entry_line e (row_figures matrix (before ++ e ∷ []) e.message) ++ l) (rows_same matrix (before ++ e ∷ []) entries)

-- a tape that holds nothing is legal
nothing_legal : (listing : Names) (matrix : Matrix) → IsLegal (empty_tape listing 1 matrix)
nothing_legal listing matrix k e at = absurd (cc)

-- bytes that have grown by a text up to some byte of it have grown by a prefix of it
part_prefix : (text : List ℕ) (old new : Option (List ℕ)) → HasPart text old new → WritesPrefix text old new
part_prefix text None new part = ([], record { prefix = text; split = sym (append-nil text); written = tt })
part_prefix text (Some xs) None part = absurd part
part_prefix text (Some xs) (Some ys) part =
    let n : ℕ = length ys - length xs in
    let size : length ys ≡ length xs + n = omega (arith, part.0) in (
      drop n text,
      record {
        prefix = take n text;
        split = sym (take-append-drop n text);
        written = part.1 ∙ ap (λ (k : ℕ). take k (xs ++ text)) size ∙ take-append-add xs text n;
      },
    )

-- ## Tapes

-- a part of the line of the names is a part of a tape
pub head_part : (listing : Names) (matrix : Matrix) (limit : ℕ) (old new : Option (List ℕ)) → WritesPrefix head_line old new → WritesPartOf listing matrix limit old new
head_part listing matrix limit old new prefix =
    let t = empty_tape listing 1 matrix in (
      t,
      record { legal = nothing_legal listing matrix; listed = refl; by_matrix = refl; within = omega (arith) },
      WritesPrefix-longer head_line (rows_text (entry_rows matrix [] [])) old new prefix,
    )

-- the line of the names and all rows are the whole tape, also once the writer is flushed
pub tape_whole : (listing : Names) (matrix : Matrix) (limit : ℕ) (old mid has new : Option (List ℕ)) → Appends old mid head_line
    → GivesTape entry_line listing matrix limit mid has → Keeps has new → WritesTapeOf listing matrix limit old new
tape_whole listing matrix limit old mid has new head given kept =
    let t = given.0 in
    let rows : List ℕ = rows_after entry_line t.matrix [] t.entries in
    let all : Appends old has (head_line ++ rows) = WritesUpTo-all (head_line ++ rows) old has
    (WritesUpTo-gathered head_line [] rows [] rows old mid has refl (WritesUpTo-whole head_line old mid head) (WritesUpTo-whole rows mid has given.2)) in (
      t,
      given.1,
      Appends-kept old has new (followed_text t) (subst (λ (l : List ℕ). Appends old has (head_line ++ l)) (sym (rows_same t.matrix [] t.entries)) all) kept,
    )

-- the line of the names and a part of the rows are a part of the tape, also once the writer is flushed
pub tape_part : (listing : Names) (matrix : Matrix) (limit : ℕ) (old mid has new : Option (List ℕ)) → Appends old mid head_line
    → GivesPart entry_line listing matrix limit mid has → Keeps has new → WritesPartOf listing matrix limit old new
tape_part listing matrix limit old mid has new head given kept =
    let t = given.0 in
    let rows : List ℕ = rows_after entry_line t.matrix [] t.entries in
    let some : WritesPrefix (head_line ++ rows) old has = WritesPrefix-then head_line rows old mid has head (part_prefix rows mid has given.2) in (
      t,
      given.1,
      WritesPrefix-kept (followed_text t) old has new (subst (λ (l : List ℕ). WritesPrefix (head_line ++ l) old has) (sym (rows_same t.matrix [] t.entries)) some) kept,
    )

-- the whole tape went through a buffer
pub whole_back : {W : Type 0} (contents : W → Option (List ℕ)) (listing : Names) (matrix : Matrix) (limit : ℕ) (writer : W) (back : Option W) (first mid : Option (List ℕ))
    → first ≡ contents writer → WritesTapeOf listing matrix limit first mid → IfSome back (λ inner. Keeps mid (contents inner)) → IsSome back
    → WritesWhole contents listing matrix limit writer back
whole_back contents listing matrix limit writer None first mid same whole kept some = absurd (cc some)
whole_back contents listing matrix limit writer (Some inner) first mid same whole kept some = (
  whole.0,
  whole.1,
  Appends-kept (contents writer) mid (contents inner) (followed_text whole.0)
      (subst (λ (known : Option (List ℕ)). Appends known mid (followed_text whole.0)) same whole.2) kept,
)

-- known bytes that are left alone are kept
pub keeps_same : (known : Option (List ℕ)) → Keeps known known
keeps_same known = Keeps-refl known

-- ## Statuses

-- a run ends with one of its statuses
pub run_status : (ended : Result (Unit {0}) Fault) → IsRunStatus (status_code (ended_status ended))
run_status (Ok done) = inl refl
run_status (Err Read) = inr (omega (arith), omega (arith))
run_status (Err Write) = inr (omega (arith), omega (arith))
run_status (Err Memory) = inr (omega (arith), omega (arith))
run_status (Err Worker) = inr (omega (arith), omega (arith))
run_status (Err DisagreesFault) = inr (omega (arith), omega (arith))

-- a run whose status is `Done` has ended well
pub done_well : (ended : Result (Unit {0}) Fault) (P : Type 0) → ended_status ended ≡ Done → OnOk ended P → P
done_well (Ok done) P is holds = holds
done_well (Err Read) P is holds = absurd (cc is)
done_well (Err Write) P is holds = absurd (cc is)
done_well (Err Memory) P is holds = absurd (cc is)
done_well (Err Worker) P is holds = absurd (cc is)
done_well (Err DisagreesFault) P is holds = absurd (cc is)

-- ## Ends

-- what follows from a run ending well holds on `Ok`
pub on_well : {T E : Type 0} (ended : Result T E) (P : Type 0) → (IsOk ended → P) → OnOk ended P
on_well (Ok done) P holds = holds refl
on_well (Err fault) P holds = tt

-- what holds on `Ok` holds if the run ended well
pub of_well : {T E : Type 0} (ended : Result T E) (P : Type 0) → IsOk ended → OnOk ended P → P
of_well (Ok done) P well holds = holds
of_well (Err fault) P well holds = absurd (false≢true well)

-- what holds on `Ok` of a follower's day holds if its outcome is good
pub ended_well : (ended : Result (Unit {0}) FollowFault) (outcome : Result (Unit {0}) Fault) (P : Type 0)
    → IfErr ended (λ fault. outcome ≡ Err (follow_fault fault)) → IsOk outcome → OnOk ended P → P
ended_well (Ok done) outcome P fault well holds = holds
ended_well (Err why) outcome P fault well holds = absurd (false≢true (subst (λ (o : Result (Unit {0}) Fault). IsOk o) fault well))

-- the whole tape of a run that ended well went through a buffer
pub whole_kept : {W : Type 0} (contents : W → Option (List ℕ)) (listing : Names) (matrix : Matrix) (limit : ℕ) (ended run : Result (Unit {0}) Fault) (writer : W)
    (back : Option W) (first mid : Option (List ℕ)) → first ≡ contents writer → OnOk run (WritesTapeOf listing matrix limit first mid)
    → IfSome back (λ inner. Keeps mid (contents inner)) → (IsOk ended → IsOk run) → OnOk ended (IsSome back)
    → OnOk ended (WritesWhole contents listing matrix limit writer back)
whole_kept contents listing matrix limit ended run writer back first mid same whole kept done some =
    on_well ended (WritesWhole contents listing matrix limit writer back) (λ well. whole_back contents listing matrix limit writer back first mid same
    (of_well run (WritesTapeOf listing matrix limit first mid) (done well) whole) kept (of_well ended (IsSome back) well some))
