-- Shows what a line's frames do, one after the other, and how the line ends.
use Rattle.std.proofs.Common.{◌≡◌, ℕ, ◌+◌, ◌≤◌, List, [], ◌∷◌, ◌++◌, Option, Some, None, Result, Ok, Err, IfOk, IfErr, inl, inr}
use Rattle.std.specs.Prelude.{Bool, false, true, if◌then◌else◌}
use Rattle.std.proofs.Common.{length, length-append, append-nil, refl, sym, ap, subst, ◌∙◌, arith}
use Rattle.std.specs.List.{concat, cons_option}
use Rattle.std.specs.Io.KnownBytes.{Consumes}
use Rattle.std.proofs.KnownBytes.{Consumes-nil, Consumes-trans}
use Rattle.std.proofs.lemmas.List.Folds.{concat-append}
use Rattle.line_ledger.specs.Days.{Terms}
use Rattle.line_ledger.specs.Seats.{SeatState}
use Rattle.line_ledger.specs.Admissions.{Tells, TellsWhy}
use Rattle.line_ledger.specs.declared.line_refusal.LineRefusal.{LineRefusal}
use Rattle.line_ledger.specs.declared.line_refusal.LineRefusal.TheVariants as line
use Rattle.line_ledger.specs.declared.told.Told.{Told}
use Rattle.reports.specs.Messages.{header_of}
use Rattle.reports.specs.declared.message.Message.{Message}
use Rattle.tape_core.specs.Lemmas.RefusalCodes.{same_number}
use Rattle.tape_core.specs.Refusals.{is_out_of_memory}
use Rattle.tape_core.specs.declared.refusal.Refusal.{Refusal}
use Rattle.tape_core.specs.declared.refusal.Refusal.TheVariants as tape
use Rattle.participant_lines.specs.Frames.{IsFrame}
use Rattle.participant_lines.specs.Runs.{AreDone, Does, IsAnswered, IsDone, Runs, RunsTallied, StopsAt, TakesMessage, effect_of, refusal_effect}
use Rattle.participant_lines.specs.declared.tally.RefusedFrame.{RefusedFrame}
use Rattle.participant_lines.specs.declared.tally.Reason.TheVariants.{Refused as ByTape}
use Rattle.participant_lines.specs.declared.tally.Tally.{Tally}
use Rattle.participant_lines.specs.declared.line_end.LineOutcome.{LineOutcome}
use Rattle.participant_lines.specs.declared.line_end.LineOutcome.TheVariants.{OutOfMemory, Behind}

-- the refusal that an effect counts
abbrev mark_in : Result (Option RefusedFrame) LineOutcome → Option RefusedFrame
mark_in (Ok mark) = mark
mark_in (Err ended) = None

-- the effect of a refusal, by whether it is `OutOfMemory`
abbrev effect_by : Bool → ℕ → Refusal → Result (Option RefusedFrame) LineOutcome
effect_by memory number r = if memory then Err OutOfMemory else Ok (Some (record { reason = ByTape r; number = number }))

-- a refusal by the tape after which the line goes on is counted once
counted_once : (number : ℕ) (r : Refusal) (mark : Option RefusedFrame) → refusal_effect number r ≡ Ok mark → length (cons_option mark []) ≡ 1
counted_once number r mark = by (is_out_of_memory r)
  where
    by : (memory : Bool) → effect_by memory number r ≡ Ok mark → length (cons_option mark []) ≡ 1
    by true is = absurd cc
    by false is = sym (ap (λ (o : Option RefusedFrame). length (cons_option o [])) (ap mark_in is))

-- what a message that was taken does to the counts of a seat
takes_counts : (terms : Terms) (s s' : SeatState) (m : Message) (answer : Result ℕ LineRefusal) (mark : Option RefusedFrame) → IsAnswered terms s m answer s'
    → effect_of (header_of m).number answer ≡ Ok mark
    → (length s'.told + length (cons_option mark []) ≡ length s.told + 1) × (length (cons_option mark []) ≤ 1) × (s'.who ≡ s.who)
takes_counts terms s s' m (Ok number) mark tells is =
    let t : Told = record { number = number; message = m } in
    let none : length (cons_option mark []) ≡ 0 = sym (ap (λ (o : Option RefusedFrame). length (cons_option o [])) (ap mark_in is)) in (
      omega (arith, ap (λ (x : SeatState). length x.told) tells.told, length-append s.told (t ∷ []), none),
      omega (arith, none),
      ap (λ (x : SeatState). x.who) tells.told,
    )
takes_counts terms s s' m (Err line.Behind) mark tells is = absurd cc
takes_counts terms s s' m (Err (line.Refused r)) mark tells is =
    let one : length (cons_option mark []) ≡ 1 = counted_once (header_of m).number r mark is in
    (omega (arith, ap (λ (x : SeatState). length x.told) tells.seat, one), omega (arith, one), ap (λ (x : SeatState). x.who) tells.seat)

-- what a frame does to the counts of a seat
counts : (terms : Terms) (s s' : SeatState) (frame : List ℕ) (mark : Option RefusedFrame) → IsDone terms s frame mark s'
    → (length s'.told + length (cons_option mark []) ≡ length s.told + 1) × (length (cons_option mark []) ≤ 1) × (s'.who ≡ s.who)
counts terms s s' frame mark (inl (fault, read, same, one)) =
    let many : length (cons_option mark []) ≡ 1 = ap (λ (o : Option RefusedFrame). length (cons_option o [])) one in
    (omega (arith, ap (λ (x : SeatState). length x.told) same, many), omega (arith, many), ap (λ (x : SeatState). x.who) same)
counts terms s s' frame mark (inr (m, spells, (answer, tells, is))) = takes_counts terms s s' m answer mark tells is

-- an answer as what a seat's holder learns of it
pub answered : (terms : Terms) (s s' : SeatState) (m : Message) (answer : Result ℕ LineRefusal) → IfOk answer (λ number. Tells s m number s')
    → IfErr answer (λ why. TellsWhy terms s m why s') → IsAnswered terms s m answer s'
answered terms s s' m (Ok number) tells why = tells
answered terms s s' m (Err refusal) tells why = why

-- an answer after which the line goes on
pub taken : (terms : Terms) (s s' : SeatState) (m : Message) (answer : Result ℕ LineRefusal) (result : Result (Option RefusedFrame) LineOutcome) → IsAnswered terms s m answer s'
    → result ≡ effect_of (header_of m).number answer → IfOk result (λ mark. TakesMessage terms s m mark s')
taken terms s s' m answer (Ok mark) tells is = (answer, tells, sym is)
taken terms s s' m answer (Err ended) tells is = tt

-- a refusal by the tape at which the line ends
stopped_by : (terms : Terms) (s s' : SeatState) (m : Message) (r : Refusal) → TellsWhy terms s m (line.Refused r) s'
    → IfErr (refusal_effect (header_of m).number r) (λ ended. (s' ≡ s) × StopsAt ended terms s m)
stopped_by terms s s' m r tells = by (is_out_of_memory r) refl
  where
    by : (memory : Bool) → is_out_of_memory r ≡ memory
        → IfErr (effect_by memory (header_of m).number r) (λ ended. (s' ≡ s) × StopsAt ended terms s m)
    by true is =
        let told : TellsWhy terms s m (line.Refused tape.OutOfMemory) s' =
        subst (λ x. TellsWhy terms s m (line.Refused x) s') (same_number r tape.OutOfMemory (grind (arith, is))) tells in
        (tells.seat, subst (TellsWhy terms s m (line.Refused tape.OutOfMemory)) tells.seat told)
    by false is = tt

-- an answer at which the line ends leaves the seat as it was, and is the reason of the end
effect-stops : (terms : Terms) (s s' : SeatState) (m : Message) (answer : Result ℕ LineRefusal) → IsAnswered terms s m answer s'
    → IfErr (effect_of (header_of m).number answer) (λ ended. (s' ≡ s) × StopsAt ended terms s m)
effect-stops terms s s' m (Ok number) tells = tt
effect-stops terms s s' m (Err line.Behind) tells = (tells.seat, subst (TellsWhy terms s m line.Behind) tells.seat tells)
effect-stops terms s s' m (Err (line.Refused r)) tells = stopped_by terms s s' m r tells

-- an answer at which the line ends
pub stopped : (terms : Terms) (s s' : SeatState) (m : Message) (answer : Result ℕ LineRefusal) (result : Result (Option RefusedFrame) LineOutcome) → IsAnswered terms s m answer s'
    → result ≡ effect_of (header_of m).number answer → IfErr result (λ ended. (s' ≡ s) × StopsAt ended terms s m)
stopped terms s s' m answer result tells is =
    subst (λ (r : Result (Option RefusedFrame) LineOutcome). IfErr r (λ ended. (s' ≡ s) × StopsAt ended terms s m)) (sym is) (effect-stops terms s s' m answer tells)

-- if nothing was read, no frame is done and the seat is as it was
pub does_none : (terms : Terms) (s : SeatState) (had : Option (List ℕ)) → Does terms s had had 0 [] s
unfolding AreDone
does_none terms s had = record {
  frames = [];
  number = refl;
  read = Consumes-nil had;
  done = (refl, refl);
  sum = omega arith;
  few = omega arith;
  same = refl;
}

-- if one frame was read and done, one is done
pub does_one : (terms : Terms) (s s' : SeatState) (had rest : Option (List ℕ)) (frame : List ℕ) (mark : Option RefusedFrame) → IsFrame frame
    → IsDone terms s frame mark s' → Consumes had rest frame → Does terms s had rest 1 (cons_option mark []) s'
unfolding AreDone
does_one terms s s' had rest frame mark is done read =
    let many = counts terms s s' frame mark done in
    record {
      frames = frame ∷ [];
      number = refl;
      read = subst (Consumes had rest) (sym (append-nil frame)) read;
      done = (s', mark, [], is, done, (refl, refl), refl);
      sum = many.0;
      few = many.1;
      same = many.2;
    }

-- a mark before two lists
cons_both : (mark : Option RefusedFrame) (others more : List RefusedFrame) → cons_option mark others ++ more ≡ cons_option mark (others ++ more)
cons_both None others more = refl
cons_both (Some mark) others more = refl

-- two lists of frames that are done one after the other are done as one list
done_both : (terms : Terms) (s s' s'' : SeatState) (xs ys : List (List ℕ)) (n m : List RefusedFrame) → AreDone terms s xs n s' → AreDone terms s' ys m s''
    → AreDone terms s (xs ++ ys) (n ++ m) s''
unfolding AreDone
done_both terms s s' s'' [] ys n m one two =
    let none : n ++ m ≡ m = ap (λ (k : List RefusedFrame). k ++ m) one.1 in
    subst (λ (k : List RefusedFrame). AreDone terms s ys k s'') (sym none) (subst (λ (x : SeatState). AreDone terms x ys m s'') one.0 two)
done_both terms s s' s'' (frame ∷ xs) ys n m (between, first, others, is, done, later, sum) two = (
  between,
  first,
  others ++ m,
  is,
  done,
  done_both terms between s' s'' xs ys others m later two,
  ap (λ (k : List RefusedFrame). k ++ m) sum ∙ cons_both first others m,
)

-- frames that are done one part after the other are done together
pub does_both : (terms : Terms) (s s' s'' : SeatState) (had left rest : Option (List ℕ)) (n m : ℕ) (a b : List RefusedFrame) (many : ℕ)
    → Does terms s had left n a s' → Does terms s' left rest m b s'' → many ≡ n + m → Does terms s had rest many (a ++ b) s''
does_both terms s s' s'' had left rest n m a b many one two all = record {
  frames = one.frames ++ two.frames;
  number = omega (arith, length-append one.frames two.frames, one.number, two.number, all);
  read =
      subst (Consumes had rest) (sym (concat-append one.frames two.frames))
      (Consumes-trans had left rest (concat one.frames) (concat two.frames) one.read two.read);
  done = done_both terms s s' s'' one.frames two.frames a b one.done two.done;
  sum = omega (arith, one.sum, two.sum, all, length-append a b);
  few = omega (arith, one.few, two.few, all, length-append a b);
  same = two.same ∙ one.same;
}

-- a run with a tally is one with the count of refused frames
pub runs_counted : (terms : Terms) (s s' : SeatState) (had rest : Option (List ℕ)) (tally : Tally) (refused : ℕ) (ended : LineOutcome)
    → refused ≡ tally.refused → RunsTallied terms s had rest tally ended s' → Runs terms s had rest refused ended s'
runs_counted terms s s' had rest tally refused ended is (marks, counted, runs) = (marks, is ∙ counted.all, runs)
