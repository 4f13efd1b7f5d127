-- Serves lines one after the other: the calls they make, and the answers that are written.
use Rattle.std.proofs.Common.{◌≡◌, ℕ, ◌+◌, List, [], ◌∷◌, ◌++◌, Option, Some, None, append-nil, append_assoc}
use Rattle.std.proofs.Common.{length-append, refl, sym, ap, subst, ◌∙◌, arith, Result, Ok, Err, OnOk, IfErr, inl, inr}
use Rattle.std.specs.List.{flat_map}
use Rattle.std.specs.Io.KnownBytes.{Appends, Consumes}
use Rattle.std.proofs.KnownBytes.{Appends-nil, Appends-trans, Consumes-nil, Consumes-trans}
use Rattle.whole_io.specs.Writing.{WritesPrefix}
use Rattle.day_control.specs.Answers.{Answers, AnswersTo, AnswerFails, UNKNOWN_LINE}
use Rattle.day_control.specs.Calls.{Call, Makes}
use Rattle.day_control.specs.Commands.{command_of}
use Rattle.day_control.specs.Lines.{answer_text, line_text}
use Rattle.day_control.specs.Serving.{Answered, IsTooLong, IsWhole, Serves, ServesTo}
use Rattle.day_control.specs.declared.command.ControlCommand.{ControlCommand}
use Rattle.day_control.specs.declared.serve_end.ControlOutcome.{ControlOutcome}
use Rattle.day_control.specs.declared.serve_end.ControlOutcome.TheVariants.{Clean, Truncated, TooLong, ReadFault, WriteFault, OutOfMemory, TooMany}

-- no call was made
pub Makes-nil : (known : Option (List Call)) → Makes known known []
Makes-nil None = tt
Makes-nil (Some calls) = sym (append-nil calls)

-- calls, and then others
pub Makes-trans : (a b c : Option (List Call)) (first second : List Call) → Makes a b first → Makes b c second → Makes a c (first ++ second)
Makes-trans None b c first second one two = tt
Makes-trans (Some a) None c first second one two = absurd one
Makes-trans (Some a) (Some b) None first second one two = absurd two
Makes-trans (Some a) (Some b) (Some c) first second one two = two ∙ ap (λ (l : List Call). l ++ second) one ∙ append_assoc a first second

flat-append : (f : List ℕ → List ℕ) (xs ys : List (List ℕ)) → flat_map f (xs ++ ys) ≡ flat_map f xs ++ flat_map f ys
flat-append f [] ys = refl
flat-append f (x ∷ xs) ys = ap (λ (l : List ℕ). f x ++ l) (flat-append f xs ys) ∙ sym (append_assoc (f x) (flat_map f xs) (flat_map f ys))

-- lines that are answered, and then others
Answered-both : (first second : List (List ℕ)) (calls more : List Call) (text rest : List ℕ) → Answered first calls text → Answered second more rest
    → Answered (first ++ second) (calls ++ more) (text ++ rest)
unfolding Answered
Answered-both [] second calls more text rest one two = rw (one.0, one.1) two
Answered-both (line ∷ first) second calls more text rest one two = (
  one.0,
  one.1 ++ more,
  one.2,
  one.3 ++ rest,
  one.4,
  one.5,
  ap (λ (l : List Call). l ++ more) one.6 ∙ append_assoc one.0 one.1 more,
  ap (λ (l : List ℕ). l ++ rest) one.7 ∙ append_assoc one.2 one.3 rest,
  Answered-both first second one.1 more one.3 rest one.8 two,
)

-- nothing was read yet
pub Serves-none : (known : Option (List Call)) (left held : Option (List ℕ)) → Serves known known left left held held 0
unfolding Answered
Serves-none known left held = record {
  lines = [];
  calls = [];
  text = [];
  number = refl;
  answered = (refl, refl);
  made = Makes-nil known;
  read = Consumes-nil left;
  written = Appends-nil held;
}

-- a line that is read and answered is one line served
pub Serves-one : (before after : Option (List Call)) (had left held holds : Option (List ℕ)) (line text : List ℕ) (calls : List Call) → IsWhole line
    → Answers (command_of line) calls text → Makes before after calls → Consumes had left (line_text line) → Appends held holds text
    → Serves before after had left held holds 1
unfolding Answered
Serves-one before after had left held holds line text calls whole answers made read written = record {
  lines = line ∷ [];
  calls = calls;
  text = text;
  number = refl;
  answered = (calls, [], text, [], whole, answers, sym (append-nil calls), sym (append-nil text), (refl, refl));
  made = made;
  read = subst (Consumes had left) (sym (append-nil (line_text line))) read;
  written = written;
}

-- lines that are served after others are all served together
pub Serves-both : (before midst after : Option (List Call)) (had left rest held holds kept : Option (List ℕ)) (n m k : ℕ)
    → Serves before midst had left held holds n → Serves midst after left rest holds kept m
    → k ≡ n + m → Serves before after had rest held kept k
Serves-both before midst after had left rest held holds kept n m k one two is = record {
  lines = one.lines ++ two.lines;
  calls = one.calls ++ two.calls;
  text = one.text ++ two.text;
  number = omega (arith, length-append one.lines two.lines, one.number, two.number, is);
  answered = Answered-both one.lines two.lines one.calls two.calls one.text two.text one.answered two.answered;
  made = Makes-trans before midst after one.calls two.calls one.made two.made;
  read = subst (Consumes had rest) (sym (flat-append line_text one.lines two.lines))
      (Consumes-trans had left rest (flat_map line_text one.lines) (flat_map line_text two.lines) one.read two.read);
  written = Appends-trans held holds kept one.text two.text one.written two.written;
}

-- an end after lines
pub ServesTo-after : (end : ControlOutcome) (before midst after : Option (List Call)) (had left rest held holds kept : Option (List ℕ)) (n : ℕ)
    → Serves before midst had left held holds n
    → ServesTo end midst after left rest holds kept 0 → ServesTo end before after had rest held kept n
ServesTo-after Clean before midst after had left rest held holds kept n one two =
    (Serves-both before midst after had left rest held holds kept n 0 n one two.0 (omega arith), two.1)
ServesTo-after Truncated before midst after had left rest held holds kept n one two =
    (two.0, two.1, Serves-both before midst after had left two.0 held holds kept n 0 n one two.2 (omega arith), two.3, two.4, two.5, two.6)
ServesTo-after TooLong before midst after had left rest held holds kept n one two =
    (two.0, two.1, two.2, Serves-both before midst after had left two.0 held holds two.1 n 0 n one two.3 (omega arith), two.4, two.5, two.6)
ServesTo-after ReadFault before midst after had left rest held holds kept n one two =
    (two.0, two.1, Serves-both before midst after had left two.0 held holds kept n 0 n one two.2 (omega arith), two.3, two.4, two.5)
ServesTo-after WriteFault before midst after had left rest held holds kept n one two =
    (two.0, two.1, two.2, two.3, two.4, two.5, Serves-both before midst two.0 had left two.1 held holds two.2 n 0 n one two.6 (omega arith), two.7, two.8, two.9)
ServesTo-after OutOfMemory before midst after had left rest held holds kept n one two =
    (two.0, two.1, two.2, two.3, Serves-both before midst two.0 had left two.1 held holds kept n 0 n one two.4 (omega arith), two.5, two.6, two.7, two.8)
ServesTo-after TooMany before midst after had left rest held holds kept n one two =
    Serves-both before midst after had left rest held holds kept n 0 n one two (omega arith)

-- a line that is no command was answered
pub unknown_answered : {A E : Type 0} (result : Result A E) (known : Option (List Call)) (held holds : Option (List ℕ)) → OnOk result (Appends held holds (answer_text (UNKNOWN_LINE ∷ [])))
    → OnOk result (AnswersTo None known known held holds)
unknown_answered (Ok done) known held holds written = ([], answer_text (UNKNOWN_LINE ∷ []), (refl, refl), Makes-nil known, written)
unknown_answered (Err fault) known held holds written = written

-- a prefix of the answer to a line that is no command was written
unknown_fails : (end : ControlOutcome) (known : Option (List Call)) (held holds : Option (List ℕ)) → end ≡ WriteFault
    → WritesPrefix (answer_text (UNKNOWN_LINE ∷ [])) held holds → AnswerFails end None known known held holds
unknown_fails end known held holds is prefix = rw is ([], answer_text (UNKNOWN_LINE ∷ []), (refl, refl), Makes-nil known, prefix)

-- a line that was read was answered
line_answered : (before after : Option (List Call)) (had left held holds : Option (List ℕ)) (line : List ℕ) → IsWhole line
    → Consumes had left (line_text line) → AnswersTo (command_of line) before after held holds → Serves before after had left held holds 1
line_answered before after had left held holds line whole read answers =
    Serves-one before after had left held holds line answers.1 answers.0 whole answers.2 answers.3 read answers.4

-- a line that was read was not answered
line_fails : (end : ControlOutcome) (before after : Option (List Call)) (had left held holds : Option (List ℕ)) (line : List ℕ) → IsWhole line
    → Consumes had left (line_text line) → AnswerFails end (command_of line) before after held holds → ServesTo end before after had left held holds 0
line_fails WriteFault before after had left held holds line whole read fails =
    (before, had, held, line, fails.1, fails.0, Serves-none before had held, fails.3, fails.4, inl (whole, read, fails.2))
line_fails OutOfMemory before after had left held holds line whole read fails =
    (before, had, line, fails.0, rw fails.3 (Serves-none before had held), fails.2, fails.1, whole, read)
line_fails Clean before after had left held holds line whole read fails = absurd fails
line_fails Truncated before after had left held holds line whole read fails = absurd fails
line_fails TooLong before after had left held holds line whole read fails = absurd fails
line_fails ReadFault before after had left held holds line whole read fails = absurd fails
line_fails TooMany before after had left held holds line whole read fails = absurd fails

-- a line that is no command was not answered, by its result
pub unknown_failed : {A : Type 0} (result : Result A ControlOutcome) (known : Option (List Call)) (held holds : Option (List ℕ))
    → IfErr result (λ end. (end ≡ WriteFault) × WritesPrefix (answer_text (UNKNOWN_LINE ∷ [])) held holds)
    → IfErr result (λ end. AnswerFails end None known known held holds)
unknown_failed (Ok done) known held holds fails = fails
unknown_failed (Err end) known held holds fails = unknown_fails end known held holds fails.0 fails.1

-- a line that was read, if it was answered
pub read_answered : {A : Type 0} (result : Result A ControlOutcome) (command : Option ControlCommand) (before after : Option (List Call)) (had left held holds : Option (List ℕ)) (line : List ℕ)
    → IsWhole line → Consumes had left (line_text line) → command ≡ command_of line
    → OnOk result (AnswersTo command before after held holds) → OnOk result (Serves before after had left held holds 1)
read_answered (Ok done) command before after had left held holds line whole read is answers =
    line_answered before after had left held holds line whole read (subst (λ (c : Option ControlCommand). AnswersTo c before after held holds) is answers)
read_answered (Err end) command before after had left held holds line whole read is answers = answers

-- a line that was read, if it was not answered
pub read_failed : {A : Type 0} (result : Result A ControlOutcome) (command : Option ControlCommand) (before after : Option (List Call)) (had left held holds : Option (List ℕ)) (line : List ℕ)
    → IsWhole line → Consumes had left (line_text line) → command ≡ command_of line
    → IfErr result (λ end. AnswerFails end command before after held holds) → IfErr result (λ end. ServesTo end before after had left held holds 0)
read_failed (Ok done) command before after had left held holds line whole read is fails = fails
read_failed (Err end) command before after had left held holds line whole read is fails =
    line_fails end before after had left held holds line whole read (subst (λ (c : Option ControlCommand). AnswerFails end c before after held holds) is fails)

-- a line that is too long, if its answer was not written whole
pub too_long_failed : (end : ControlOutcome) (known : Option (List Call)) (had left held holds : Option (List ℕ)) (line : List ℕ) → IsTooLong line → Consumes had left line
    → end ≡ WriteFault → WritesPrefix (answer_text (UNKNOWN_LINE ∷ [])) held holds → ServesTo end known known had left held holds 0
too_long_failed end known had left held holds line long read is prefix =
    rw is (known, had, held, line, answer_text (UNKNOWN_LINE ∷ []), [], Serves-none known had held, Makes-nil known, prefix, inr (long, read, (refl, refl)))

-- the input ended before a line
pub nothing_read : (known : Option (List Call)) (had left held : Option (List ℕ)) → Consumes had left [] → Serves known known had left held held 0
unfolding Answered
nothing_read known had left held read = record {
  lines = [];
  calls = [];
  text = [];
  number = refl;
  answered = (refl, refl);
  made = Makes-nil known;
  read = read;
  written = Appends-nil held;
}
