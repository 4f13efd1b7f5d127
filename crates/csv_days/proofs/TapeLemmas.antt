-- The readable tape, row by row and piece by piece.
use Rattle.std.proofs.Common.{◌≡◌, ◌==◌, ◌++◌, ◌+◌, ◌<◌, ◌≤◌, ◌∷◌, ◌∙◌, [], ℕ, List, Option, true, ap, append-nil, append_assoc, arith, drop, fold, get_or, length, length-append, refl, subst, sym, take}
use Rattle.std.specs.Io.KnownBytes.{Appends}
use Rattle.std.proofs.lemmas.Grind.{flat_map-append}
use Rattle.std.proofs.lemmas.List.{take-append-drop, take_more}
use Rattle.csv.specs.Writing.{default_writer, row_text}
use Rattle.reports.specs.declared.message.Message.{Message}
use Rattle.whole_io.specs.Lemmas.WriteLemmas.{WritesPrefix-after, WritesPrefix-longer, WritesPrefix-whole, WritesUpTo-all, WritesUpTo-both, WritesUpTo-longer, WritesUpTo-none, WritesUpTo-whole}
use Rattle.whole_io.specs.Writing.{WritesPrefix, WritesUpTo}
use Rattle.tape_core.specs.Tape.{TapeState, lists_symbol}
use Rattle.tape_core.specs.Answers.{answers, tape_after}
use Rattle.csv_days.specs.Days.{AnswersMore, HasAnswered, lists_all, symbol_of}
use Rattle.csv_days.specs.Refusals.{AreRefusals}
use Rattle.csv_days.specs.StaleRows.{first_stale}
use Rattle.csv_messages.specs.Tables.{FIRST_ROW}
use Rattle.csv_days.specs.TapeRows.{TapeRow, tape_columns, row_line, rows_text, tape_row, tape_rows, text_from}
use Rattle.csv_days.specs.declared.day.TableDay.{TableDay}
use Rattle.csv_days.proofs.ListingLemmas.{all-parts, part-listed}

-- ## Rows

-- the rows of messages, and of more
tape_rows-append : (t : TapeState) (before messages : List Message)
    → tape_rows t (before ++ messages) ≡ tape_rows t before ++ tape_rows (fold tape_after t before) messages
unfolding tape_rows
tape_rows-append t [] messages = refl
tape_rows-append t (m ∷ before) messages = ap (λ (l : List TapeRow). tape_row t m ∷ l) (tape_rows-append (tape_after t m) before messages)

-- the row of one message
tape_rows-one : (t : TapeState) (m : Message) → tape_rows t (m ∷ []) ≡ tape_row t m ∷ []
unfolding tape_rows
tape_rows-one t m = refl

-- the text of rows, and of more
rows_text-append : (rows more : List TapeRow) → rows_text (rows ++ more) ≡ rows_text rows ++ rows_text more
unfolding rows_text
rows_text-append rows more = flat_map-append row_line rows more

-- the text of one row
rows_text-one : (row : TapeRow) → rows_text (row ∷ []) ≡ row_line row
unfolding rows_text
rows_text-one row = append-nil (row_line row)

-- the text of no message's row
pub rows_text-none : (t : TapeState) → rows_text (tape_rows t []) ≡ []
unfolding rows_text tape_rows
rows_text-none t = refl

-- the text of one row more
pub rows_text-more : (t now : TapeState) (messages : List Message) (i : ℕ) (m : Message) (old new : List ℕ) → i < length messages → get_or messages i m ≡ m
    → now ≡ fold tape_after t (take i messages) → old ≡ rows_text (tape_rows t (take i messages)) → new ≡ old ++ row_line (tape_row now m)
    → new ≡ rows_text (tape_rows t (take (i + 1) messages))
rows_text-more t now messages i m old new within is tape so_far written =
    let front = take i messages in
    written ∙ ap (λ (l : List ℕ). l ++ row_line (tape_row now m)) so_far
    ∙ ap (λ (s : TapeState). rows_text (tape_rows t front) ++ row_line (tape_row s m)) tape
    ∙ ap (λ (l : List ℕ). rows_text (tape_rows t front) ++ l) (sym (rows_text-one (tape_row (fold tape_after t front) m)))
    ∙ sym (rows_text-append (tape_rows t front) (tape_row (fold tape_after t front) m ∷ []))
    ∙ ap (λ (l : List TapeRow). rows_text (tape_rows t front ++ l)) (sym (tape_rows-one (fold tape_after t front) m))
    ∙ ap rows_text (sym (tape_rows-append t front (m ∷ [])))
    ∙ ap (λ (n : Message). rows_text (tape_rows t (front ++ n ∷ []))) (sym is)
    ∙ ap (λ (l : List Message). rows_text (tape_rows t l)) (sym (take_more messages i m within))

-- ## Texts

-- the text of the columns' names alone
text_from-none : (t : TapeState) → text_from t [] ≡ row_text default_writer tape_columns
unfolding text_from rows_text tape_rows
text_from-none t = append-nil (row_text default_writer tape_columns)

-- the text of messages, and of more
text_from-append : (t : TapeState) (before messages : List Message)
    → text_from t (before ++ messages) ≡ text_from t before ++ rows_text (tape_rows (fold tape_after t before) messages)
unfolding text_from
text_from-append t before messages =
    let head = row_text default_writer tape_columns in
    ap (λ (l : List TapeRow). head ++ rows_text l) (tape_rows-append t before messages)
    ∙ ap (λ (l : List ℕ). head ++ l) (rows_text-append (tape_rows t before) (tape_rows (fold tape_after t before) messages))
    ∙ sym (append_assoc head (rows_text (tape_rows t before)) (rows_text (tape_rows (fold tape_after t before) messages)))

-- ## Pieces

-- a whole text is a prefix of itself
pub written_prefix : (text : List ℕ) (old new : Option (List ℕ)) → Appends old new text → WritesPrefix text old new
written_prefix text old new written = WritesPrefix-whole text old new written

-- a list in two parts
pub two_parts : (n : ℕ) (rest next behind : List Message) → next ≡ take n rest → behind ≡ drop n rest → rest ≡ next ++ behind
two_parts n rest next behind front back = rw (front, back) (sym (take-append-drop n rest))

-- of messages that a day answers, these are left, and the text of those before is written up to this part of it
pub record WrittenSome (t : TapeState) (now : TableDay) (messages rest : List Message) (text : List ℕ) (known_old known_now : Option (List ℕ)) : Type 0 where
  pub done : List Message
  pub split : messages ≡ done ++ rest
  pub answered : HasAnswered t done now
  pub pending : WritesUpTo (text_from t done) text known_old known_now

-- before the first message
pub WrittenSome-none : (t : TapeState) (day : TableDay) (messages : List Message) (text : List ℕ) (known : Option (List ℕ))
    → text ≡ row_text default_writer tape_columns → HasAnswered t [] day → WrittenSome t day messages messages text known known
WrittenSome-none t day messages text known is fresh = record {
  done = [];
  split = refl;
  answered = fresh;
  pending = subst (λ (l : List ℕ). WritesUpTo l text known known) (is ∙ sym (text_from-none t)) (WritesUpTo-none text known);
}

-- the part that was left is written
written_all : (t : TapeState) (now : TableDay) (messages rest : List Message) (text : List ℕ) (known_old known_now known_new : Option (List ℕ))
    → (so_far : WrittenSome t now messages rest text known_old known_now) → Appends known_now known_new text
    → WritesUpTo (text_from t so_far.done) [] known_old known_new
written_all t now messages rest text known_old known_now known_new so_far written =
    WritesUpTo-both (text_from t so_far.done) text [] known_old known_now known_new so_far.pending (WritesUpTo-whole text known_now known_new written)

-- a prefix of the text of the first messages is one of the text of all
prefix_of_all : (t : TapeState) (messages done rest : List Message) (known_old known_new : Option (List ℕ)) → messages ≡ done ++ rest
    → WritesPrefix (text_from t done) known_old known_new → WritesPrefix (text_from t messages) known_old known_new
prefix_of_all t messages done rest known_old known_new split prefix =
    subst (λ (l : List ℕ). WritesPrefix l known_old known_new) (sym (ap (text_from t) split ∙ text_from-append t done rest))
    (WritesPrefix-longer (text_from t done) (rows_text (tape_rows (fold tape_after t done) rest)) known_old known_new prefix)

-- the part that was left is written, and the next messages are answered
pub WrittenSome-next : (t : TapeState) (now new : TableDay) (messages rest next behind : List Message) (text lines : List ℕ)
    (known_old known_now known_new : Option (List ℕ)) → rest ≡ next ++ behind → lines ≡ rows_text (tape_rows now.tape next)
    → AnswersMore now new next → Appends known_now known_new text → WrittenSome t now messages rest text known_old known_now
    → WrittenSome t new messages behind lines known_old known_new
WrittenSome-next t now new messages rest next behind text lines known_old known_now known_new cut is more written so_far = record {
  done = so_far.done ++ next;
  split = so_far.split ∙ ap (λ (l : List Message). so_far.done ++ l) cut ∙ sym (append_assoc so_far.done next behind);
  answered = more t so_far.done so_far.answered;
  pending = subst (λ (l : List ℕ). WritesUpTo l lines known_old known_new)
      (ap (λ (l : List ℕ). text_from t so_far.done ++ l) (is ∙ ap (λ (s : TapeState). rows_text (tape_rows s next)) so_far.answered.tape)
      ∙ sym (text_from-append t so_far.done next))
      (WritesUpTo-longer (text_from t so_far.done) [] lines known_old known_new
      (written_all t now messages rest text known_old known_now known_new so_far written));
}

-- the part that was left was written in part
pub WrittenSome-fault : (t : TapeState) (now : TableDay) (messages rest : List Message) (text : List ℕ) (known_old known_now known_new : Option (List ℕ))
    → WrittenSome t now messages rest text known_old known_now → WritesPrefix text known_now known_new
    → WritesPrefix (text_from t messages) known_old known_new
WrittenSome-fault t now messages rest text known_old known_now known_new so_far prefix =
    prefix_of_all t messages so_far.done rest known_old known_new so_far.split
    (WritesPrefix-after (text_from t so_far.done) text known_old known_now known_new so_far.pending prefix)

-- nothing is left
done_all : (messages done rest : List Message) → messages ≡ done ++ rest → rest ≡ [] → done ≡ messages
done_all messages done rest split none = sym (split ∙ ap (λ (l : List Message). done ++ l) none ∙ append-nil done)

-- the last part is written
pub WrittenSome-whole : (t : TapeState) (now : TableDay) (messages rest : List Message) (text : List ℕ) (known_old known_now known_new : Option (List ℕ))
    → rest ≡ [] → WrittenSome t now messages rest text known_old known_now → Appends known_now known_new text
    → Appends known_old known_new (text_from t messages)
WrittenSome-whole t now messages rest text known_old known_now known_new none so_far written =
    subst (λ (l : List Message). Appends known_old known_new (text_from t l)) (done_all messages so_far.done rest so_far.split none)
    (WritesUpTo-all (text_from t so_far.done) known_old known_new
    (written_all t now messages rest text known_old known_now known_new so_far written))

-- all messages are answered
pub WrittenSome-answered : (t : TapeState) (now : TableDay) (messages rest : List Message) (text : List ℕ) (known_old known_now : Option (List ℕ))
    → rest ≡ [] → WrittenSome t now messages rest text known_old known_now → AreRefusals (answers t messages) now.refusals
WrittenSome-answered t now messages rest text known_old known_now none so_far =
    subst (λ (l : List Message). AreRefusals (answers t l) now.refusals) (done_all messages so_far.done rest so_far.split none) so_far.answered.refusals

-- and this is the first of them that was refused as stale
pub WrittenSome-stale : (t : TapeState) (now : TableDay) (messages rest : List Message) (text : List ℕ) (known_old known_now : Option (List ℕ))
    → rest ≡ [] → WrittenSome t now messages rest text known_old known_now → now.refusals.stale ≡ first_stale t messages
WrittenSome-stale t now messages rest text known_old known_now none so_far =
    so_far.answered.stale ∙ ap (first_stale t) (done_all messages so_far.done rest so_far.split none)

-- the next messages have numbers
pub WrittenSome-few : (t : TapeState) (now : TableDay) (messages rest next behind : List Message) (text : List ℕ) (known_old known_now : Option (List ℕ))
    → rest ≡ next ++ behind → WrittenSome t now messages rest text known_old known_now → now.row + length next ≤ length messages + FIRST_ROW
WrittenSome-few t now messages rest next behind text known_old known_now cut so_far =
    omega (arith, so_far.answered.row, ap length so_far.split, length-append so_far.done rest, ap length cut, length-append next behind)

-- no message is left
pub no_messages : (rest : List Message) → (length rest == 0) ≡ true → rest ≡ []
no_messages [] test = refl
no_messages (m ∷ rest) test = let none : length (m ∷ rest) ≡ 0 = grind (arith, test) in absurd (omega (arith, none))

-- nothing is written
pub nothing_written : (text : List ℕ) (known : Option (List ℕ)) → WritesPrefix text known known
nothing_written text known = (text, WritesUpTo-none text known)

-- the tape lists the symbols of the next messages
pub WrittenSome-listed : (t : TapeState) (now : TableDay) (messages rest next behind : List Message) (text : List ℕ) (known_old known_now : Option (List ℕ))
    → rest ≡ next ++ behind → lists_all t messages ≡ true → WrittenSome t now messages rest text known_old known_now → lists_all now.tape next ≡ true
WrittenSome-listed t now messages rest next behind text known_old known_now cut listed so_far =
    (all-parts (λ m. lists_symbol now.tape.listing (symbol_of m)) rest next behind cut
    (part-listed t now.tape messages so_far.done rest so_far.split so_far.answered.tape listed)).0
