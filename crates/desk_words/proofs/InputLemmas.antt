-- Lemmas about an input whose first bytes are read before the others: they tell a journal, and a word runs on all of it.
use Rattle.std.proofs.Common.{◌≡◌, ◌⊎◌, ◌++◌, ◌∙◌, ◌<◌, ◌≤◌, ℕ, [], List, Bool, true, false, Option, Some, None, IfSome, ap, append-nil, arith, inl, inr, length, length-take-le, refl, subst, sym, take}
use Rattle.std.proofs.lemmas.Bool.{cases_lt}
use Rattle.std.proofs.lemmas.List.{take-append-le}
use Rattle.std.specs.Io.KnownBytes.{Consumes, IsAtEnd}
use Rattle.std.specs.Fmt.{option_append}
use Rattle.reports.specs.declared.message.Message.{Message}
use Rattle.sale_matrix.specs.declared.matrix.Matrix.{Matrix}
use Rattle.day_journal.specs.Headers.{MAGIC}
use Rattle.journal_days.specs.Days.{begins_journal}
use Rattle.std.specs.Str.{bytes_eq}
use Rattle.command_line.specs.declared.command.Command.{Command}
use Rattle.command_line.specs.declared.command.Command.TheVariants.{Report, Tape, Explain, Check, Verify, Convert}
use Rattle.desk_words.specs.JournalRuns.{AnswersJournal, Reads}
use Rattle.desk_words.specs.Program.{AnswersBy, AnswersCommand, AnswersTable, RunsCheck, RunsTable}
use Rattle.desk_words.specs.TextRuns.{RunsText, TextKind, kind_of}
use Rattle.desk_words.specs.VerifyRuns.{RunsVerify}

-- ## The first bytes

-- if an input is known, so are all of its bytes: the first ones and those behind them
chained : (had left known : Option (List ℕ)) (front : List ℕ) → known ≡ option_append (Some front) left → Consumes had left front
    → IfSome had (λ bytes. known ≡ Some bytes)
chained None left known front is consumed = tt
chained (Some all) None known front is consumed = absurd consumed
chained (Some all) (Some rest) known front is consumed = is ∙ ap Some (sym consumed)

-- the first eight bytes are those of a longer text, and a shorter text is all of it
same_front : (front rest : List ℕ) → (length front < 8 → rest ≡ []) → take 8 (front ++ rest) ≡ take 8 front
same_front front rest short = by (cases_lt (length front) 8)
  where
    by : (length front < 8) ⊎ (8 ≤ length front) → take 8 (front ++ rest) ≡ take 8 front
    by (inl below) = ap (λ (l : List ℕ). take 8 (front ++ l)) (short below) ∙ ap (λ (l : List ℕ). take 8 l) (append-nil front)
    by (inr within) = take-append-le 8 front rest within

-- the first eight bytes tell a journal, and so do all bytes of a shorter input
tells_journal : (journal : Bool) (had left : Option (List ℕ)) (front : List ℕ) → journal ≡ begins_journal front → Consumes had left front
    → (length front < 8 → IsAtEnd left) → IfSome had (λ bytes. journal ≡ begins_journal bytes)
tells_journal journal None left front is consumed ends = tt
tells_journal journal (Some all) None front is consumed ends = absurd consumed
tells_journal journal (Some all) (Some rest) front is consumed ends =
    is ∙ sym (ap (λ (l : List ℕ). bytes_eq (take 8 l) MAGIC) consumed ∙ ap (λ (l : List ℕ). bytes_eq l MAGIC) (same_front front rest ends))

-- the first bytes of an input, read into a row of eight, tell a journal
pub row_tells : (journal : Bool) (had left : Option (List ℕ)) (front row : List ℕ) (len : ℕ) → front ≡ take len row → length row ≡ 8 → len ≤ length row
    → Consumes had left (take len row) → (len < length row → IsAtEnd left) → journal ≡ begins_journal front → IfSome had (λ bytes. journal ≡ begins_journal bytes)
row_tells journal had left front row len same full within read ends told =
    let consumed : Consumes had left front = subst (λ (l : List ℕ). Consumes had left l) (sym same) read in
    let short : length front < 8 → IsAtEnd left = λ below. ends (omega (arith, below, ap length same, length-take-le len row within, full)) in
    tells_journal journal had left front told consumed short

-- ## What holds of a known input holds of an unknown one

table_none : {W E : Type 0} (strict : Bool) (text : Matrix → List Message → List ℕ) (matrix : Matrix) (known old new : Option (List ℕ)) (status : ℕ)
    (writer_old writer_new : W) (errors_old errors_new : E) (said_old said_new : Option (List ℕ))
    → RunsTable strict text matrix known old new status writer_old writer_new errors_old errors_new said_old said_new
    → RunsTable strict text matrix None old new status writer_old writer_new errors_old errors_new said_old said_new
table_none strict text matrix known old new status writer_old writer_new errors_old errors_new said_old said_new runs = record {
  run = runs.run;
  status_is = runs.status_is;
  comes = tt;
  part = λ ended. inr tt;
  silent = runs.silent;
  listed = λ is. tt;
  unwritten = runs.unwritten;
  quiet = runs.quiet;
  said = runs.said;
}

check_none : {W E : Type 0} (known old new : Option (List ℕ)) (status : ℕ) (writer_old writer_new : W) (errors_old errors_new : E) (said_old said_new : Option (List ℕ))
    → RunsCheck known old new status writer_old writer_new errors_old errors_new said_old said_new
    → RunsCheck None old new status writer_old writer_new errors_old errors_new said_old said_new
check_none known old new status writer_old writer_new errors_old errors_new said_old said_new runs = record {
  run = runs.run;
  status_is = runs.status_is;
  comes = tt;
  part = λ ended. tt;
  silent = runs.silent;
  quiet = runs.quiet;
  said = runs.said;
}

verify_none : {W E : Type 0} (matrix : Matrix) (known old new : Option (List ℕ)) (status : ℕ) (writer_old writer_new : W) (errors_old errors_new : E)
    (said_old said_new : Option (List ℕ))
    → RunsVerify matrix known old new status writer_old writer_new errors_old errors_new said_old said_new
    → RunsVerify matrix None old new status writer_old writer_new errors_old errors_new said_old said_new
verify_none matrix known old new status writer_old writer_new errors_old errors_new said_old said_new runs =
    record { run = runs.run; finds = tt; tells = runs.tells }

text_none : {W E : Type 0} (kind : TextKind) (known old new : Option (List ℕ)) (status : ℕ) (writer_old writer_new : W) (errors_old errors_new : E)
    (said_old said_new : Option (List ℕ)) → RunsText kind known old new status writer_old writer_new errors_old errors_new said_old said_new
    → RunsText kind None old new status writer_old writer_new errors_old errors_new said_old said_new
text_none kind known old new status writer_old writer_new errors_old errors_new said_old said_new runs = record {
  run = runs.run;
  status_is = runs.status_is;
  written = tt;
  ended = tt;
  part = λ ended. tt;
  silent = runs.silent;
  quiet = runs.quiet;
  said = runs.said;
}

module _ {W E : Type 0} (status : ℕ) (known : Option (List ℕ)) (writer_old writer_new : W) (old new : Option (List ℕ)) (errors_old errors_new : E)
    (said_old said_new : Option (List ℕ)) where
  rows_none : (command : Command) → AnswersTable command status known writer_old writer_new old new errors_old errors_new said_old said_new
      → AnswersTable command status None writer_old writer_new old new errors_old errors_new said_old said_new
  rows_none (Report asked strict) runs = (table_none strict _ _ known old new status writer_old writer_new errors_old errors_new said_old said_new runs.0, runs.1)
  rows_none (Tape asked strict) runs = table_none strict _ _ known old new status writer_old writer_new errors_old errors_new said_old said_new runs
  rows_none (Explain asked strict) runs = table_none strict _ _ known old new status writer_old writer_new errors_old errors_new said_old said_new runs
  rows_none Check runs = check_none known old new status writer_old writer_new errors_old errors_new said_old said_new runs
  rows_none (Verify asked) runs = verify_none _ known old new status writer_old writer_new errors_old errors_new said_old said_new runs
  rows_none (Convert conversion) runs = text_none (kind_of conversion) known old new status writer_old writer_new errors_old errors_new said_old said_new runs

  read_none : (Runs : List ℕ → Type 0) → Reads Runs known status writer_old writer_new said_old said_new → Reads Runs None status writer_old writer_new said_old said_new
  read_none Runs (inl unread) = inl unread
  read_none Runs (inr ran) = inr (ran.0, tt, ran.2)

  journal_none : (command : Command) → AnswersJournal command status known writer_old writer_new old new errors_old errors_new said_old said_new
      → AnswersJournal command status None writer_old writer_new old new errors_old errors_new said_old said_new
  journal_none (Report asked strict) runs = read_none _ runs
  journal_none (Tape asked strict) runs = read_none _ runs
  journal_none (Explain asked strict) runs = read_none _ runs
  journal_none Check runs = runs
  journal_none (Verify asked) runs = read_none _ runs
  journal_none (Convert conversion) runs = runs

  by_none : (journal : Bool) (command : Command) → AnswersBy journal command status known writer_old writer_new old new errors_old errors_new said_old said_new
      → AnswersBy journal command status None writer_old writer_new old new errors_old errors_new said_old said_new
  by_none true command runs = journal_none command runs
  by_none false command runs = rows_none command runs

  -- what holds of a known input holds of the input itself, if that is known
  by_known : (journal : Bool) (command : Command) (had : Option (List ℕ)) → IfSome had (λ bytes. known ≡ Some bytes)
      → IfSome had (λ bytes. journal ≡ begins_journal bytes)
      → AnswersBy journal command status known writer_old writer_new old new errors_old errors_new said_old said_new
      → AnswersCommand command status had writer_old writer_new old new errors_old errors_new said_old said_new
  by_known journal command None is tells runs = inr (journal, tt, by_none journal command runs)
  by_known journal command (Some bytes) is tells runs = inr (
    journal,
    tells,
    subst (λ (input : Option (List ℕ)). AnswersBy journal command status input writer_old writer_new old new errors_old errors_new said_old said_new) is runs,
  )

  -- a word ran on an input whose first bytes were read into a row first, and then from these and those behind them
  pub answered : (journal : Bool) (command : Command) (had left : Option (List ℕ)) (front row : List ℕ) (len : ℕ) → known ≡ option_append (Some front) left
      → front ≡ take len row → length row ≡ 8 → len ≤ length row → Consumes had left (take len row) → (len < length row → IsAtEnd left)
      → journal ≡ begins_journal front → AnswersBy journal command status known writer_old writer_new old new errors_old errors_new said_old said_new
      → AnswersCommand command status had writer_old writer_new old new errors_old errors_new said_old said_new
  answered journal command had left front row len is same full within read ends told runs =
      let consumed : Consumes had left front = subst (λ (l : List ℕ). Consumes had left l) (sym same) read in
      by_known journal command had (chained had left known front is consumed) (row_tells journal had left front row len same full within read ends told) runs
