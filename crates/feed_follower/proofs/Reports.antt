-- Lemmas of the report of what is held, and of how a day ends.
use Rattle.std.proofs.Common.{◌≡◌, ℕ, List, length, Option, None, Some, Result, Ok, Err, IfOk, OnOk, refl, true}
use Rattle.std.specs.Prelude.{IfSome, IsOk, IsSome, IsSomeAnd}
use Rattle.std.specs.Io.KnownBytes.{Appends}
use Rattle.std.proofs.lemmas.Bool.{false≢true}
use Rattle.tape_types.specs.Names.{Names}
use Rattle.sale_matrix.specs.declared.matrix.Matrix.{Matrix}
use Rattle.tape_core.specs.Tape.{TapeState, IsLegal}
use Rattle.day_report.specs.ReportText.{report_text}
use Rattle.day_report.specs.Rows.{report_rows}
use Rattle.feed_ends.specs.Reports.{IsListing, WritesItsReport, WritesOneReport}
use Rattle.feed_ends.specs.declared.fault.Fault.{Fault}
use Rattle.subscriber.specs.Subscribers.{SubscriberState}
use Rattle.feed_follower.specs.Reported.{WritesReportOf}
use Rattle.feed_follower.specs.Sinks.{EntryText, GivesItsReport, GivesTape, IsTapeOf, rows_of}

-- what is held is some legal tape, so its report is one
pub one_report : {T E : Type 0} (ended : Result T E) (t : TapeState) (old new : Option (List ℕ)) → IsListing t.listing → IsLegal t
    → OnOk ended (Appends old new (report_text (report_rows t))) → OnOk ended (WritesOneReport old new)
one_report (Ok done) t old new names legal written = (t, names, legal, written)
one_report (Err fault) t old new names legal written = tt

-- and it is that of a tape of the listing and the matrix, within the limit
pub its_report : {T E : Type 0} (ended : Result T E) (listing : Names) (matrix : Matrix) (limit : ℕ) (t : TapeState) (old new : Option (List ℕ))
    → IsListing t.listing → IsTapeOf listing matrix limit t → OnOk ended (Appends old new (report_text (report_rows t)))
    → OnOk ended (WritesItsReport listing matrix limit old new)
its_report (Ok done) listing matrix limit t old new names is written = (t, names, is.legal, is.listed, is.by_matrix, is.within, written)
its_report (Err fault) listing matrix limit t old new names is written = tt

-- the report of what is held of so many entries
abbrev pub IsReportOf : Option (List ℕ) → Option (List ℕ) → ℕ → SubscriberState → Type 0
IsReportOf old new count s =
    IsListing s.tape.listing × IsLegal s.tape × (length s.tape.entries ≡ count) × Appends old new (report_text (report_rows s.tape))

-- a day that ended well gave its sink the tape whose report it wrote
pub day_given : {T E : Type 0} (row : EntryText) (listing : Names) (matrix : Matrix) (limit : ℕ) (result : Result T E) (ended : Result T Fault)
    (held : Option SubscriberState) (report : Option (Result ℕ Fault)) (had has old new : Option (List ℕ))
    → (IsOk result → IsOk ended) → (IsOk result → IsSomeAnd report (λ (made : Result ℕ Fault). IsOk made))
    → IfSome held (λ (s : SubscriberState). IsTapeOf listing matrix limit s.tape) → OnOk ended (IsSome held)
    → OnOk ended (IfSome held (λ (s : SubscriberState). Appends had has (rows_of row s.tape)))
    → IfSome report (λ (made : Result ℕ Fault). IfOk made (λ (count : ℕ). IfSome held (IsReportOf old new count)))
    → OnOk result (GivesItsReport row listing matrix limit had has old new)
day_given row listing matrix limit (Err e) ended held report had has old new well reported tape some given written = tt
day_given row listing matrix limit (Ok done) (Err fault) held report had has old new well reported tape some given written = absurd (false≢true (well refl))
day_given row listing matrix limit (Ok done) (Ok over) None report had has old new well reported tape some given written = absurd (false≢true some)
day_given row listing matrix limit (Ok done) (Ok over) (Some s) None had has old new well reported tape some given written = absurd (reported refl)
day_given row listing matrix limit (Ok done) (Ok over) (Some s) (Some (Err fault)) had has old new well reported tape some given written =
    absurd (false≢true (reported refl))
day_given row listing matrix limit (Ok done) (Ok over) (Some s) (Some (Ok count)) had has old new well reported tape some given written =
    (s.tape, tape, given, written.3)

-- a report that is written whole is of as many entries as are returned
pub day_counted : (listing : Names) (matrix : Matrix) (limit : ℕ) (held : Option SubscriberState) (report : Option (Result ℕ Fault)) (old new : Option (List ℕ))
    → IfSome held (λ (s : SubscriberState). IsTapeOf listing matrix limit s.tape) → (IsSome report → IsSome held)
    → IfSome report (λ (made : Result ℕ Fault). IfOk made (λ (count : ℕ). IfSome held (IsReportOf old new count)))
    → IfSome report (λ (made : Result ℕ Fault). IfOk made (λ (count : ℕ). WritesReportOf listing matrix limit count old new))
day_counted listing matrix limit held None old new tape some written = tt
day_counted listing matrix limit held (Some (Err fault)) old new tape some written = tt
day_counted listing matrix limit None (Some (Ok count)) old new tape some written = absurd (false≢true (some refl))
day_counted listing matrix limit (Some s) (Some (Ok count)) old new tape some written = (s.tape, written.0, tape, written.2, written.3)

-- a day that ended well gave its sink the tape that it held
pub tape_given : {T E : Type 0} (row : EntryText) (listing : Names) (matrix : Matrix) (limit : ℕ) (result : Result T E) (ended : Result T Fault)
    (held : Option SubscriberState) (had has : Option (List ℕ)) → (IsOk result → IsOk ended)
    → IfSome held (λ (s : SubscriberState). IsTapeOf listing matrix limit s.tape) → OnOk ended (IsSome held)
    → OnOk ended (IfSome held (λ (s : SubscriberState). Appends had has (rows_of row s.tape)))
    → OnOk result (GivesTape row listing matrix limit had has)
tape_given row listing matrix limit (Err e) ended held had has well tape some given = tt
tape_given row listing matrix limit (Ok done) (Err fault) held had has well tape some given = absurd (false≢true (well refl))
tape_given row listing matrix limit (Ok done) (Ok over) None had has well tape some given = absurd (false≢true some)
tape_given row listing matrix limit (Ok done) (Ok over) (Some s) had has well tape some given = (s.tape, tape, given)
