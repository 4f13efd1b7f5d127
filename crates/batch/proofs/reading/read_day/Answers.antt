use Rattle.std.proofs.Common.{Result, Ok, Err, OnOk}
use Rattle.batch.proofs.DayLemmas.{HasAnswered-all}
use Rattle.batch.proofs.reading.read_day.Goals as goal

OnOk-map : {T E : Type 0} (r : Result T E) (P Q : Type 0) → (P → Q) → OnOk r P → OnOk r Q
OnOk-map (Ok value) P Q f p = f p
OnOk-map (Err error) P Q f p = tt

pub returns-clause-day : goal.returns-clause-day
returns-clause-day g c =
    OnOk-map c.answer_all-read.result _ _
    (λ more. HasAnswered-all _ c.new-day.result c.answer_all-read.new.self _ c.new-day.ensures.tape c.new-day.ensures.answers c.new-day.ensures.goes_on more)
    c.answer_all-read.ensures.answered
