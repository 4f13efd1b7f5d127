-- The small days that the laws split: names, messages, tapes and figures.
use Rattle.std.specs.Prelude.{ℕ, List, [], ◌∷◌, Some, codes}
use Rattle.tape_types.specs.Names.{Names}
use Rattle.sale_matrix.specs.declared.matrix.Matrix.TheVariants.{One}
use Rattle.reports.specs.declared.message.Message.{Message}
use Rattle.reports.specs.declared.message.Message.TheVariants.{Report}
use Rattle.scratch_fold.specs.declared.summary.Summary.{Summary}
use Rattle.tape_core.specs.Tape.{TapeState, empty_tape}

-- a first symbol
abbrev pub ab : List ℕ
ab = codes "AB      "

-- a second symbol
abbrev pub cd : List ℕ
cd = codes "CD      "

-- the participant `N`
abbrev pub N : ℕ
N = 78

-- the participant `Q`
abbrev pub Q : ℕ
Q = 81

-- both symbols, and both participants
abbrev pub both_listed : Names
both_listed = record { symbols = ab ∷ cd ∷ []; participants = N ∷ Q ∷ [] }

-- the first symbol, and N alone
abbrev pub ab_listed : Names
ab_listed = record { symbols = ab ∷ []; participants = N ∷ [] }

-- N's regular report of 100 shares at 10.00 dollars, under this number
abbrev pub report : ℕ → List ℕ → Message
report number symbol =
    Report (record { participant = N; number = number; moment = 0; symbol = symbol })
    (record { price = 100000; size = 100; condition = codes "@   " })

-- the empty tape of both symbols, with room for two messages
abbrev pub both_start : TapeState
both_start = empty_tape both_listed 2 One

-- the empty tape of the first symbol and N, with room for one
abbrev pub ab_start : TapeState
ab_start = empty_tape ab_listed 1 One

-- N reports the second symbol under 2, and then the first under 1
abbrev pub out_of_number : List Message
out_of_number = report 2 cd ∷ report 1 ab ∷ []

-- N reports the second symbol under 1, and then the first under 2
abbrev pub in_number : List Message
in_number = report 1 cd ∷ report 2 ab ∷ []

-- the summary of one such report, at this place
abbrev pub figures_at : ℕ → Summary
figures_at place =
    let mark = Some (record { price = 100000; place = place; who = N }) in
    record { opening = mark; high = mark; low = mark; last = mark; volume = 100; trades = 1 }
