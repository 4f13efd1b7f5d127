-- The figures and refusals of the worked days, computed from the definitions.
use Rattle.std.proofs.Common.{◌≡◌, ◌∷◌, [], None, Some, refl}
use Rattle.sale_matrix.specs.Matrix.{first_rows, second_rows, third_rows, fourth_rows, cells_of, is_within}
use Rattle.sale_matrix.specs.declared.matrix.Matrix.TheVariants.{One}
use Rattle.scratch_fold.specs.Fold.{empty_summary}
use Rattle.tape_core.specs.declared.refusal.Refusal.TheVariants.{Full, Stale, UnknownParticipant}
use Rattle.tape_core.specs.Standing.{symbol_summary}
use Rattle.tape_types.specs.Ranges.{TAPE_MOST}
use Rattle.tape_core.specs.Tape.{empty_tape, messages_of, refusal, with_message}
use Rattle.csv_days.specs.Days.{first_tape}
use Rattle.split_days.specs.Split.{AdmitsAll, part_of, tape_after_all}
use Rattle.split_days.specs.Worked.{ab, ab_listed, ab_start, both_start, cd, figures_at, in_number, out_of_number, report}

-- the whole admits the first message
pub whole-begins : refusal both_start (report 2 cd) ≡ None
unfolding first_rows second_rows third_rows fourth_rows cells_of is_within
whole-begins = refl

-- the whole refuses a number below its participant's last, whatever symbol that was for
pub whole-refuses : refusal (with_message both_start (report 2 cd)) (report 1 ab) ≡ Some Stale
unfolding first_rows second_rows third_rows fourth_rows cells_of is_within
whole-refuses = refl

-- the part has no number above it
pub part-admits : AdmitsAll ab_start (part_of (ab ∷ []) out_of_number)
unfolding first_rows second_rows third_rows fourth_rows cells_of is_within
part-admits = (refl, tt)

-- so the first symbol has no figure on the whole
pub whole-lacks : symbol_summary One (messages_of (with_message both_start (report 2 cd)).entries) ab ≡ empty_summary
unfolding first_rows second_rows third_rows fourth_rows cells_of is_within
whole-lacks = refl

-- and has those of its report on the part
pub part-has : symbol_summary One (messages_of (tape_after_all ab_start (part_of (ab ∷ []) out_of_number)).entries) ab ≡ figures_at 1
unfolding first_rows second_rows third_rows fourth_rows cells_of is_within
part-has = refl

-- rising numbers are admitted
pub whole-admits : AdmitsAll both_start in_number
unfolding first_rows second_rows third_rows fourth_rows cells_of is_within
whole-admits = (refl, (refl, tt))

-- the first symbol's report is second on the whole
pub whole-figures : symbol_summary One (messages_of (tape_after_all both_start in_number).entries) ab ≡ figures_at 2
unfolding first_rows second_rows third_rows fourth_rows cells_of is_within
whole-figures = refl

-- and first on the part
pub part-figures : symbol_summary One (messages_of (tape_after_all ab_start (part_of (ab ∷ []) in_number)).entries) ab ≡ figures_at 1
unfolding first_rows second_rows third_rows fourth_rows cells_of is_within
part-figures = refl

-- the part's own tape lists its symbol and its participant alone
pub own-begins : first_tape One (part_of (ab ∷ []) in_number) ≡ empty_tape ab_listed TAPE_MOST One
own-begins = refl

-- without room, nothing is admitted
pub no-room : refusal (empty_tape ab_listed 0 One) (report 1 ab) ≡ Some Full
no-room = refl

-- nor from a participant that is not listed
pub no-name : refusal (empty_tape (record { symbols = ab ∷ []; participants = [] }) 1 One) (report 1 ab) ≡ Some UnknownParticipant
no-name = refl
