-- The tape from which a part's report is made: it lists the part's own names, and refuses none of its messages.
use Rattle.std.proofs.Common.{◌≡◌, ◌≤◌, ◌∷◌, ◌∙◌, [], ℕ, true, List, length, fold, refl, sym, ap, subst}
use Rattle.tape_types.specs.Names.{Names}
use Rattle.tape_types.specs.Ranges.{TAPE_MOST}
use Rattle.sale_matrix.specs.declared.matrix.Matrix.{Matrix}
use Rattle.reports.specs.declared.message.Message.{Message}
use Rattle.tape_core.specs.Tape.{TapeState, empty_tape}
use Rattle.tape_core.specs.Answers as table
use Rattle.csv_days.specs.Days.{first_tape, names_of, tape_of}
use Rattle.csv_days.proofs.ListingLemmas.{ListsAll-names}
use Rattle.split_days.specs.Split.{AdmitsAll, HasRoom, HasSameSummary, HasSameParticipantSummary, is_among, part_of, tape_after_all}
use Rattle.split_days.proofs.Admissions.{AdmitsAll-part, summary-split, participant_summary-split}

-- a tape that refuses none of these messages gets all of them
has-all : (ms : List Message) (t : TapeState) → AdmitsAll t ms → fold table.tape_after t ms ≡ tape_after_all t ms
unfolding table.tape_after
has-all [] t admits = refl
has-all (m ∷ ms) t admits = ap (λ next. fold table.tape_after (table.tape_by t m next) ms) admits.0 ∙ has-all ms _ admits.1

module _ (listing : Names) (limit : ℕ) (matrix : Matrix) (symbols : List (List ℕ)) (ms : List Message)
    (admits : AdmitsAll (empty_tape listing limit matrix) ms) (few : length (part_of symbols ms) ≤ TAPE_MOST) where
  -- a part's own listing has its names, and its tape has room
  has : HasRoom (names_of (part_of symbols ms)) TAPE_MOST (part_of symbols ms)
  has = record { names = ListsAll-names (part_of symbols ms); room = few }

  -- so its tape admits each of its messages
  pub own-admits : AdmitsAll (first_tape matrix (part_of symbols ms)) (part_of symbols ms)
  own-admits = AdmitsAll-part symbols listing (names_of (part_of symbols ms)) limit TAPE_MOST matrix ms admits has

  -- and is the tape after them
  own-tape : tape_after_all (first_tape matrix (part_of symbols ms)) (part_of symbols ms) ≡ tape_of matrix (part_of symbols ms)
  own-tape = sym (has-all (part_of symbols ms) (first_tape matrix (part_of symbols ms)) own-admits)

  module _ (symbol : List ℕ) (among : is_among symbols symbol ≡ true) where
    -- a symbol has the same summary on both
    pub own-summary : HasSameSummary (tape_after_all (empty_tape listing limit matrix) ms) (tape_of matrix (part_of symbols ms)) symbol
    own-summary =
        subst (λ own. HasSameSummary (tape_after_all (empty_tape listing limit matrix) ms) own symbol) own-tape
        (summary-split symbols listing (names_of (part_of symbols ms)) limit TAPE_MOST matrix ms admits has symbol among)

    -- and so has each participant in it
    pub own-participant_summary : (who : ℕ)
        → HasSameParticipantSummary (tape_after_all (empty_tape listing limit matrix) ms) (tape_of matrix (part_of symbols ms)) symbol who
    own-participant_summary who =
        subst (λ own. HasSameParticipantSummary (tape_after_all (empty_tape listing limit matrix) ms) own symbol who) own-tape
        (participant_summary-split symbols listing (names_of (part_of symbols ms)) limit TAPE_MOST matrix ms admits has symbol among who)
