-- The row of cursors: how it is made of the seats, and how an entry moves it.
use Rattle.std.proofs.Common.{◌≡◌, ◌≢◌, ℕ, zero, suc, ◌+◌, ◌==◌, true, false, List, [], ◌∷◌, ◌++◌, set, replicate, slice_get, Some, None}
use Rattle.std.proofs.Common.{append-nil, refl, ap, subst, ◌∙◌, sym, arith}
use Rattle.std.specs.Prelude.{IfSome, IsTrue, MatchOption, Option}
use Rattle.std.proofs.lemmas.Bool.Decides.{nat_tests}
use Rattle.std.proofs.lemmas.Bool.{cond-true, cond-false}
use Rattle.tape_types.specs.Ranges.{IsParticipant, row_index, FIRST_PARTICIPANT, PARTICIPANTS_MOST}
use Rattle.tape_core.specs.declared.entry.Entry.{Entry}
use Rattle.tape_core.specs.Standing.{is_of}
use Rattle.line_ledger.specs.declared.cursor.Cursor.{Cursor}
use Rattle.line_ledger.specs.declared.cursor.Cursors.{Cursors}
use Rattle.line_ledger.specs.declared.told.Told.{Told}
use Rattle.line_ledger.specs.Seats.{SeatState}
use Rattle.line_ledger.specs.Ends.{told_by, told_entry, told_of}
use Rattle.line_ledger.specs.Cursors.{AllStandAt, Compared, Passes, StandsAt, cursor_at}
use Rattle.line_ledger.proofs.Differences.{told_of-append, told_of-yes, told_of-no}

-- what is true of an element is true of each of its copies
each_like : {X : Type 0} (P : X → Type 0) (x : X) → P x → (n k : ℕ) → IfSome (slice_get (replicate n x) k) P
each_like P x is zero k = tt
each_like P x is (suc n) zero = is
each_like P x is (suc n) (suc k) = each_like P x is n k

-- what is true of an element is true of it where it is set
set_here : {X : Type 0} (P : X → Type 0) (xs : List X) (i : ℕ) (x : X) → P x → IfSome (slice_get (set xs i x) i) P
set_here P [] i x is = tt
set_here P (y ∷ ys) zero x is = is
set_here P (y ∷ ys) (suc i) x is = set_here P ys i x is

-- the other elements are as before
set_elsewhere : {X : Type 0} (xs : List X) (i j : ℕ) (x : X) → j ≢ i → slice_get (set xs i x) j ≡ slice_get xs j
set_elsewhere [] i j x other = refl
set_elsewhere (y ∷ ys) zero zero x other = absurd (other refl)
set_elsewhere (y ∷ ys) zero (suc j) x other = refl
set_elsewhere (y ∷ ys) (suc i) zero x other = refl
set_elsewhere (y ∷ ys) (suc i) (suc j) x other = set_elsewhere ys i j x (λ same. other (ap suc same))

-- without seats, the cursors stand over nothing
pub none_told : (c : Cursor) → StandsAt [] [] c → AllStandAt (replicate PARTICIPANTS_MOST c) [] []
none_told c is who letter = each_like (StandsAt [] []) c is PARTICIPANTS_MOST (row_index who)

-- one more seat in front, whose cursor stands at the front of what it was told
pub one_more : (row : List Cursor) (seats : List SeatState) (seat : SeatState) (index : ℕ) (c : Cursor) → AllStandAt row seats []
    → index + FIRST_PARTICIPANT ≡ seat.who → c.told.now ≡ seat.told → Compared seat.told [] c.at c.differs
    → AllStandAt (set row index c) (seat ∷ seats) []
one_more row seats seat index c before letter told compared who is = elim (seat.who == who) as (λ b. (seat.who == who) ≡ b
    → IfSome (slice_get (set row index c) (row_index who)) (StandsAt (told_by who (seat ∷ seats)) [])) [
      | true ↦ λ same.
          let here : row_index who ≡ index = grind (arith, nat_tests, same, letter, is) in
          let list : told_by who (seat ∷ seats) ≡ seat.told = cond-true (seat.who == who) seat.told (told_by who seats) same in
          subst (λ k. IfSome (slice_get (set row index c) k) (StandsAt (told_by who (seat ∷ seats)) [])) (sym here)
          (subst (λ l. IfSome (slice_get (set row index c) index) (StandsAt l [])) (sym list)
          (set_here (StandsAt seat.told []) row index c (told, compared)))
      | false ↦ λ other.
          let elsewhere : row_index who ≢ index = grind (arith, nat_tests, other, letter, is) in
          let list : told_by who (seat ∷ seats) ≡ told_by who seats = cond-false (seat.who == who) seat.told (told_by who seats) other in
          subst (λ o. IfSome o (StandsAt (told_by who (seat ∷ seats)) [])) (sym (set_elsewhere row index (row_index who) c elsewhere))
          (subst (λ l. IfSome (slice_get row (row_index who)) (StandsAt l [])) (sym list) (before who is))
    ] refl

-- a cursor that has passed one more entry stands after it
passed : (told entries : List Told) (e : Entry) (before after : Option Cursor) → IfSome before (StandsAt told entries)
    → IfSome after (λ c. MatchOption before ⊥ (λ b. Passes e b c)) → IfSome after (StandsAt told (entries ++ told_entry e ∷ []))
passed told entries e before None stood passes = tt
passed told entries e None (Some c) stood passes = absurd passes
passed told entries e (Some b) (Some c) stood passes = passes told entries stood

-- one more entry is passed by its participant's cursor
pub next : (old new : Cursors) (seats : List SeatState) (entries : List Entry) (e : Entry) → AllStandAt old.row seats entries
    → ((who : ℕ) → IsParticipant who → IsTrue (is_of who e.message)
    → IfSome (cursor_at new who) (λ after. MatchOption (cursor_at old who) ⊥ (λ before. Passes e before after)))
    → ((who : ℕ) → IsParticipant who → is_of who e.message ≡ false → cursor_at new who ≡ cursor_at old who)
    → AllStandAt new.row seats (entries ++ e ∷ [])
next old new seats entries e stood own others who is = elim (is_of who e.message) as (λ b. is_of who e.message ≡ b
    → IfSome (cursor_at new who) (StandsAt (told_by who seats) (told_of who (entries ++ e ∷ [])))) [
      | true ↦ λ yes.
          let list : told_of who (entries ++ e ∷ []) ≡ told_of who entries ++ told_entry e ∷ [] =
          told_of-append who entries (e ∷ []) ∙ ap (λ l. told_of who entries ++ l) (told_of-yes who e [] yes) in
          subst (λ l. IfSome (cursor_at new who) (StandsAt (told_by who seats) l)) (sym list)
          (passed (told_by who seats) (told_of who entries) e (cursor_at old who) (cursor_at new who) (stood who is) (own who is yes))
      | false ↦ λ no.
          let list : told_of who (entries ++ e ∷ []) ≡ told_of who entries =
          told_of-append who entries (e ∷ []) ∙ ap (λ l. told_of who entries ++ l) (told_of-no who e [] no) ∙ append-nil (told_of who entries) in
          subst (λ l. IfSome (cursor_at new who) (StandsAt (told_by who seats) l)) (sym list)
          (subst (λ o. IfSome o (StandsAt (told_by who seats) (told_of who entries))) (sym (others who is no)) (stood who is))
    ] refl

-- the cursor of each participant stands over what its seat was told
pub of_participant : (row : List Cursor) (seats : List SeatState) (entries : List Entry) (who : ℕ) (c : Cursor) → AllStandAt row seats entries
    → IsParticipant who → slice_get row (row_index who) ≡ Some c → StandsAt (told_by who seats) (told_of who entries) c
of_participant row seats entries who c stood is at = subst (λ o. IfSome o (StandsAt (told_by who seats) (told_of who entries))) at (stood who is)
