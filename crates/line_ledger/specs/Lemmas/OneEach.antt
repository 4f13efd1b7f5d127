-- Seats of distinct participants are one of each, at the opening and after lines.
use Rattle.std.proofs.Common.{◌≡◌, ℕ, zero, suc, ◌+◌, ◌==◌, nat_eq, nat_lt, Bool, false, cond, ◌||◌, List, [], ◌∷◌, length, map, slice_get, Some, None}
use Rattle.std.proofs.Common.{refl, ap, subst, ◌∙◌, sym, arith, true≢false, eq-eqb}
use Rattle.std.specs.List.{list_any}
use Rattle.std.proofs.lemmas.Bool.{ne_eqb, or_parts}
use Rattle.std.proofs.lemmas.Option.{none-some, same_Some}
use Rattle.std.proofs.lemmas.List.Sums.{sum_by-cons}
use Rattle.std.proofs.Math.ListN.{length-map}
use Rattle.tape_types.specs.Names.{names_fault, has_repeat, symbol_eq, is_nil}
use Rattle.tape_types.specs.declared.listing_fault.ListingFault.TheVariants.{Empty, TooMany, Repeated}
use Rattle.tape_core.specs.Lemmas.LegalNext.{none_first}
use Rattle.line_ledger.specs.Seats.{SeatState, untold}
use Rattle.line_ledger.specs.Ends.{whos, seats_of, IsOneEach}
use Rattle.tape_types.specs.Ranges.{SYMBOLS_MOST, PARTICIPANTS_MOST}

-- if no number passes a test, the one at a position does not
any-at : (t : ℕ → Bool) (ps : List ℕ) (k p : ℕ) → list_any t ps ≡ false → slice_get ps k ≡ Some p → t p ≡ false
any-at t [] k p none here = absurd (none-some p here)
any-at t (x ∷ xs) zero p none here = ap t (sym (same_Some x p here)) ∙ (or_parts (t x) _ none).0
any-at t (x ∷ xs) (suc k) p none here = any-at t xs k p (or_parts (t x) _ none).1 here

-- one more seat counts if it is the participant's
seats_of-cons : (who : ℕ) (s : SeatState) (seats : List SeatState) → seats_of who (s ∷ seats) ≡ cond (s.who == who) 1 0 + seats_of who seats
seats_of-cons who s seats = sum_by-cons (λ (x : SeatState). cond (x.who == who) 1 0) s seats

-- a participant that none of the seats is of has no seat
none-of : (who : ℕ) (seats : List SeatState) → list_any (λ y. nat_eq y who) (whos seats) ≡ false → seats_of who seats ≡ 0
none-of who [] none = refl
none-of who (s ∷ seats) none =
    let parts = or_parts (nat_eq s.who who) _ none in
    let first : ◌≡◌ {A = ℕ} (cond (s.who == who) 1 0) 0 = ap (λ b. cond b 1 0) parts.0 in
    let rest : seats_of who seats ≡ 0 = none-of who seats parts.1 in
    seats_of-cons who s seats ∙ omega (arith, first, rest)

-- a participant that one of the seats is of has one seat, if their participants are distinct
one-of : (who k : ℕ) (seats : List SeatState) → has_repeat nat_eq (whos seats) ≡ false → slice_get (whos seats) k ≡ Some who → seats_of who seats ≡ 1
one-of who k [] distinct here = absurd (none-some who here)
one-of who zero (s ∷ seats) distinct here =
    let parts = or_parts (list_any (λ y. nat_eq y s.who) (whos seats)) _ distinct in
    let is : s.who ≡ who = same_Some s.who who here in
    let first : ◌≡◌ {A = ℕ} (cond (s.who == who) 1 0) 1 = ap (λ b. cond b 1 0) (eq-eqb s.who who is) in
    let rest : seats_of who seats ≡ 0 = none-of who seats (subst (λ n. list_any (λ y. nat_eq y n) (whos seats) ≡ false) is parts.0) in
    seats_of-cons who s seats ∙ omega (arith, first, rest)
one-of who (suc k) (s ∷ seats) distinct here =
    let parts = or_parts (list_any (λ y. nat_eq y s.who) (whos seats)) _ distinct in
    let other : nat_eq who s.who ≡ false = any-at (λ y. nat_eq y s.who) (whos seats) k who parts.0 here in
    let apart : s.who ≡ who → ⊥ = λ is. true≢false (sym (eq-eqb who s.who (sym is)) ∙ other) in
    let first : ◌≡◌ {A = ℕ} (cond (s.who == who) 1 0) 0 = ap (λ b. cond b 1 0) (ne_eqb s.who who apart) in
    let rest : seats_of who seats ≡ 1 = one-of who k seats parts.1 here in
    seats_of-cons who s seats ∙ omega (arith, first, rest)

-- the seats of distinct participants, in their order, are one of each
pub one_each : (participants : List ℕ) (seats : List SeatState) → has_repeat nat_eq participants ≡ false → whos seats ≡ participants
    → IsOneEach participants seats
one_each participants seats distinct is = record {
  many = sym (length-map seats (λ s. s.who)) ∙ ap length is;
  one = λ k who here. one-of who k seats (subst (λ ps. has_repeat nat_eq ps ≡ false) (sym is) distinct)
      (subst (λ ps. slice_get ps k ≡ Some who) (sym is) here);
}

-- the participants of a listing are distinct
distinct : (symbols : List (List ℕ)) (participants : List ℕ) → names_fault symbols participants ≡ None → has_repeat nat_eq participants ≡ false
distinct symbols participants is =
    let empty = none_first (is_nil symbols || is_nil participants) Empty _ is in
    let many = none_first (nat_lt SYMBOLS_MOST (length symbols) || nat_lt PARTICIPANTS_MOST (length participants)) TooMany _ empty.1 in
    (or_parts (has_repeat symbol_eq symbols) _ (none_first (has_repeat symbol_eq symbols || has_repeat nat_eq participants) Repeated None many.1).0).1

-- seats that were told nothing are of the participants that they were made for
whos-untold : (participants : List ℕ) → whos (map untold participants) ≡ participants
whos-untold [] = refl
whos-untold (p ∷ ps) = ap (λ l. p ∷ l) (whos-untold ps)

-- the seats of an opening are one of each participant
pub opened_each : (symbols : List (List ℕ)) (participants : List ℕ) (seats : List SeatState) → names_fault symbols participants ≡ None
    → seats ≡ map untold participants → IsOneEach participants seats
opened_each symbols participants seats is untold_is = one_each participants seats (distinct symbols participants is)
    (ap whos untold_is ∙ whos-untold participants)

-- seats of the same participants are as many of each
seats_of-whos : (who : ℕ) (a b : List SeatState) → whos a ≡ whos b → seats_of who a ≡ seats_of who b
seats_of-whos who a b is = counted who a ∙ ap (count who) is ∙ sym (counted who b)
  where
    count : ℕ → List ℕ → ℕ
    count w [] = 0
    count w (p ∷ ps) = cond (p == w) 1 0 + count w ps

    counted : (w : ℕ) (seats : List SeatState) → seats_of w seats ≡ count w (whos seats)
    counted w [] = refl
    counted w (s ∷ seats) = seats_of-cons w s seats ∙ ap (λ n. cond (s.who == w) 1 0 + n) (counted w seats)

-- seats that are one of each participant stay so, whatever they are told
pub each_kept : (participants : List ℕ) (old new : List SeatState) → IsOneEach participants old → whos new ≡ whos old → IsOneEach participants new
each_kept participants old new each is = record {
  many = sym (length-map new (λ s. s.who)) ∙ ap length is ∙ length-map old (λ s. s.who) ∙ each.many;
  one = λ k who here. seats_of-whos who new old is ∙ each.one k who here;
}

-- the seats after lines are of the same participants as those at the opening
pub after_lines : (participants lines : List ℕ) (opened ended : List SeatState) → IsOneEach participants opened → lines ≡ whos opened → whos ended ≡ lines
    → IsOneEach participants ended
after_lines participants lines opened ended each before after = each_kept participants opened ended each (after ∙ before)
