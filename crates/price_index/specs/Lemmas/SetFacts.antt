-- Lemmas about a `BTreeSet` seen as a finite set: its members, insertion, removal, and the ends of a set of prices.
use Rattle.std.proofs.Common.{◌≡◌, ℕ, ◌<◌, ◌≤◌, ◌↔◌, Bool, true, false, cond, List, [], ◌∷◌, Option, Some, None, refl, sym, ap, subst, ◌∙◌, arith, length, Bor}
use Rattle.std.proofs.Common.{IsTrue, IsSome, IfSome, MatchOption, slice_get}
use Rattle.std.specs.Prelude.{◌&&◌, ◌||◌, not}
use Rattle.std.specs.declared.cmp.Ordering.{Ordering}
use Rattle.std.specs.declared.ops.Bound.TheVariants.{Included, Unbounded}
use Rattle.std.specs.Ordering.{eq_by_cmp, is_gt, is_lt}
use Rattle.std.specs.Option.{option_copied}
use Rattle.std.specs.Cmp.{IsTotalOrder, eq_by_cmp_equiv}
use Rattle.std.proofs.lemmas.Bool.Decides.{nat_tests}
use Rattle.std.specs.FinSet as set
use Rattle.std.specs.BTreeSet as sorted
use Rattle.std.specs.BTreeSet.{BTreeSet}
use Rattle.std.specs.BTreeMap.{is_at}
use Rattle.std.specs.BTreeMap.Range.{IsLeBy}
use Rattle.price_index.specs.Pairs.{PairSet, HasNone, HasTapeNumbers, IsHighest, IsLowest}
use Rattle.tape_types.specs.Pairs.{pair_cmp}
use Rattle.tape_types.specs.Ranges.{IsTapeNumber}
use Rattle.tape_types.specs.Lemmas.Pairs.{pair_total, pair_exact}

-- a disjunction as a choice
or_cond : (b c : Bool) → cond b true c ≡ (b || c)
or_cond true c = refl
or_cond false c = refl

-- a conjunction as a choice
and_cond : (b c : Bool) → cond b false c ≡ (not b && c)
and_cond true c = refl
and_cond false c = refl

module _ {K : Type 0} (R : K → K → Ordering) (o : IsTotalOrder R) (exact : set.IsAntisymmetric R) where
  -- the set has what the tree has
  pub contains-view : (s : BTreeSet K) (q : K) → set.contains (set.from_list {R = R} s.keys) q ≡ sorted.contains R s q
  contains-view s q = set.contains-from_list o s.keys q

  -- a key put into the tree is put into the set
  pub view-insert : (s n : BTreeSet K) (k : K) → sorted.Updates R s n k true → set.from_list {R = R} n.keys ≡ set.insert (set.from_list s.keys) k
  view-insert s n k up = set.same_set o exact _ _ (λ q.
      contains-view n q ∙ up.0 q ∙ or_cond (is_at (R k) q) (sorted.contains R s q)
      ∙ ap (λ b. b || sorted.contains R s q) ((eq_by_cmp_equiv o).symm k q)
      ∙ ap (λ b. eq_by_cmp R q k || b) (sym (contains-view s q))
      ∙ sym (set.contains-insert o (set.from_list s.keys) k q))

  -- a key taken from the tree is taken from the set
  pub view-remove : (s n : BTreeSet K) (k : K) → sorted.Updates R s n k false → set.from_list {R = R} n.keys ≡ set.remove (set.from_list s.keys) k
  view-remove s n k up = set.same_set o exact _ _ (λ q.
      contains-view n q ∙ up.0 q ∙ and_cond (is_at (R k) q) (sorted.contains R s q)
      ∙ ap (λ b. not b && sorted.contains R s q) ((eq_by_cmp_equiv o).symm k q)
      ∙ ap (λ b. not (eq_by_cmp R q k) && b) (sym (contains-view s q))
      ∙ sym (set.contains-remove o (set.from_list s.keys) k q))

  -- an empty tree is an empty set
  pub none-view : (s : BTreeSet K) → (0 < sorted.btree_set_len s → ⊥) → (q : K) → set.contains (set.from_list {R = R} s.keys) q ≡ false
  none-view s empty q = contains-view s q ∙ elim s.keys as (λ ks. (0 < length ks → ⊥) → sorted.contains_by (R q) (record { keys = ks }) ≡ false) [
    | [] ↦ λ _. refl
    | x ∷ xs ↦ λ e. absurd (e (omega arith))
  ] empty

-- what comes no later has no greater key
pub pair_le : (p q : ℕ × ℕ) → is_gt (pair_cmp p q) ≡ false → p.0 ≤ q.0
pair_le p q e = grind (arith, nat_tests)

-- among pairs of one key, what comes no later has no later place
pair_then : (p q : ℕ × ℕ) → is_gt (pair_cmp p q) ≡ false → q.0 ≡ p.0 → p.1 ≤ q.1
pair_then p q e same = grind (arith, nat_tests)

-- what does not come earlier has no lower key
pub pair_not_lt : (p q : ℕ × ℕ) → is_lt (pair_cmp p q) ≡ false → q.0 ≤ p.0
pair_not_lt p q e = grind (arith, nat_tests)

-- among pairs of one key, an earlier or equal place does not come later
pub pair_from : (p q : ℕ × ℕ) → p.0 ≡ q.0 → p.1 ≤ q.1 → is_gt (pair_cmp p q) ≡ false
pair_from p q h k = grind (arith, nat_tests)

-- pairs that compare as equal have one place
pair_tie : (q p : ℕ × ℕ) → eq_by_cmp pair_cmp q p ≡ true → q.1 ≡ p.1
pair_tie q p e = grind (arith, nat_tests)

module _ (s : BTreeSet (ℕ × ℕ)) where
  -- the set has what the tree has, for this tree
  pub has : (q : ℕ × ℕ) → set.contains (set.from_list {R = pair_cmp} s.keys) q ≡ sorted.contains pair_cmp s q
  has q = contains-view pair_cmp pair_total pair_exact s q

  -- what `first` returns is the lowest
  pub lowest_is : (o : Option (Bor (ℕ × ℕ))) → IsSome o ↔ (0 < sorted.btree_set_len s) → IfSome o (λ k. IsTrue (sorted.contains pair_cmp s k.now))
      → IfSome o (λ k. sorted.IsLowerBound pair_cmp s k.now)
      → MatchOption (option_copied o) (HasNone (set.from_list s.keys)) (IsLowest (set.from_list s.keys))
  lowest_is None some member least = none-view pair_cmp pair_total pair_exact s (λ full. absurd (cc (some.1 full)))
  lowest_is (Some k) some member least = record {
    member = has k.now ∙ member;
    least = λ q in_s. pair_le k.now q (least q (sym (has q) ∙ in_s));
    earliest = λ q in_s. pair_then k.now q (least q (sym (has q) ∙ in_s));
  }

  -- the earliest place of the greatest price, from what `last` and a range from that price's first place return
  pub highest_is : (m : ℕ × ℕ) (n : ℕ) → n ≡ 1 → (places : (q : ℕ × ℕ) → sorted.contains pair_cmp s q ≡ true → IsTapeNumber q.1)
      → IsTrue (sorted.contains pair_cmp s m) → sorted.IsUpperBound pair_cmp s m
      → (r rest : List (ℕ × ℕ)) → sorted.IsKeyRangeOf pair_cmp (Included (m.0, n)) Unbounded s r
      → (o : Option (Bor (ℕ × ℕ))) → MatchOption o ((r ≡ []) × (rest ≡ [])) (λ x. r ≡ x.now ∷ rest)
      → MatchOption (option_copied o) (HasNone (set.from_list s.keys)) (IsHighest (set.from_list s.keys))
  highest_is m n is places member greatest r rest part None none =
      let from : (q : ℕ) → IsTapeNumber q → n ≤ q = λ q h. omega (arith, is, h.0) in
      let there : IsTrue (sorted.contains pair_cmp s m) = member in
      let absent : sorted.contains pair_cmp s m ≡ false = part.5 none.0 m (pair_from (m.0, n) m refl (from m.1 (places m member)), tt) in
      absurd (cc)
  highest_is m n is places member greatest r rest part (Some k) some =
      let from : (q : ℕ) → IsTapeNumber q → n ≤ q = λ q h. omega (arith, is, h.0) in
      let first : sorted.IsKeyInRange pair_cmp (Included (m.0, n)) Unbounded s k.now =
      subst (λ (ks : List (ℕ × ℕ)). IfSome (slice_get ks 0) (sorted.IsKeyInRange pair_cmp (Included (m.0, n)) Unbounded s)) some part.1 in
      let up : m.0 ≤ k.now.0 = pair_le (m.0, n) k.now first.0.0 in
      let down : k.now.0 ≤ m.0 = pair_not_lt m k.now (greatest k.now first.1) in
      record {
        member = has k.now ∙ first.1;
        greatest = λ q in_s. let le : q.0 ≤ m.0 = pair_not_lt m q (greatest q (sym (has q) ∙ in_s)) in omega arith;
        earliest = λ q in_s same.
            let there : sorted.contains pair_cmp s q ≡ true = sym (has q) ∙ in_s in
            let from : is_gt (pair_cmp (m.0, n) q) ≡ false = pair_from (m.0, n) q (omega arith) (from q.1 (places q there)) in
            let le : is_gt (pair_cmp k.now q) ≡ false =
            subst (λ (ks : List (ℕ × ℕ)). IfSome (slice_get ks 0) (λ x. IsLeBy pair_cmp x q)) some (part.2 q (from, tt) there) in
            pair_then k.now q le same;
      }

-- the pair that was put in, or one that was there, has a tape number
same_or : (p q : ℕ × ℕ) (b : Bool) → (eq_by_cmp pair_cmp q p || b) ≡ true → IsTapeNumber p.1 → (b ≡ true → IsTapeNumber q.1) → IsTapeNumber q.1
same_or p q b e one h =
    elim (eq_by_cmp pair_cmp q p) as (λ t. eq_by_cmp pair_cmp q p ≡ t → (t || b) ≡ true → IsTapeNumber q.1) [
      | true ↦ λ tie _. subst IsTapeNumber (sym (pair_tie q p tie)) one
      | false ↦ λ _ is. h is
    ] refl e

-- after a pair with a tape number is inserted, all places are tape numbers
pub HasTapeNumbers-insert : (s : PairSet) (p : ℕ × ℕ) → HasTapeNumbers s → IsTapeNumber p.1 → HasTapeNumbers (set.insert s p)
HasTapeNumbers-insert s p h one q e = same_or p q (set.contains s q) (sym (set.contains-insert pair_total s p q) ∙ e) one (h q)

-- the second part of a conjunction that holds
and_right : (a b : Bool) → (a && b) ≡ true → b ≡ true
and_right true b e = e
and_right false b e = absurd (cc)

-- after a pair is removed, all places are tape numbers
pub HasTapeNumbers-remove : (s : PairSet) (p : ℕ × ℕ) → HasTapeNumbers s → HasTapeNumbers (set.remove s p)
HasTapeNumbers-remove s p h q e = h q (and_right _ _ (sym (set.contains-remove pair_total s p q) ∙ e))

-- all places of the empty set are tape numbers
pub HasTapeNumbers-empty : HasTapeNumbers (set.empty {R = pair_cmp})
HasTapeNumbers-empty q e = let none : set.contains (set.empty {R = pair_cmp}) q ≡ false = set.contains-empty pair_cmp q in absurd (cc)
