-- Entries in the order of their keys, and the finite map that they make.
use Rattle.std.proofs.Common.{map as map_list, add-one, ◌≡◌, ℕ, zero, suc, ◌-◌, ◌<◌, ◌≤◌, ◌≢◌, ltb, Bool, true, false, cond, not, List, [], ◌∷◌, ◌++◌, length}
use Rattle.std.proofs.Common.{get_or, set, take, drop, Option, Some, None, IsSome, refl, sym, ap, subst, ◌∙◌, inl, inr, arith}
use Rattle.std.specs.declared.cmp.Ordering.TheVariants.{Less, Equal, Greater}
use Rattle.std.specs.Prelude.{T, ◌&&◌}
use Rattle.std.specs.List.{AllWithin, insert, remove}
use Rattle.std.specs.List.Sorted.{IsPartitionPoint, IsStrictlyIncreasing}
use Rattle.std.specs.Ordering.{nat_cmp, eq_by_cmp, is_lt, is_eq}
use Rattle.std.specs.Cmp.{nat_cmp_total, eq_by_cmp_equiv}
use Rattle.std.specs.FinMap as map
use Rattle.std.specs.FinMap.{nat_cmp-IsAntisymmetric}
use Rattle.std.specs.FinMap.Entries.{is_sorted, below_all, find, put, where_key, by_order, is_sorted-put, find-put, is_sorted-where_key, find-where_key}
use Rattle.std.proofs.lemmas.List.{get_or_default, get_or-map, length-map}
use Rattle.std.proofs.lemmas.List.Edits.{insert_end}
use Rattle.std.proofs.lemmas.Bool.{cases_lt, cases_eq}
use Rattle.std.proofs.lemmas.Bool.Decides.{nat_tests}
use Rattle.tape_types.specs.Lemmas.NumberMaps.{other_key}
use Rattle.tape_types.specs.RisingEntries.{AllBelow, IsPosition, StandsIn, keyed}

-- the first part of a conjunction that holds
pub and_left : (a b : Bool) → T (a && b) → T a
and_left true b p = tt
and_left false b p = p

-- a conjunction holds if both parts hold
pub and_both : (a b : Bool) → T a → T b → T (a && b)
and_both true b p q = q
and_both false b p q = absurd p

-- the second part of a conjunction that holds
pub and_rest : (a b : Bool) → T (a && b) → T b
and_rest true b p = p
and_rest false b p = absurd p

-- a key that is less by the order is below
pub lt_from : (x y : ℕ) → T (is_lt (nat_cmp x y)) → x < y
lt_from x y h = elim (cases_lt x y) [
  | inl lt ↦ lt
  | inr ge ↦ absurd (subst T (let e : is_lt (nat_cmp x y) ≡ false = grind (arith, nat_tests) in e) h)
]

-- a lesser number compares as less
less-is : (x y : ℕ) → x < y → nat_cmp x y ≡ Less
less-is x y h = grind (arith, nat_tests)

-- equal numbers compare as equal
equal-is : (x y : ℕ) → x ≡ y → nat_cmp x y ≡ Equal
equal-is x y h = grind (arith, nat_tests)

-- a greater number compares as greater
greater-is : (x y : ℕ) → y < x → nat_cmp x y ≡ Greater
greater-is x y h = grind (arith, nat_tests)

module _ {X : Type 0} where
  -- a key below all is below each
  below-each : (x : ℕ) (es : List (ℕ × X)) → T (below_all nat_cmp x es) → (j : ℕ) (d : ℕ × X) → j < length es → x < (get_or es j d).0
  below-each x [] h j d lt = absurd (omega arith)
  below-each x (e ∷ es) h zero d lt = lt_from x e.0 (and_left _ _ h)
  below-each x (e ∷ es) h (suc j) d lt = below-each x es (and_rest _ _ h) j d (omega arith)

  -- in sorted entries a key is at most each later one
  pub keys-rise : (es : List (ℕ × X)) → T (is_sorted nat_cmp es) → (i j : ℕ) (d : ℕ × X) → i ≤ j → j < length es → (get_or es i d).0 ≤ (get_or es j d).0
  keys-rise [] h i j d le lt = absurd (omega arith)
  keys-rise (e ∷ es) h zero zero d le lt = omega arith
  keys-rise (e ∷ es) h zero (suc j) d le lt = omega (arith, below-each e.0 es (and_left _ _ h) j d (omega arith))
  keys-rise (e ∷ es) h (suc i) zero d le lt = absurd (omega arith)
  keys-rise (e ∷ es) h (suc i) (suc j) d le lt = keys-rise es (and_rest _ _ h) i j d (omega arith) (omega arith)

  -- each key is below the next
  keys-step : (es : List (ℕ × X)) → T (is_sorted nat_cmp es) → (k : ℕ) (d : ℕ × X) → suc k < length es → (get_or es k d).0 < (get_or es (suc k) d).0
  keys-step [] h k d lt = absurd (omega arith)
  keys-step (e ∷ es) h zero d lt = below-each e.0 es (and_left _ _ h) 0 d (omega arith)
  keys-step (e ∷ es) h (suc k) d lt = keys-step es (and_rest _ _ h) k d (omega arith)

  -- so they strictly increase
  pub keys-increase : (es : List (ℕ × X)) → T (is_sorted nat_cmp es) → IsStrictlyIncreasing (map_list (λ e. e.0) es)
  keys-increase [] h k lt = absurd (omega arith)
  keys-increase (e ∷ es) h k lt =
      let within : suc k < length (e ∷ es) = omega (arith, length-map (e ∷ es) (λ (x : ℕ × X). x.0)) in
      let here : get_or (map_list (λ (x : ℕ × X). x.0) (e ∷ es)) k 0 ≡ (get_or (e ∷ es) k e).0 = get_or-map (λ x. x.0) (e ∷ es) k e 0 (omega arith) in
      let next : get_or (map_list (λ (x : ℕ × X). x.0) (e ∷ es)) (suc k) 0 ≡ (get_or (e ∷ es) (suc k) e).0 =
      get_or-map (λ x. x.0) (e ∷ es) (suc k) e 0 within in
      rw (add-one, here, next) (keys-step (e ∷ es) h k e within)

  -- a position in the tail is one less
  pub position-tail : (k : ℕ) (e : ℕ × X) (es : List (ℕ × X)) (i : ℕ) → IsPosition k (e ∷ es) (suc i) → IsPosition k es i
  position-tail k e es i p = record {
    in_range = omega (arith, p.in_range);
    below = λ j d low lt. p.below (suc j) d (omega arith) (omega arith);
    not_below = λ j d low lt. p.not_below (suc j) d (omega arith) (omega arith);
  }

  -- the first entry's value is found at its key
  find-here : (k : ℕ) (e : ℕ × X) (es : List (ℕ × X)) → k ≡ e.0 → find nat_cmp k (e ∷ es) ≡ Some e.1
  find-here k e es same = ap (λ r. cond (is_eq r) (Some e.1) (find nat_cmp k es)) (equal-is k e.0 same)

  -- a key other than the first entry's is found as in the rest
  find-there : (k : ℕ) (e : ℕ × X) (es : List (ℕ × X)) → k ≢ e.0 → find nat_cmp k (e ∷ es) ≡ find nat_cmp k es
  find-there k e es other = ap (λ b. cond b (Some e.1) (find nat_cmp k es)) (other_key k e.0 other)

  -- an entry inserted at the position of a vacant key
  pub insert-put : (k : ℕ) (v : X) (es : List (ℕ × X)) (i : ℕ) → IsPosition k es i → find nat_cmp k es ≡ None → insert es i (k, v) ≡ put nat_cmp k v es
  insert-put k v [] zero p none = refl
  insert-put k v [] (suc i) p none = absurd (omega (arith, p.in_range))
  insert-put k v (e ∷ es) zero p none =
      let low : k ≤ e.0 = p.not_below 0 e (omega arith) (omega arith) in
      let other : k ≢ e.0 = λ same. let never = sym (find-here k e es same) ∙ none in cc in
      ap (λ r. by_order r ((k, v) ∷ e ∷ es) ((e.0, v) ∷ es) (e ∷ put nat_cmp k v es)) (sym (less-is k e.0 (omega arith)))
  insert-put k v (e ∷ es) (suc i) p none =
      let low : e.0 < k = p.below 0 e (omega arith) (omega arith) in
      let other : k ≢ e.0 = λ same. omega arith in
      ap (λ l. e ∷ l) (insert-put k v es i (position-tail k e es i p) (sym (find-there k e es other) ∙ none))
      ∙ ap (λ r. by_order r ((k, v) ∷ e ∷ es) ((e.0, v) ∷ es) (e ∷ put nat_cmp k v es)) (sym (greater-is k e.0 low))

  -- another value written at the position of a key that stands there
  pub set-put : (k : ℕ) (v : X) (es : List (ℕ × X)) (i : ℕ) (d : ℕ × X) → IsPosition k es i → i < length es → (get_or es i d).0 ≡ k
      → set es i (k, v) ≡ put nat_cmp k v es
  set-put k v [] i d p lt same = absurd (omega arith)
  set-put k v (e ∷ es) zero d p lt same =
      ap (λ n. (n, v) ∷ es) (sym same)
      ∙ ap (λ r. by_order r ((k, v) ∷ e ∷ es) ((e.0, v) ∷ es) (e ∷ put nat_cmp k v es)) (sym (equal-is k e.0 (sym same)))
  set-put k v (e ∷ es) (suc i) d p lt same =
      let low : e.0 < k = p.below 0 e (omega arith) (omega arith) in
      ap (λ l. e ∷ l) (set-put k v es i d (position-tail k e es i p) (omega arith) same)
      ∙ ap (λ r. by_order r ((k, v) ∷ e ∷ es) ((e.0, v) ∷ es) (e ∷ put nat_cmp k v es)) (sym (greater-is k e.0 low))

  -- the entries at other keys
  abbrev without : ℕ → List (ℕ × X) → List (ℕ × X)
  without k es = where_key nat_cmp (λ x. not (eq_by_cmp nat_cmp k x)) es

  -- entries that are all above a key are at other keys, and it is not found among them
  without-above : (k : ℕ) (es : List (ℕ × X)) → ((j : ℕ) (d : ℕ × X) → j < length es → k < (get_or es j d).0) → es ≡ without k es
  without-above k [] above = refl
  without-above k (e ∷ es) above =
      let low : k < e.0 = above 0 e (omega arith) in
      ap (λ l. e ∷ l) (without-above k es (λ j d lt. above (suc j) d (omega arith)))
      ∙ ap (λ b. cond (not b) (e ∷ without k es) (without k es)) (sym (other_key k e.0 (λ same. omega arith)))

  -- a key below those of all entries is not found
  find-above : (k : ℕ) (es : List (ℕ × X)) → ((j : ℕ) (d : ℕ × X) → j < length es → k < (get_or es j d).0) → find nat_cmp k es ≡ None
  find-above k [] above = refl
  find-above k (e ∷ es) above =
      let low : k < e.0 = above 0 e (omega arith) in
      find-there k e es (λ same. omega arith) ∙ find-above k es (λ j d lt. above (suc j) d (omega arith))

  -- the entry removed at the position of a key that stands there
  pub remove-without : (k : ℕ) (es : List (ℕ × X)) (i : ℕ) (d : ℕ × X) → T (is_sorted nat_cmp es) → IsPosition k es i → i < length es → (get_or es i d).0 ≡ k
      → remove es i ≡ without k es
  remove-without k [] i d h p lt same = absurd (omega arith)
  remove-without k (e ∷ es) zero d h p lt same =
      without-above k es (λ j f in_range. let above : e.0 < (get_or es j f).0 = below-each e.0 es (and_left _ _ h) j f in_range in omega arith)
      ∙ ap (λ r. cond (not (is_eq r)) (e ∷ without k es) (without k es)) (sym (equal-is k e.0 (sym same)))
  remove-without k (e ∷ es) (suc i) d h p lt same =
      let low : e.0 < k = p.below 0 e (omega arith) (omega arith) in
      ap (λ l. e ∷ l) (remove-without k es i d (and_rest _ _ h) (position-tail k e es i p) (omega arith) same)
      ∙ ap (λ b. cond (not b) (e ∷ without k es) (without k es)) (sym (other_key k e.0 (λ same. omega arith)))

  -- the value found for a key is that of the entry at its position, if that entry has the key
  pub find-at : (k : ℕ) (es : List (ℕ × X)) (i : ℕ) (d : ℕ × X) → IsPosition k es i → i < length es → (get_or es i d).0 ≡ k
      → find nat_cmp k es ≡ Some (get_or es i d).1
  find-at k [] i d p lt same = absurd (omega arith)
  find-at k (e ∷ es) zero d p lt same = find-here k e es (sym same)
  find-at k (e ∷ es) (suc i) d p lt same =
      let low : e.0 < k = p.below 0 e (omega arith) (omega arith) in
      find-there k e es (λ same. omega arith) ∙ find-at k es i d (position-tail k e es i p) (omega arith) same

  -- a key that does not stand at its position is not found
  pub find-absent : (k : ℕ) (es : List (ℕ × X)) (i : ℕ) → T (is_sorted nat_cmp es) → IsPosition k es i → ((d : ℕ × X) → i < length es → (get_or es i d).0 ≢ k)
      → find nat_cmp k es ≡ None
  find-absent k [] i h p other = refl
  find-absent k (e ∷ es) zero h p other =
      let low : k ≤ e.0 = p.not_below 0 e (omega arith) (omega arith) in
      let differs : e.0 ≢ k = other e (omega arith) in
      find-there k e es (λ same. differs (sym same))
      ∙ find-above k es (λ j f in_range. let above : e.0 < (get_or es j f).0 = below-each e.0 es (and_left _ _ h) j f in_range in omega arith)
  find-absent k (e ∷ es) (suc i) h p other =
      let low : e.0 < k = p.below 0 e (omega arith) (omega arith) in
      find-there k e es (λ same. omega arith) ∙ find-absent k es i (and_rest _ _ h) (position-tail k e es i p) (λ d lt. other d (omega arith))

  -- a key that is found stands at its position
  pub at-position : (k : ℕ) (es : List (ℕ × X)) (i : ℕ) → T (is_sorted nat_cmp es) → IsPosition k es i → IsSome (map.get (map.from_entries {R = nat_cmp} es) k)
      → (i < length es) × ((d : ℕ × X) → (get_or es i d).0 ≡ k)
  at-position k [] i h p present = let never = subst (λ o. IsSome o) (map.get-from_entries nat_cmp_total [] k) present in absurd (cc)
  at-position k (e ∷ es) i h p present = elim (cases_lt i (length (e ∷ es))) [
    | inl lt ↦ elim (cases_eq (get_or (e ∷ es) i e).0 k) [
      | inl same ↦ (lt, λ d. ap (λ x. x.0) (get_or_default (e ∷ es) i d e lt) ∙ same)
      | inr other ↦ absurd (missing (λ d lt same. other (ap (λ x. x.0) (get_or_default (e ∷ es) i e d lt) ∙ same)))
    ]
    | inr past ↦ absurd (missing (λ d lt. absurd (omega arith)))
  ]
    where
      missing : ((d : ℕ × X) → i < length (e ∷ es) → (get_or (e ∷ es) i d).0 ≢ k) → ⊥
      missing other =
          let never = subst (λ o. IsSome o) (map.get-from_entries nat_cmp_total (e ∷ es) k ∙ find-absent k (e ∷ es) i h p other) present in
          cc

  -- the map of the entries with one inserted is the map with that insertion
  seen-put : (k : ℕ) (v : X) (es : List (ℕ × X)) → map.from_entries {R = nat_cmp} (put nat_cmp k v es) ≡ map.insert (map.from_entries es) k v
  seen-put k v es = map.same_map nat_cmp_total nat_cmp-IsAntisymmetric _ _ (λ q.
      map.get-from_entries nat_cmp_total (put nat_cmp k v es) q ∙ find-put nat_cmp nat_cmp_total q k v es
      ∙ ap (λ (w : Option X). cond (eq_by_cmp nat_cmp q k) (Some v) w) (sym (map.get-from_entries nat_cmp_total es q))
      ∙ sym (map.get-insert nat_cmp_total (map.from_entries es) k v q))

  -- the map of the entries without a key is the map with the key removed
  seen-without : (k : ℕ) (es : List (ℕ × X)) → map.from_entries {R = nat_cmp} (without k es) ≡ map.remove (map.from_entries es) k
  seen-without k es = map.same_map nat_cmp_total nat_cmp-IsAntisymmetric _ _ (λ q.
      map.get-from_entries nat_cmp_total (without k es) q
      ∙ find-where_key nat_cmp (λ x. not (eq_by_cmp nat_cmp k x)) q
      (λ x tied. ap (λ y. not (eq_by_cmp nat_cmp k y)) (sym (nat_cmp-IsAntisymmetric q x tied))) es
      ∙ turned (eq_by_cmp nat_cmp k q) (find nat_cmp q es) None
      ∙ ap (λ (b : Bool). cond b None (find nat_cmp q es)) ((eq_by_cmp_equiv nat_cmp_total).symm k q)
      ∙ ap (λ (w : Option X). cond (eq_by_cmp nat_cmp q k) None w) (sym (map.get-from_entries nat_cmp_total es q))
      ∙ sym (map.get-remove nat_cmp_total (map.from_entries es) k q))
    where
      turned : {A : Type 0} (b : Bool) (x y : A) → cond (not b) x y ≡ cond b y x
      turned true x y = refl
      turned false x y = refl

  -- the entries of the map of sorted entries are those entries
  pub entries-seen : (es : List (ℕ × X)) → T (is_sorted nat_cmp es) → map.entries (map.from_entries {R = nat_cmp} es) ≡ es
  entries-seen es h =
      ap map.entries (map.same_map nat_cmp_total nat_cmp-IsAntisymmetric (map.from_entries es) (map.from_sorted es) (λ q.
      map.get-from_entries nat_cmp_total es q ∙ sym (map.get-from_sorted nat_cmp es q h)))
      ∙ map.entries-from_sorted nat_cmp es h

  -- a key above the last goes to the end
  pub position-after_last : (k : ℕ) (es : List (ℕ × X)) (d : ℕ × X) → T (is_sorted nat_cmp es) → (get_or es (length es - 1) d).0 < k
      → IsPosition k es (length es)
  position-after_last k es d h above = record {
    in_range = omega arith;
    below = λ j e low lt.
        let last : get_or es (length es - 1) e ≡ get_or es (length es - 1) d = get_or_default es (length es - 1) e d (omega arith) in
        let most : (get_or es j e).0 ≤ (get_or es (length es - 1) e).0 = keys-rise es h j (length es - 1) e (omega arith) (omega arith) in
        omega (arith, ap (λ x. x.0) last);
    not_below = λ j e low lt. absurd (omega arith);
  }

  module _ (k : ℕ) (es : List (ℕ × X)) (h : T (is_sorted nat_cmp es)) where
    -- an entry inserted at the position of a vacant key: the order, and the map
    pub inserted : (v : X) (i : ℕ) → IsPosition k es i → map.get (map.from_entries {R = nat_cmp} es) k ≡ None
        → T (is_sorted nat_cmp (insert es i (k, v))) × (map.from_entries {R = nat_cmp} (insert es i (k, v)) ≡ map.insert (map.from_entries es) k v)
    inserted v i p vacant =
        let is : insert es i (k, v) ≡ put nat_cmp k v es = insert-put k v es i p (sym (map.get-from_entries nat_cmp_total es k) ∙ vacant) in (
          subst (λ l. T (is_sorted nat_cmp l)) (sym is) (is_sorted-put nat_cmp nat_cmp_total k v es h),
          ap (λ l. map.from_entries {R = nat_cmp} l) is
              ∙ seen-put k v es,
        )

    -- an entry put at the end, if all keys are below
    pub pushed : (v : X) → IsPosition k es (length es) → map.get (map.from_entries {R = nat_cmp} es) k ≡ None
        → T (is_sorted nat_cmp (es ++ (k, v) ∷ [])) × (map.from_entries {R = nat_cmp} (es ++ (k, v) ∷ []) ≡ map.insert (map.from_entries es) k v)
    pushed v p vacant = subst (λ l. T (is_sorted nat_cmp l) × (map.from_entries {R = nat_cmp} l ≡ map.insert (map.from_entries es) k v)) (insert_end es (k, v))
        (inserted v (length es) p vacant)

    module _ (i : ℕ) (p : IsPosition k es i) (present : IsSome (map.get (map.from_entries {R = nat_cmp} es) k)) where
      -- another value written there
      pub replaced : (v : X)
          → T (is_sorted nat_cmp (set es i (k, v))) × (map.from_entries {R = nat_cmp} (set es i (k, v)) ≡ map.insert (map.from_entries es) k v)
      replaced v =
          let at = at-position k es i h p present in
          let is : set es i (k, v) ≡ put nat_cmp k v es = set-put k v es i (k, v) p at.0 (at.1 (k, v)) in (
            subst (λ l. T (is_sorted nat_cmp l)) (sym is) (is_sorted-put nat_cmp nat_cmp_total k v es h),
            ap (λ l. map.from_entries {R = nat_cmp} l) is
                ∙ seen-put k v es,
          )

      -- that entry removed
      pub removed : (d : ℕ × X) → T (is_sorted nat_cmp (remove es i)) × (map.from_entries {R = nat_cmp} (remove es i) ≡ map.remove (map.from_entries es) k)
      removed d =
          let at = at-position k es i h p present in
          let is : remove es i ≡ without k es = remove-without k es i d h p at.0 (at.1 d) in (
            subst (λ l. T (is_sorted nat_cmp l)) (sym is) (is_sorted-where_key nat_cmp (λ x. not (eq_by_cmp nat_cmp k x)) es h),
            ap
                (λ l. map.from_entries {R = nat_cmp} l) is ∙ seen-without k es,
          )

-- entries by the numbers of their keys: edits go through
module _ {K X : Type 0} (number : K → ℕ) where
  -- how many there are
  pub length-keyed : (es : List (K × X)) → length (keyed number es) ≡ length es
  length-keyed es = length-map es (λ e. (number e.0, e.1))

  -- the one at an index
  pub keyed-at : (es : List (K × X)) (i : ℕ) (d : K × X) → get_or (keyed number es) i (number d.0, d.1) ≡ (number (get_or es i d).0, (get_or es i d).1)
  keyed-at [] i d = refl
  keyed-at (e ∷ es) zero d = refl
  keyed-at (e ∷ es) (suc i) d = keyed-at es i d

  -- one more at the end
  pub keyed-push : (es : List (K × X)) (e : K × X) → keyed number (es ++ e ∷ []) ≡ keyed number es ++ (number e.0, e.1) ∷ []
  keyed-push [] e = refl
  keyed-push (x ∷ es) e = ap (λ l. (number x.0, x.1) ∷ l) (keyed-push es e)

  -- one more at an index
  pub keyed-insert : (es : List (K × X)) (i : ℕ) (e : K × X) → keyed number (insert es i e) ≡ insert (keyed number es) i (number e.0, e.1)
  keyed-insert [] zero e = refl
  keyed-insert [] (suc i) e = refl
  keyed-insert (x ∷ es) zero e = refl
  keyed-insert (x ∷ es) (suc i) e = ap (λ l. (number x.0, x.1) ∷ l) (keyed-insert es i e)

  -- another one at an index
  pub keyed-set : (es : List (K × X)) (i : ℕ) (e : K × X) → keyed number (set es i e) ≡ set (keyed number es) i (number e.0, e.1)
  keyed-set [] i e = refl
  keyed-set (x ∷ es) zero e = refl
  keyed-set (x ∷ es) (suc i) e = ap (λ l. (number x.0, x.1) ∷ l) (keyed-set es i e)

  -- the entries without the one at an index, keyed, are the keyed entries without it
  pub keyed-remove : (es : List (K × X)) (i : ℕ) → keyed number (remove es i) ≡ remove (keyed number es) i
  keyed-remove [] zero = refl
  keyed-remove [] (suc i) = refl
  keyed-remove (x ∷ es) zero = refl
  keyed-remove (x ∷ es) (suc i) = ap (λ l. (number x.0, x.1) ∷ l) (keyed-remove es i)

  -- the numbers of rising entries do not fall
  pub keyed-rise : (es : List (K × X)) → T (is_sorted nat_cmp (keyed number es)) → (i j : ℕ) (d : K × X) → i ≤ j → j < length es
      → number (get_or es i d).0 ≤ number (get_or es j d).0
  keyed-rise es h i j d le lt =
      let up = keys-rise (keyed number es) h i j (number d.0, d.1) le (subst (λ n. j < n) (sym (length-keyed es)) lt) in
      omega (arith, up, ap (λ e. e.0) (keyed-at es i d), ap (λ e. e.0) (keyed-at es j d))

  -- the position of a number is where the numbers below it end
  pub keyed-parted : (k : ℕ) (es : List (K × X)) (i : ℕ) → i ≤ length es
      → IsPartitionPoint (λ (e : K × X). ltb (number e.0) k ≡ true) (λ (e : K × X). ltb (number e.0) k ≡ false) es i → IsPosition k (keyed number es) i
  keyed-parted k [] i le parted = record {
    in_range = le;
    below = λ j d low lt. absurd (omega arith);
    not_below = λ j d low lt. absurd (omega arith);
  }
  keyed-parted k (e ∷ es) i le parted = record {
    in_range = subst (λ n. i ≤ n) (sym (length-keyed (e ∷ es))) le;
    below = λ j d low lt.
        let test : ltb (number (get_or (e ∷ es) j e).0) k ≡ true = parted.0 j e low lt in
        let at : (get_or (keyed number (e ∷ es)) j d).0 ≡ number (get_or (e ∷ es) j e).0 =
        ap (λ x. x.0) (get_or_default (keyed number (e ∷ es)) j d (number e.0, e.1) (omega (arith, length-keyed (e ∷ es))) ∙ keyed-at (e ∷ es) j e) in
        grind (arith, nat_tests);
    not_below = λ j d low lt.
        let inside : j < length (e ∷ es) = subst (λ n. j < n) (length-keyed (e ∷ es)) lt in
        let test : ltb (number (get_or (e ∷ es) j e).0) k ≡ false = parted.1 j e low inside in
        let at : (get_or (keyed number (e ∷ es)) j d).0 ≡ number (get_or (e ∷ es) j e).0 =
        ap (λ x. x.0) (get_or_default (keyed number (e ∷ es)) j d (number e.0, e.1) lt ∙ keyed-at (e ∷ es) j e) in
        grind (arith, nat_tests);
  }

  module _ (es : List (K × X)) (i : ℕ) (e : K × X) (lt : i < length es) (is : e ≡ get_or es i e) where
    -- the entry at an index, by the number of its key
    pub keyed-entry : (d : ℕ × X) → get_or (keyed number es) i d ≡ (number e.0, e.1)
    keyed-entry d =
        get_or_default (keyed number es) i d (number e.0, e.1) (subst (λ n. i < n) (sym (length-keyed es)) lt)
        ∙ keyed-at es i e ∙ ap (λ x. (number x.0, x.1)) (sym is)

  module _ (k : K) (es : List (K × X)) (h : T (is_sorted nat_cmp (keyed number es))) where
    -- an entry inserted at the position of a vacant key
    pub keyed-inserted : (v : X) (i : ℕ) → IsPosition (number k) (keyed number es) i
        → map.get (map.from_entries {R = nat_cmp} (keyed number es)) (number k) ≡ None
        → T (is_sorted nat_cmp (keyed number (insert es i (k, v))))
        × (map.from_entries {R = nat_cmp} (keyed number (insert es i (k, v))) ≡ map.insert (map.from_entries (keyed number es)) (number k) v)
    keyed-inserted v i p vacant =
        subst (λ l. T (is_sorted nat_cmp l) × (map.from_entries {R = nat_cmp} l ≡ map.insert (map.from_entries (keyed number es)) (number k) v))
        (sym (keyed-insert es i (k, v)))
        (inserted (number k) (keyed number es) h v i p vacant)

    -- an entry put at the end, if all keys are below
    pub keyed-pushed : (v : X) → IsPosition (number k) (keyed number es) (length es)
        → map.get (map.from_entries {R = nat_cmp} (keyed number es)) (number k) ≡ None
        → T (is_sorted nat_cmp (keyed number (es ++ (k, v) ∷ [])))
        × (map.from_entries {R = nat_cmp} (keyed number (es ++ (k, v) ∷ [])) ≡ map.insert (map.from_entries (keyed number es)) (number k) v)
    keyed-pushed v p vacant =
        subst (λ l. T (is_sorted nat_cmp l) × (map.from_entries {R = nat_cmp} l ≡ map.insert (map.from_entries (keyed number es)) (number k) v))
        (sym (keyed-push es (k, v)))
        (pushed (number k) (keyed number es) h v (subst (IsPosition (number k) (keyed number es)) (sym (length-keyed es)) p) vacant)

    module _ (i : ℕ) (at : StandsIn (number k) (keyed number es) i) where
      -- a key that stands there is found
      pub keyed-found : (d : ℕ × X) → map.get (map.from_entries {R = nat_cmp} (keyed number es)) (number k) ≡ Some (get_or (keyed number es) i d).1
      keyed-found d = map.get-from_entries nat_cmp_total (keyed number es) (number k)
          ∙ find-at (number k) (keyed number es) i d at.position at.within (at.has_key d)

      -- the key of the entry there has a value in the map
      keyed-present : IsSome (map.get (map.from_entries {R = nat_cmp} (keyed number es)) (number k))
      keyed-present = elim (keyed number es) as (λ l. l ≡ keyed number es → IsSome (map.get (map.from_entries {R = nat_cmp} (keyed number es)) (number k))) [
        | [] ↦ λ none. absurd (let within = at.within in omega (arith, ap length none))
        | d ∷ _ ↦ λ _. rw (keyed-found d) refl
      ] refl

      -- another value written there
      pub keyed-replaced : (v : X)
          → T (is_sorted nat_cmp (keyed number (set es i (k, v))))
          × (map.from_entries {R = nat_cmp} (keyed number (set es i (k, v))) ≡ map.insert (map.from_entries (keyed number es)) (number k) v)
      keyed-replaced v =
          subst (λ l. T (is_sorted nat_cmp l) × (map.from_entries {R = nat_cmp} l ≡ map.insert (map.from_entries (keyed number es)) (number k) v))
          (sym (keyed-set es i (k, v)))
          (replaced (number k) (keyed number es) h i at.position keyed-present v)

      -- that entry removed
      pub keyed-removed : (d : ℕ × X)
          → T (is_sorted nat_cmp (keyed number (remove es i)))
          × (map.from_entries {R = nat_cmp} (keyed number (remove es i)) ≡ map.remove (map.from_entries (keyed number es)) (number k))
      keyed-removed d =
          subst (λ l. T (is_sorted nat_cmp l) × (map.from_entries {R = nat_cmp} l ≡ map.remove (map.from_entries (keyed number es)) (number k)))
          (sym (keyed-remove es i))
          (removed (number k) (keyed number es) h i at.position keyed-present d)

-- removing a key that is not found changes nothing
pub removed-absent : {X : Type 0} (m : map.FinMap nat_cmp X) (k : ℕ) → map.get m k ≡ None → m ≡ map.remove m k
removed-absent m k none = map.same_map nat_cmp_total nat_cmp-IsAntisymmetric _ _ (λ q.
    elim (eq_by_cmp nat_cmp q k) as (λ b. eq_by_cmp nat_cmp q k ≡ b → map.get m q ≡ cond b None (map.get m q)) [
      | true ↦ λ tie. map.get_tied nat_cmp_total m k q (ties-back q k tie) ∙ none
      | false ↦ λ _. refl
    ] refl
    ∙ sym (map.get-remove nat_cmp_total m k q))
  where
    ties-back : (q k : ℕ) → eq_by_cmp nat_cmp q k ≡ true → nat_cmp k q ≡ Equal
    ties-back q k tie = grind (arith, nat_tests)

-- entries whose keys are numbers already are unchanged by `keyed`
pub keyed-itself : {X : Type 0} (es : List (ℕ × X)) → keyed (λ n. n) es ≡ es
keyed-itself [] = refl
keyed-itself (e ∷ es) = ap (λ l. e ∷ l) (keyed-itself es)

module _ {K X : Type 0} (number : K → ℕ) where
  -- sorted entries are the entries of the map that they make
  pub keyed-seen : (es : List (K × X)) → T (is_sorted nat_cmp (keyed number es)) → (m : map.FinMap nat_cmp X)
      → map.from_entries (keyed number es) ≡ m → keyed number es ≡ map.entries m
  keyed-seen es h m is = sym (entries-seen _ h) ∙ ap map.entries is

  -- sorted entries are as many as the map has
  pub length-seen : (es : List (K × X)) → T (is_sorted nat_cmp (keyed number es)) → (m : map.FinMap nat_cmp X)
      → map.from_entries (keyed number es) ≡ m → length es ≡ map.len m
  length-seen es h m is = sym (length-keyed number es) ∙ ap length (keyed-seen es h m is) ∙ sym (map.len-entries m)

  -- a key that stands among them has the value that is there
  pub keyed-get : (es : List (K × X)) (m : map.FinMap nat_cmp X) → keyed number es ≡ map.entries m
      → (k i : ℕ) → StandsIn k (map.entries m) i → (e : K × X) → map.get m k ≡ Some (get_or es i e).1
  keyed-get es m seen k i at e =
      let d : ℕ × X = (number e.0, e.1) in
      map.get-entries m k ∙ find-at k (map.entries m) i d at.position at.within (at.has_key d)
      ∙ ap (λ (l : List (ℕ × X)). Some (get_or l i d).1) (sym seen) ∙ ap (λ (x : ℕ × X). Some x.1) (keyed-at number es i e)

  -- the entries from an index on, keyed by number, are those of all of them so keyed
  pub keyed-drop : (i : ℕ) (es : List (K × X)) → keyed number (drop i es) ≡ drop i (keyed number es)
  keyed-drop zero es = refl
  keyed-drop (suc i) [] = refl
  keyed-drop (suc i) (e ∷ es) = keyed-drop i es

  -- a prefix of the entries, keyed by number, is a prefix of all of them so keyed
  pub keyed-take : (i : ℕ) (es : List (K × X)) → keyed number (take i es) ≡ take i (keyed number es)
  keyed-take zero es = refl
  keyed-take (suc i) [] = refl
  keyed-take (suc i) (e ∷ es) = ap (λ l. (number e.0, e.1) ∷ l) (keyed-take i es)

module _ {X : Type 0} where
  -- a part of rising entries rises
  pub rising-drop : (i : ℕ) (es : List (ℕ × X)) → T (is_sorted nat_cmp es) → T (is_sorted nat_cmp (drop i es))
  rising-drop zero es h = h
  rising-drop (suc i) [] h = h
  rising-drop (suc i) (e ∷ es) h = rising-drop i es (and_rest _ _ h)

  -- what is below all entries is below those of a prefix
  below-take : (x i : ℕ) (es : List (ℕ × X)) → T (below_all nat_cmp x es) → T (below_all nat_cmp x (take i es))
  below-take x zero es h = tt
  below-take x (suc i) [] h = tt
  below-take x (suc i) (e ∷ es) h = and_both _ _ (and_left _ _ h) (below-take x i es (and_rest _ _ h))

  -- a prefix of entries that rise rises
  pub rising-take : (i : ℕ) (es : List (ℕ × X)) → T (is_sorted nat_cmp es) → T (is_sorted nat_cmp (take i es))
  rising-take zero es h = tt
  rising-take (suc i) [] h = tt
  rising-take (suc i) (e ∷ es) h = and_both _ _ (below-take e.0 i es (and_left _ _ h)) (rising-take i es (and_rest _ _ h))

  -- a key not above the first entry's key stands or goes at the first entry
  pub position-zero : (k : ℕ) (e : ℕ × X) (es : List (ℕ × X)) → T (is_sorted nat_cmp (e ∷ es)) → k ≤ e.0 → IsPosition k (e ∷ es) 0
  position-zero k e es h le = record {
    in_range = omega arith;
    below = λ j d low lt. absurd (omega arith);
    not_below = λ j d low lt. let up : e.0 ≤ (get_or (e ∷ es) j d).0 = keys-rise (e ∷ es) h 0 j d low lt in omega arith;
  }

  -- a position after a lower key is one more
  pub position-cons : (k : ℕ) (e : ℕ × X) (es : List (ℕ × X)) (i : ℕ) → e.0 < k → IsPosition k es i → IsPosition k (e ∷ es) (suc i)
  position-cons k e es i low p = record {
    in_range = omega (arith, p.in_range);
    below = before;
    not_below = after;
  }
    where
      before : AllWithin (λ (x : ℕ × X). x.0 < k) (e ∷ es) 0 (suc i)
      before zero d from lt = low
      before (suc j) d from lt = p.below j d (omega arith) (omega arith)

      after : AllWithin (λ (x : ℕ × X). k ≤ x.0) (e ∷ es) (suc i) (length (e ∷ es))
      after zero d from lt = absurd (omega arith)
      after (suc j) d from lt = p.not_below j d (omega arith) (omega arith)

  -- a key above all goes to the end
  pub position-above : (k : ℕ) (es : List (ℕ × X)) → T (is_sorted nat_cmp es) → AllBelow (map.from_entries es) k → IsPosition k es (length es)
  position-above k [] h above = record { in_range = omega arith; below = λ j d low lt. absurd (omega arith); not_below = λ j d low lt. absurd (omega arith) }
  position-above k (e ∷ es) h above =
      let at : IsPosition e.0 (e ∷ es) 0 =
      record {
        in_range = omega arith;
        below = λ j d low lt. absurd (omega arith);
        not_below =
            λ j d low lt. keys-rise (e ∷ es) h 0 j d (omega arith) lt;
      } in
      let there : IsSome (map.get (map.from_entries {R = nat_cmp} (e ∷ es)) e.0) =
      rw (map.get-from_entries nat_cmp_total (e ∷ es) e.0, find-here e.0 e es refl) refl in
      let here : e.0 < k = above e.0 there in
      position-cons k e es (length es) here (position-above k es (and_rest _ _ h) (λ q some. above q (found-rest q e es some)))
    where
      found-rest : (q : ℕ) (e : ℕ × X) (es : List (ℕ × X)) → IsSome (map.get (map.from_entries {R = nat_cmp} es) q)
          → IsSome (map.get (map.from_entries {R = nat_cmp} (e ∷ es)) q)
      found-rest q e es some =
          let found = subst (λ o. IsSome o) (map.get-from_entries nat_cmp_total es q) some in
          rw (map.get-from_entries nat_cmp_total (e ∷ es) q)
          (elim (eq_by_cmp nat_cmp q e.0) as (λ b. IsSome (cond b (Some e.1) (find nat_cmp q es))) [ true ↦ refl | false ↦ found ])

  -- a key above all has no value
  pub vacant-above : (k : ℕ) (m : map.FinMap nat_cmp X) → AllBelow m k → map.get m k ≡ None
  vacant-above k m above = elim (map.get m k) as (λ o. map.get m k ≡ o → o ≡ None) [
    | None ↦ λ _. refl
    | (Some x) ↦ λ is. let less : k < k = above k (rw is refl) in absurd (omega arith)
  ] refl

module _ {X : Type 0} where
  -- each key has a position
  pub position-exists : (k : ℕ) (es : List (ℕ × X)) → T (is_sorted nat_cmp es) → (i : ℕ) × IsPosition k es i
  position-exists k [] h = (0, record { in_range = omega arith; below = λ j d low lt. absurd (omega arith); not_below = λ j d low lt. absurd (omega arith) })
  position-exists k (e ∷ es) h = elim (cases_lt e.0 k) [
    | inl low ↦ let rest = position-exists k es (and_rest _ _ h) in (suc rest.0, position-cons k e es rest.0 low rest.1)
    | inr high ↦ (0, position-zero k e es h high)
  ]

  -- the key of each rising entry stands where the entry is
  pub stands-at : (es : List (ℕ × X)) (i : ℕ) (d : ℕ × X) → T (is_sorted nat_cmp es) → i < length es → StandsIn (get_or es i d).0 es i
  stands-at [] i d h lt = absurd (omega arith)
  stands-at (e ∷ es) zero d h lt = record { position = position-zero e.0 e es h (omega arith); within = lt; has_key = λ _. refl }
  stands-at (e ∷ es) (suc i) d h lt =
      let low : e.0 < (get_or es i d).0 = below-each e.0 es (and_left _ _ h) i d (omega arith) in
      let rest = stands-at es i d (and_rest _ _ h) (omega arith) in
      record { position = position-cons _ e es i low rest.position; within = lt; has_key = rest.has_key }

  -- a map is the map of its own entries
  pub itself-seen : (m : map.FinMap nat_cmp X) → map.from_entries (map.entries m) ≡ m
  itself-seen m = map.same_map nat_cmp_total nat_cmp-IsAntisymmetric _ _ (λ q. map.get-from_entries nat_cmp_total (map.entries m) q ∙ sym (map.get-entries m q))

  module _ (m : map.FinMap nat_cmp X) (k i : ℕ) (p : IsPosition k (map.entries m) i) where
    -- the entries after a vacant key gets a value
    pub entries-inserted : (v : X) → map.get m k ≡ None → map.entries (map.insert m k v) ≡ insert (map.entries m) i (k, v)
    entries-inserted v vacant = map.entries-insert nat_cmp_total m k v ∙ sym (insert-put k v (map.entries m) i p (sym (map.get-entries m k) ∙ vacant))

    -- the entries after a key's value is replaced
    pub entries-replaced : (v : X) (d : ℕ × X) → i < length (map.entries m) → (get_or (map.entries m) i d).0 ≡ k
        → map.entries (map.insert m k v) ≡ set (map.entries m) i (k, v)
    entries-replaced v d lt same = map.entries-insert nat_cmp_total m k v ∙ sym (set-put k v (map.entries m) i d p lt same)

    -- the entries after a key is removed
    pub entries-removed : (d : ℕ × X) → i < length (map.entries m) → (get_or (map.entries m) i d).0 ≡ k
        → map.entries (map.remove m k) ≡ remove (map.entries m) i
    entries-removed d lt same =
        let es = map.entries m in
        ap (λ n. map.entries (map.remove n k)) (sym (itself-seen m))
        ∙ ap map.entries (sym (seen-without k es))
        ∙ entries-seen _ (is_sorted-where_key nat_cmp (λ x. not (eq_by_cmp nat_cmp k x)) es (map.entries_sorted m))
        ∙ sym (remove-without k es i d (map.entries_sorted m) p lt same)

  -- a key that is found stands somewhere
  pub stands-exists : (k : ℕ) (es : List (ℕ × X)) → T (is_sorted nat_cmp es) → IsSome (map.get (map.from_entries {R = nat_cmp} es) k)
      → (i : ℕ) × StandsIn k es i
  stands-exists k es h some =
      let place = position-exists k es h in
      let at = at-position k es place.0 h place.1 some in
      (place.0, record { position = place.1; within = at.0; has_key = at.1 })
