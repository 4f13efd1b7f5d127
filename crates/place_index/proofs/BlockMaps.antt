-- A block seen as a finite map, and its entries after an edit of the map.
use Rattle.std.proofs.Common.{◌≡◌, ℕ, ◌+◌, ◌-◌, ◌<◌, ◌≤◌, true, false, cond, refl, Option, Some, List, [], ◌∷◌, ◌++◌, length, set, get_or, None, IsSome}
use Rattle.std.proofs.Common.{sym, ap, subst, inl, inr, ◌∙◌, arith}
use Rattle.std.specs.List.{insert, remove}
use Rattle.std.specs.Ordering.{nat_cmp}
use Rattle.std.specs.Cmp.{nat_cmp_total}
use Rattle.std.specs.FinMap as map
use Rattle.std.specs.Prelude.{OnErr, OnOk, Result, is_some}
use Rattle.std.proofs.lemmas.Bool.{cases_eq, cases_lt}
use Rattle.std.proofs.lemmas.Result.{on_err_weaker, on_ok_weaker}
use Rattle.std.proofs.lemmas.List.{get_or_default}
use Rattle.std.proofs.lemmas.List.Edits.{insert_end, length-remove}
use Rattle.tape_types.specs.RisingEntries.{HasRisingKeys, IsPosition, StandsIn, keyed, AllBelow}
use Rattle.tape_types.specs.Lemmas.RisingEntries.{entries-inserted, entries-removed, entries-replaced, find-absent, find-at, itself-seen, keyed-itself}
use Rattle.tape_types.specs.Lemmas.RisingEntries.{position-above, position-exists, removed-absent, stands-exists, vacant-above}
use Rattle.place_index.specs.Blocks.{EndsAt, IsBlockFor, IsBlockList, StandsAt, StartsAt, joined, BLOCK_MOST, values_in, values_of}
use Rattle.place_index.specs.Places.{IsFirstPlace, IsLastPlace}
use Rattle.place_index.proofs.BlockOrder.{absent-behind, absent-in, block-rising, blocks-insert, found-in, in-either, inside, set-back, stands-remove}
use Rattle.place_index.proofs.BlockOrder.{stands-set, under-top, Under}
use Rattle.place_index.proofs.Ends.{first-in, in-list, last-in, under-found}

-- with an item of a list that has one
pub with-item : {A P : Type 0} (es : List A) (i : ℕ) → i < length es → (A → P) → P
with-item [] i lt f = absurd (omega arith)
with-item (e ∷ es) i lt f = f e

module _ {V : Type 0} (m : map.FinMap nat_cmp V) (es : List (ℕ × V)) (is : map.entries m ≡ es) where
  -- the map of a block's entries
  pub seen : m ≡ values_in es
  seen = sym (itself-seen m) ∙ ap values_in is

  -- the block's entries rise by place
  pub entries-rise : HasRisingKeys es
  entries-rise = subst HasRisingKeys is (map.entries_sorted m)

  -- the entries as a slice holds them
  pub slice-is : (items : List (ℕ × V)) → keyed (λ n. n) items ≡ map.entries m → items ≡ es
  slice-is items e = sym (keyed-itself items) ∙ e ∙ is

  module _ (k : ℕ) where
    -- a vacant place of the block is vacant in the map
    pub vacant-seen : map.get (values_in es) k ≡ None → map.get m k ≡ None
    vacant-seen vacant = ap (λ n. map.get n k) seen ∙ vacant

    -- and a place with a value has it there
    pub some-seen : IsSome (map.get (values_in es) k) → IsSome (map.get m k)
    some-seen some = subst (λ n. IsSome (map.get n k)) (sym seen) some

    -- the entries once a value was inserted at a position
    pub put-in : (n : map.FinMap nat_cmp V) (v : V) (i : ℕ) → n ≡ map.insert m k v → map.get (values_in es) k ≡ None → IsPosition k es i
        → map.entries n ≡ insert es i (k, v)
    put-in n v i new vacant p =
        ap map.entries new ∙ entries-inserted m k i (subst (λ l. IsPosition k l i) (sym is) p) v (vacant-seen vacant) ∙ ap (λ l. insert l i (k, v)) is

    -- and once it was added after all others
    pub put-behind : (n : map.FinMap nat_cmp V) (v : V) → n ≡ map.insert m k v → AllBelow (values_in es) k → map.entries n ≡ es ++ (k, v) ∷ []
    put-behind n v new above =
        put-in n v (length es) new (vacant-above k (values_in es) above) (position-above k es entries-rise above) ∙ insert_end es (k, v)

    -- and once a value was replaced
    pub written-over : (n : map.FinMap nat_cmp V) (v : V) (i : ℕ) → n ≡ map.insert m k v → StandsIn k es i → map.entries n ≡ set es i (k, v)
    written-over n v i new at =
        ap map.entries new
        ∙ entries-replaced m k i (subst (λ l. IsPosition k l i) (sym is) at.position) v (k, v) (subst (λ l. i < length l) (sym is) at.within)
        (ap (λ (l : List (ℕ × V)). (get_or {A = ℕ × V} l i (k, v)).0) is ∙ at.has_key (k, v))
        ∙ ap (λ l. set l i (k, v)) is

    -- and once one was removed
    pub taken-out : (n : map.FinMap nat_cmp V) (i : ℕ) → n ≡ map.remove m k → StandsIn k es i → map.entries n ≡ remove es i
    taken-out n i new at = with-item es i at.within (λ d.
        ap map.entries new
        ∙ entries-removed m k i (subst (λ l. IsPosition k l i) (sym is) at.position) d (subst (λ l. i < length l) (sym is) at.within)
        (ap (λ (l : List (ℕ × V)). (get_or {A = ℕ × V} l i d).0) is ∙ at.has_key d)
        ∙ ap (λ l. remove l i) is)

    -- removing a place without a value changes nothing
    pub absent-same : (n : map.FinMap nat_cmp V) → n ≡ map.remove m k → map.get m k ≡ None → map.entries n ≡ es
    absent-same n new none = ap map.entries (new ∙ sym (removed-absent m k none)) ∙ is

    -- the number of entries after an edit
    pub length-put : (n : map.FinMap nat_cmp V) (v : V) → n ≡ map.insert m k v → length (map.entries n) ≤ length es + 1
    length-put n v new =
        let many = sym (map.len-entries n) ∙ ap map.len new ∙ map.len-insert nat_cmp_total m k v in
        let before = map.len-entries m ∙ ap length is in
        subst (λ c. c ≤ length es + 1) (sym many)
        (elim (map.contains_key m k) as (λ b. cond b (map.len m) (map.len m + 1) ≤ length es + 1) [
          | true ↦ omega (arith, before)
          | false ↦
              omega (arith, before)
        ])

    -- as many as before if a value was replaced
    pub length-written : (n : map.FinMap nat_cmp V) (v : V) → n ≡ map.insert m k v → IsSome (map.get (values_in es) k) → length (map.entries n) ≡ length es
    length-written n v new some =
        sym (map.len-entries n) ∙ ap map.len new ∙ map.len-insert nat_cmp_total m k v
        ∙ ap (λ b. cond b (map.len m) (map.len m + 1)) (has (map.get m k) (some-seen some))
        ∙ map.len-entries m ∙ ap length is
      where
        has : (o : Option V) → IsSome o → is_some o ≡ true
        has (Some x) h = refl
        has None h = absurd (cc)

    -- no more than before if one was removed
    pub length-out : (n : map.FinMap nat_cmp V) → n ≡ map.remove m k → length (map.entries n) ≤ length es
    length-out n new =
        let many = sym (map.len-entries n) ∙ ap map.len new ∙ map.len-remove nat_cmp_total m k in
        let before = map.len-entries m ∙ ap length is in
        subst (λ c. c ≤ length es) (sym many)
        (elim (map.contains_key m k) as (λ b. cond b (map.len m - 1) (map.len m) ≤ length es) [ true ↦ omega (arith, before) | false ↦ omega (arith, before) ])

    -- the values after an edit
    pub values-put : (n : map.FinMap nat_cmp V) (v : V) → n ≡ map.insert m k v → values_in (map.entries n) ≡ map.insert (values_in es) k v
    values-put n v new = itself-seen n ∙ new ∙ ap (λ m2. map.insert m2 k v) seen

    -- the values after one was removed
    pub values-removed : (n : map.FinMap nat_cmp V) → n ≡ map.remove m k → values_in (map.entries n) ≡ map.remove (values_in es) k
    values-removed n new = itself-seen n ∙ new ∙ ap (λ m2. map.remove m2 k) seen

module _ {V : Type 0} where
  -- the place of the first entry is the first place
  pub starts-first : (es : List (ℕ × V)) (place : ℕ) → HasRisingKeys es → StartsAt es place → IsFirstPlace (values_in es) place
  starts-first [] place rise at = absurd (omega (arith, at.0))
  starts-first (e ∷ es) place rise at = subst (IsFirstPlace (values_in (e ∷ es))) (sym (at.1 e)) (first-in (e ∷ es) e rise at.0)

  -- and that of the last entry the last one
  pub ends-last : (es : List (ℕ × V)) (place : ℕ) → HasRisingKeys es → EndsAt es place → IsLastPlace (values_in es) place
  ends-last [] place rise at = absurd (omega (arith, at.0))
  ends-last (e ∷ es) place rise at = subst (IsLastPlace (values_in (e ∷ es))) (sym (at.1 e)) (last-in (e ∷ es) e rise at.0)

  -- a search for a place finds what its block has there
  pub found-in_block : (k : ℕ) (bs : List (List (ℕ × V))) → IsBlockList bs → (b : ℕ) → IsBlockFor k bs b → b < length bs
      → map.get (values_of bs) k ≡ map.get (values_in (get_or bs b [])) k
  found-in_block k bs valid b at lt =
      let x = get_or bs b [] in
      let rise = block-rising bs b valid.rising in
      let place = position-exists k x rise in
      let within = inside k bs valid b place.0 at lt place.1 in
      with-item x place.0 within (λ d. elim (cases_eq (get_or {A = ℕ × V} x place.0 d).0 k) [
        | inl same ↦ found-in k bs valid b place.0 at lt place.1 d same
            ∙ sym (map.get-from_entries nat_cmp_total x k ∙ find-at k x place.0 d place.1 within same)
        | inr other ↦ absent-in k bs valid b place.0 at lt place.1 d other
            ∙ sym (map.get-from_entries nat_cmp_total x k
            ∙ find-absent k x place.0 rise place.1 (λ f _ same. other (ap (λ y. y.0) (get_or_default x place.0 d f within) ∙ same)))
      ])

  -- a place that has a value is in a block
  pub present-within : (k : ℕ) (bs : List (List (ℕ × V))) → IsBlockList bs → (b : ℕ) → IsBlockFor k bs b → IsSome (map.get (values_of bs) k) → b < length bs
  present-within k bs valid b at some = elim (cases_lt b (length bs)) [
    | inl lt ↦ lt
    | inr ge ↦
        let end : b ≡ length bs = omega (arith, at.in_range) in
        let none = absent-behind k bs valid (subst (IsBlockFor k bs) end at) in
        absurd (cc)
  ]

  -- an edit of the block where a place belongs
  module _ (k : ℕ) (bs : List (List (ℕ × V))) (valid : IsBlockList bs) (b : ℕ) (at : IsBlockFor k bs b) (lt : b < length bs) (y y2 : List (ℕ × V))
      (is : y ≡ get_or bs b []) where
    -- the entries of the block where the place belongs rise
    rises : HasRisingKeys (get_or bs b [])
    rises = block-rising bs b valid.rising

    -- a value of the whole is one of the block
    pub some-in_block : IsSome (map.get (values_of bs) k) → IsSome (map.get (values_in y) k)
    some-in_block some = subst (λ x. IsSome (map.get (values_in x) k)) (sym is) (subst IsSome (found-in_block k bs valid b at lt) some)

    -- a place that has a value is at an index of that block
    standing : IsSome (map.get (values_of bs) k) → (i : ℕ) × StandsIn k (get_or bs b []) i
    standing some = stands-exists k (get_or bs b []) rises (subst IsSome (found-in_block k bs valid b at lt) some)

    -- a value of the whole is in that block, at its place among the block's entries
    stands : (some : IsSome (map.get (values_of bs) k)) → StandsAt k bs b (standing some).0
    stands some = let s = standing some in record { block = at; within = lt; position = s.1.position; has_place = s.1.has_key }

    -- a value is replaced there
    pub set-in_block : IsSome (map.get (values_of bs) k) → (v : V) → ((i : ℕ) → StandsIn k y i → y2 ≡ set y i (k, v))
        → IsBlockList (set bs b y2) × (values_of (set bs b y2) ≡ map.insert (values_of bs) k v)
    set-in_block some v written =
        let s = standing some in
        let new = written s.0 (subst (λ x. StandsIn k x s.0) (sym is) s.1) ∙ ap (λ x. set x s.0 (k, v)) is in
        subst (λ x. IsBlockList (set bs b x) × (values_of (set bs b x) ≡ map.insert (values_of bs) k v)) (sym new) (stands-set k bs valid b s.0 (stands some) v)

    -- a value is removed there
    remove-in_block : IsSome (map.get (values_of bs) k) → ((i : ℕ) → StandsIn k y i → y2 ≡ remove y i)
        → HasRisingKeys (joined (set bs b y2)) × ((values_of (set bs b y2) ≡ map.remove (values_of bs) k) × (length y2 ≤ length (get_or bs b [])))
    remove-in_block some taken =
        let s = standing some in
        let new = taken s.0 (subst (λ x. StandsIn k x s.0) (sym is) s.1) ∙ ap (λ x. remove x s.0) is in
        with-item (get_or bs b []) s.0 s.1.within (λ d.
        let done = stands-remove k bs valid b s.0 (stands some) d in (
          subst (λ x. HasRisingKeys (joined (set bs b x))) (sym new) done.0,
          (ap (λ x. values_of (set bs b x)) new ∙ done.1, omega (arith, ap length new, length-remove (get_or bs b []) s.0 s.1.within)),
        ))

    -- a place that has no value leaves the blocks as they are
    pub removed-in_block : (r : Option V) → r ≡ map.get (values_in y) k → (r ≡ None → y2 ≡ y) → ((i : ℕ) → StandsIn k y i → y2 ≡ remove y i)
        → HasRisingKeys (joined (set bs b y2)) × ((values_of (set bs b y2) ≡ map.remove (values_of bs) k) × (length y2 ≤ length (get_or bs b [])))
    removed-in_block (Some v) found same taken =
        remove-in_block (subst IsSome (found ∙ ap (λ x. map.get (values_in x) k) is ∙ sym (found-in_block k bs valid b at lt)) refl) taken
    removed-in_block None found same taken =
        let old = same refl ∙ is in
        let here = ap (set bs b) old ∙ set-back bs b lt in
        let none = found-in_block k bs valid b at lt ∙ sym (found ∙ ap (λ x. map.get (values_in x) k) is) in (
          subst (λ l. HasRisingKeys (joined l)) (sym here) valid.rising,
          (ap values_of here ∙ removed-absent (values_of bs) k none, omega (arith, ap length old)),
        )

    -- a value is inserted at a vacant place
    pub vacant-in_block : map.get (values_of bs) k ≡ None → map.get (values_in y) k ≡ None
    vacant-in_block vacant = ap (λ x. map.get (values_in x) k) is ∙ sym (found-in_block k bs valid b at lt) ∙ vacant

    -- a value is inserted at a vacant place of a block with room, or nothing changes
    pub insert-in_block : {E : Type 0} (r : Result (Unit {0}) E) (v : V) → map.get (values_of bs) k ≡ None → length (get_or bs b []) < BLOCK_MOST
        → ((i : ℕ) → IsPosition k y i → OnOk r (y2 ≡ insert y i (k, v))) → OnErr r (y2 ≡ y)
        → IsBlockList (set bs b y2) × OnOk r (values_of (set bs b y2) ≡ map.insert (values_of bs) k v)
    insert-in_block r v vacant room placed same =
        let p = position-exists k (get_or bs b []) rises in
        let done = blocks-insert k bs valid b p.0 at lt p.1 v vacant room in
        let put = placed p.0 (subst (λ x. IsPosition k x p.0) (sym is) p.1) in
        let as_put = λ (new : y2 ≡ insert y p.0 (k, v)). sym (new ∙ ap (λ x. insert x p.0 (k, v)) is) in (
          in-either r
              (on_ok_weaker r (λ new. subst (λ x. IsBlockList (set bs b x)) (as_put new) done.0) put)
              (on_err_weaker r (λ old. subst IsBlockList (sym (ap (set bs b) (old ∙ is) ∙ set-back bs b lt)) valid) same),
          on_ok_weaker r (λ new. subst (λ x. values_of (set bs b x) ≡ map.insert (values_of bs) k v) (as_put new) done.1) put,
        )

  -- a place above all blocks is above those of each
  pub above-block : (k : ℕ) (bs : List (List (ℕ × V))) → IsBlockList bs → IsBlockFor k bs (length bs) → (b : ℕ) → b < length bs → (y : List (ℕ × V))
      → y ≡ get_or bs b [] → AllBelow (values_in y) k
  above-block k bs valid at b lt y is = λ q some.
      under-found k y (subst (λ x. Under k x) (sym is) (under-top k (get_or bs b []) (block-rising bs b valid.rising) (at.below b [] (omega arith) lt))) q
      (in-list q y some)
