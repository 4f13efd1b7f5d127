-- Trades in two sets of columns, and the stores that hold them.
use Rattle.std.proofs.Common.{◌≡◌, ℕ, Bool, true, false, cond, ◌==◌, List, [], ◌∷◌, map, Option, Some, None, refl, sym, ap, subst, ◌∙◌, arith, Result, Ok, Err}
use Rattle.std.proofs.Common.{OnErr, OnOk, IsSomeAnd}
use Rattle.std.specs.Option.{option_map, unwrap_or}
use Rattle.std.specs.Ordering.{nat_cmp, eq_by_cmp}
use Rattle.std.specs.Cmp.{nat_cmp_total}
use Rattle.std.specs.FinMap as map
use Rattle.std.specs.FinMap.{nat_cmp-IsAntisymmetric}
use Rattle.std.proofs.lemmas.Bool.{eq-eqb}
use Rattle.std.proofs.lemmas.Bool.Decides.{nat_tests}
use Rattle.std.proofs.lemmas.List.Elements.{All-nil, All-same}
use Rattle.tape_types.specs.Lemmas.NumberMaps.{same_key, key_itself, remove-insert}
use Rattle.scratch_fold.specs.declared.summary.Effect.{Effect}
use Rattle.summaries.specs.Effects.{Effects, Change}
use Rattle.symbol_book.specs.declared.trade.Trade.{Trade}
use Rattle.symbol_book.specs.Columns.{Trades, consolidated_effect_of, own_effect_of, own_effect_at, reported_trade, trades_with_content, with_content}
use Rattle.symbol_book.specs.Stores.{trade_of, trades_of, book_trades, HoldTrades, participant_effects_with, participant_effects, AllSettled, IsBook}
use Rattle.symbol_book.specs.Stores.{OwnBecomes}
use Rattle.symbol_book.specs.Lemmas.ParticipantStores.{participant_effects-none, OwnBecomes-here, OwnBecomes-then}
use Rattle.sale_matrix.specs.declared.content.Content.{Content}
use Rattle.sale_matrix.specs.declared.matrix.Matrix.{Matrix}

-- a value at each key, made from the key and its former value
pub find-keyed : {X Y : Type 0} (f : ℕ → X → Y) (q : ℕ) (es : List (ℕ × X))
    → map.find nat_cmp q (map (λ e. (e.0, f e.0 e.1)) es) ≡ option_map (f q) (map.find nat_cmp q es)
find-keyed f q [] = refl
find-keyed {X = X} {Y = Y} f q (e ∷ es) =
    elim (eq_by_cmp nat_cmp q e.0) as (λ b. eq_by_cmp nat_cmp q e.0 ≡ b
    → cond b (Some (f e.0 e.1)) (map.find nat_cmp q (map (λ x. (x.0, f x.0 x.1)) es)) ≡ option_map (f q) (cond b (Some e.1) (map.find nat_cmp q es))) [
      | true ↦ λ t. ap (λ k. Some (f k e.1)) (sym (same_key q e.0 t))
      | false ↦ λ _. find-keyed f q es
    ] refl

-- the trade at a place, from two stores
pub get-trades_of : (all : Effects) (of_who : ℕ → Effects) (n : ℕ)
    → map.get (trades_of all of_who) n ≡ option_map (λ (e : Effect). trade_of e (map.get (of_who e.who) n)) (map.get all n)
get-trades_of all of_who n =
    map.get-from_entries nat_cmp_total (map (λ e. (e.0, trade_of e.1 (map.get (of_who e.1.who) e.0))) (map.entries all)) n
    ∙ find-keyed (λ k (e : Effect). trade_of e (map.get (of_who e.who) k)) n (map.entries all)
    ∙ ap (option_map (λ (e : Effect). trade_of e (map.get (of_who e.who) n))) (sym (map.get-entries all n))

-- another participant is told apart
who_other : (a b : ℕ) → eq_by_cmp nat_cmp a b ≡ false → (b == a) ≡ false
who_other a b e = grind (arith, nat_tests)

-- the stores hold one map of trades alone
pub trades-unique : (m : Trades) (all : Effects) (of_who : ℕ → Effects) → HoldTrades m all of_who → trades_of all of_who ≡ m
trades-unique m all of_who h = map.same_map nat_cmp_total nat_cmp-IsAntisymmetric (trades_of all of_who) m (λ n.
    get-trades_of all of_who n
    ∙ ap (option_map (λ (e : Effect). trade_of e (map.get (of_who e.who) n))) (h.all_are n)
    ∙ by n (map.get m n) refl)
  where
    by : (n : ℕ) (o : Option Trade) → map.get m n ≡ o
        → option_map (λ (e : Effect). trade_of e (map.get (of_who e.who) n)) (option_map consolidated_effect_of o) ≡ o
    by n None e = refl
    by n (Some t) e = ap (λ x. Some (trade_of (consolidated_effect_of t) x)) (h.own_are t.who n ∙ ap (own_effect_at t.who) e
        ∙ ap (λ (b : Bool). cond b (Some (own_effect_of t)) None) (eq-eqb t.who t.who refl))

-- a trade is inserted at a place that no other participant's trade has
pub HoldTrades-insert : (m : Trades) (all : Effects) (of_who of_who' : ℕ → Effects) (k : ℕ) (t : Trade)
    → ((w : ℕ) → eq_by_cmp nat_cmp w t.who ≡ false → own_effect_at w (map.get m k) ≡ None)
    → ((w : ℕ) → of_who' w ≡ participant_effects_with of_who t.who (map.insert (of_who t.who) k (own_effect_of t)) w)
    → HoldTrades m all of_who → HoldTrades (map.insert m k t) (map.insert all k (consolidated_effect_of t)) of_who'
HoldTrades-insert m all of_who of_who' k t free is h = record {
  all_are = λ n. map.get-insert nat_cmp_total all k (consolidated_effect_of t) n
      ∙ elim (eq_by_cmp nat_cmp n k) as
      (λ b. cond b (Some (consolidated_effect_of t)) (map.get all n) ≡ option_map consolidated_effect_of (cond b (Some t) (map.get m n))) [
        | true ↦
            refl
        | false ↦ h.all_are n
      ]
      ∙ ap (option_map consolidated_effect_of) (sym (map.get-insert nat_cmp_total m k t n));
  own_are = λ w n. ap (λ (e : Effects). map.get e n) (is w)
      ∙ elim (eq_by_cmp nat_cmp w t.who) as (λ b. eq_by_cmp nat_cmp w t.who ≡ b
      → map.get (cond b (map.insert (of_who t.who) k (own_effect_of t)) (of_who w)) n ≡ own_effect_at w (cond (eq_by_cmp nat_cmp n k) (Some t) (map.get m n))) [
        | true ↦ λ e. let same : w ≡ t.who = same_key w t.who e in
            map.get-insert nat_cmp_total (of_who t.who) k (own_effect_of t) n
            ∙ elim (eq_by_cmp nat_cmp n k) as
            (λ b. cond b (Some (own_effect_of t)) (map.get (of_who t.who) n) ≡ own_effect_at w (cond b (Some t) (map.get m n))) [
              | true ↦ sym (ap (λ x. cond (t.who == x) (Some (own_effect_of t)) None) same
                  ∙ ap (λ (b : Bool). cond b (Some (own_effect_of t)) None) (eq-eqb t.who t.who refl))
              | false ↦ ap (λ x. map.get (of_who x) n) (sym same) ∙ h.own_are w n
            ]
        | false ↦ λ e. h.own_are w n
            ∙ elim (eq_by_cmp nat_cmp n k) as (λ b. eq_by_cmp nat_cmp n k ≡ b
            → own_effect_at w (map.get m n) ≡ own_effect_at w (cond b (Some t) (map.get m n))) [
              | true ↦ λ at. ap (λ x. own_effect_at w (map.get m x)) (same_key n k at) ∙ free w e ∙ sym (other w t e)
              | false ↦ λ _. refl
            ] refl
      ] refl
      ∙ ap (own_effect_at w) (sym (map.get-insert nat_cmp_total m k t n));
}
  where
    other : (w : ℕ) (t : Trade) → eq_by_cmp nat_cmp w t.who ≡ false → own_effect_at w (Some t) ≡ None
    other w t e = ap (λ (b : Bool). cond b (Some (own_effect_of t)) None) (who_other w t.who e)

-- a participant's trade is removed
pub HoldTrades-remove : (m : Trades) (all : Effects) (of_who of_who' : ℕ → Effects) (k : ℕ) (t : Trade)
    → map.get m k ≡ Some t
    → ((w : ℕ) → of_who' w ≡ participant_effects_with of_who t.who (map.remove (of_who t.who) k) w)
    → HoldTrades m all of_who → HoldTrades (map.remove m k) (map.remove all k) of_who'
HoldTrades-remove m all of_who of_who' k t here is h = record {
  all_are = λ n. map.get-remove nat_cmp_total all k n
      ∙ elim (eq_by_cmp nat_cmp n k) as (λ b. cond b None (map.get all n) ≡ option_map consolidated_effect_of (cond b None (map.get m n))) [
        | true ↦
            refl
        | false ↦ h.all_are n
      ]
      ∙ ap (option_map consolidated_effect_of) (sym (map.get-remove nat_cmp_total m k n));
  own_are = λ w n. ap (λ (e : Effects). map.get e n) (is w)
      ∙ elim (eq_by_cmp nat_cmp w t.who) as (λ b. eq_by_cmp nat_cmp w t.who ≡ b
      → map.get (cond b (map.remove (of_who t.who) k) (of_who w)) n ≡ own_effect_at w (cond (eq_by_cmp nat_cmp n k) None (map.get m n))) [
        | true ↦ λ e. let same : w ≡ t.who = same_key w t.who e in
            map.get-remove nat_cmp_total (of_who t.who) k n
            ∙ elim (eq_by_cmp nat_cmp n k) as (λ b. cond b None (map.get (of_who t.who) n) ≡ own_effect_at w (cond b None (map.get m n))) [
              | true ↦ refl
              | false ↦ ap (λ x. map.get (of_who x) n) (sym same) ∙ h.own_are w n
            ]
        | false ↦ λ e. h.own_are w n
            ∙ elim (eq_by_cmp nat_cmp n k) as (λ b. eq_by_cmp nat_cmp n k ≡ b → own_effect_at w (map.get m n) ≡ own_effect_at w (cond b None (map.get m n))) [
              | true ↦ λ at. ap (λ x. own_effect_at w (map.get m x)) (same_key n k at) ∙ ap (own_effect_at w) here
                  ∙ ap (λ (b : Bool). cond b (Some (own_effect_of t)) None) (who_other w t.who e)
              | false ↦ λ _. refl
            ] refl
      ] refl
      ∙ ap (own_effect_at w) (sym (map.get-remove nat_cmp_total m k n));
}

-- what is held is unchanged
pub HoldTrades-same : (m : Trades) (all : Effects) (of_who of_who' : ℕ → Effects) → ((w : ℕ) → of_who' w ≡ of_who w) → HoldTrades m all of_who
    → HoldTrades m all of_who'
HoldTrades-same m all of_who of_who' is h = record { all_are = h.all_are; own_are = λ w n. ap (λ (e : Effects). map.get e n) (is w) ∙ h.own_are w n }

-- with what it had, nothing changes
pub participant_effects_with-same : (of_who : ℕ → Effects) (who w : ℕ) → participant_effects_with of_who who (of_who who) w ≡ of_who w
participant_effects_with-same of_who who w = elim (eq_by_cmp nat_cmp w who) as (λ b. eq_by_cmp nat_cmp w who ≡ b → cond b (of_who who) (of_who w) ≡ of_who w) [
  | true ↦ λ e. ap of_who (sym (same_key w who e))
  | false ↦ λ _. refl
] refl

-- a value inserted at a key is found there
pub get-inserted : {X : Type 0} (m : map.FinMap nat_cmp X) (k : ℕ) (v : X) → map.get (map.insert m k v) k ≡ Some v
get-inserted {X = X} m k v = map.get-insert nat_cmp_total m k v k ∙ ap (λ (b : Bool). cond b (Some v) (map.get m k)) (key_itself k)

module _ {S : Type 0} (effects_in : S → Effects) (change_in : S → Change) where
  -- stores that hold some map of trades, with nothing staged, make a book
  pub IsBook-holds : (m : Trades) (all : S) (stores : List S) → HoldTrades m (effects_in all) (participant_effects effects_in stores) → change_in all ≡ None
      → AllSettled change_in stores → IsBook effects_in change_in all stores
  IsBook-holds m all stores h s t =
      record {
        trades = subst (λ x. HoldTrades x (effects_in all) (participant_effects effects_in stores))
            (sym (trades-unique m (effects_in all) (participant_effects effects_in stores) h)) h;
        settled = s;
        own_settled = t;
      }

  -- an empty book
  pub HoldTrades-empty : (all : S) (stores : List S) → effects_in all ≡ map.empty → stores ≡ []
      → HoldTrades map.empty (effects_in all) (participant_effects effects_in stores)
  HoldTrades-empty all stores none empty = record {
    all_are = λ n. ap (λ (e : Effects). map.get e n) none ∙ map.get-empty nat_cmp n ∙ sym (ap (option_map consolidated_effect_of) (map.get-empty nat_cmp n));
    own_are = λ w n. ap (λ (e : Effects). map.get e n) (participant_effects-none effects_in stores w empty) ∙ map.get-empty nat_cmp n
        ∙ sym (ap (own_effect_at w) (map.get-empty nat_cmp n));
  }

  -- with no stores, nothing is staged
  pub AllSettled-empty : (stores : List S) → stores ≡ [] → AllSettled change_in stores
  AllSettled-empty stores empty = All-same (λ s. change_in s ≡ None) stores [] empty (All-nil (λ s. change_in s ≡ None))

  -- what is held is unchanged
  pub Book-same : (all all' : S) (old new : List S) (who : ℕ) → effects_in all' ≡ effects_in all → change_in all' ≡ None
      → OwnBecomes effects_in change_in old new who (participant_effects effects_in old who)
      → IsBook effects_in change_in all old → IsBook effects_in change_in all' new × (book_trades effects_in all' new ≡ book_trades effects_in all old)
  Book-same all all' old new who is settled own' b =
      let m : Trades = book_trades effects_in all old in
      let h : HoldTrades m (effects_in all') (participant_effects effects_in new) =
      subst (λ (e : Effects). HoldTrades m e (participant_effects effects_in new)) (sym is)
      (HoldTrades-same m (effects_in all) (participant_effects effects_in old) (participant_effects effects_in new) (λ w. own'.held_now w
      ∙ participant_effects_with-same (participant_effects effects_in old) who w) b.trades) in
      (IsBook-holds m all' new h settled own'.settled, trades-unique m (effects_in all') (participant_effects effects_in new) h)

  -- a trade is inserted at a vacant place
  pub Book-add : (all all' : S) (old new : List S) (k : ℕ) (t : Trade) → map.get (book_trades effects_in all old) k ≡ None
      → effects_in all' ≡ map.insert (effects_in all) k (consolidated_effect_of t) → change_in all' ≡ None
      → OwnBecomes effects_in change_in old new t.who (map.insert (participant_effects effects_in old t.who) k (own_effect_of t))
      → IsBook effects_in change_in all old
      → IsBook effects_in change_in all' new × (book_trades effects_in all' new ≡ map.insert (book_trades effects_in all old) k t)
  Book-add all all' old new k t vacant is settled own' b =
      let m : Trades = book_trades effects_in all old in
      let h : HoldTrades (map.insert m k t) (effects_in all') (participant_effects effects_in new) =
      subst (λ (e : Effects). HoldTrades (map.insert m k t) e (participant_effects effects_in new)) (sym is)
      (HoldTrades-insert m (effects_in all) (participant_effects effects_in old) (participant_effects effects_in new) k t
      (λ w _. ap (own_effect_at w) vacant) own'.held_now b.trades) in (
        IsBook-holds (map.insert m k t) all' new h settled own'.settled,
        trades-unique (map.insert m k t) (effects_in all')
            (participant_effects effects_in new) h,
      )

  -- a trade was put into its participant's own store, and removed again
  pub Book-undone : (all all' : S) (old mid new : List S) (who k : ℕ) (e : Effect) → map.get (book_trades effects_in all old) k ≡ None
      → effects_in all' ≡ effects_in all → change_in all' ≡ None
      → OwnBecomes effects_in change_in old mid who (map.insert (participant_effects effects_in old who) k e)
      → OwnBecomes effects_in change_in mid new who (map.remove (participant_effects effects_in mid who) k)
      → IsBook effects_in change_in all old → IsBook effects_in change_in all' new × (book_trades effects_in all' new ≡ book_trades effects_in all old)
  Book-undone all all' old mid new who k e vacant is settled put take b =
      let own_vacant : map.get (participant_effects effects_in old who) k ≡ None = b.trades.own_are who k ∙ ap (own_effect_at who) vacant in
      let back : map.remove (participant_effects effects_in mid who) k ≡ participant_effects effects_in old who =
      ap (λ (m : Effects). map.remove m k) (OwnBecomes-here effects_in change_in old mid who _ put)
      ∙ remove-insert (participant_effects effects_in old who) k e own_vacant in
      Book-same all all' old new who is settled
      (subst (λ (m : Effects). OwnBecomes effects_in change_in old new who m) back (OwnBecomes-then effects_in change_in old mid new who _ _ put take)) b

-- a fact that holds at all holds on `Err`
pub on_err_any : {T E P : Type 0} (r : Result T E) → P → OnErr r P
on_err_any (Ok x) p = tt
on_err_any (Err e) p = p

-- the trade at a place, from what the consolidated store holds there
trade_there : (m : Trades) (all : Effects) (of_who : ℕ → Effects) (k : ℕ) (e : Effect) → HoldTrades m all of_who → map.get all k ≡ Some e
    → (t : Trade) × (map.get m k ≡ Some t) × (consolidated_effect_of t ≡ e)
trade_there m all of_who k e h is = by (map.get m k) refl
  where
    by : (o : Option Trade) → map.get m k ≡ o → (t : Trade) × (map.get m k ≡ Some t) × (consolidated_effect_of t ≡ e)
    by None at = absurd (let never : ◌≡◌ {A = Option Effect} (Some e) None = sym is ∙ h.all_are k ∙ ap (option_map consolidated_effect_of) at in cc)
    by (Some t) at = (
      t,
      at,
      (let same : ◌≡◌ {A = Option Effect} (Some (consolidated_effect_of t)) (Some e) =
          sym (h.all_are k ∙ ap (option_map consolidated_effect_of) at) ∙ is in ap (λ o. unwrap_or o e) same),
    )

module _ {S : Type 0} (effects_in : S → Effects) (change_in : S → Change) where
  -- a trade is removed from both of its stores
  pub Book-remove : (all all' : S) (old new : List S) (k : ℕ) (e : Effect) → map.get (effects_in all) k ≡ Some e
      → effects_in all' ≡ map.remove (effects_in all) k → change_in all' ≡ None
      → OwnBecomes effects_in change_in old new e.who (map.remove (participant_effects effects_in old e.who) k)
      → IsBook effects_in change_in all old
      → IsBook effects_in change_in all' new × (book_trades effects_in all' new ≡ map.remove (book_trades effects_in all old) k)
  Book-remove all all' old new k e here is settled own' b =
      let m : Trades = book_trades effects_in all old in
      let at = trade_there m (effects_in all) (participant_effects effects_in old) k e b.trades here in
      let t : Trade = at.0 in
      let who : e.who ≡ t.who = sym (ap (λ (x : Effect). x.who) at.2) in
      let h : HoldTrades (map.remove m k) (effects_in all') (participant_effects effects_in new) =
      subst (λ (x : Effects). HoldTrades (map.remove m k) x (participant_effects effects_in new)) (sym is)
      (HoldTrades-remove m (effects_in all) (participant_effects effects_in old) (participant_effects effects_in new) k t at.1
      (λ w. own'.held_now w
      ∙ ap (λ (x : ℕ). participant_effects_with (participant_effects effects_in old) x (map.remove (participant_effects effects_in old x) k) w) who)
      b.trades) in (
        IsBook-holds effects_in change_in (map.remove m k) all' new h settled own'.settled,
        trades-unique (map.remove m k) (effects_in all')
            (participant_effects effects_in new) h,
      )

  -- a trade is replaced by another of the same participant
  pub Book-replace : (all all' : S) (old new : List S) (k : ℕ) (e : Effect) (t : Trade) → map.get (effects_in all) k ≡ Some e → t.who ≡ e.who
      → effects_in all' ≡ map.insert (effects_in all) k (consolidated_effect_of t) → change_in all' ≡ None
      → OwnBecomes effects_in change_in old new e.who (map.insert (participant_effects effects_in old e.who) k (own_effect_of t))
      → IsBook effects_in change_in all old
      → IsBook effects_in change_in all' new × (book_trades effects_in all' new ≡ map.insert (book_trades effects_in all old) k t)
  Book-replace all all' old new k e t here same is settled own' b =
      let m : Trades = book_trades effects_in all old in
      let at = trade_there m (effects_in all) (participant_effects effects_in old) k e b.trades here in
      let was : Trade = at.0 in
      let who : was.who ≡ t.who = ap (λ (x : Effect). x.who) at.2 ∙ sym same in
      let h : HoldTrades (map.insert m k t) (effects_in all') (participant_effects effects_in new) =
      subst (λ (x : Effects). HoldTrades (map.insert m k t) x (participant_effects effects_in new)) (sym is)
      (HoldTrades-insert m (effects_in all) (participant_effects effects_in old) (participant_effects effects_in new) k t
      (λ w other. ap (own_effect_at w) at.1 ∙ ap (λ (b : Bool). cond b (Some (own_effect_of was)) None) (ap (λ x. x == w) who ∙ who_other w t.who other))
      (λ w. own'.held_now w
      ∙ ap (λ (x : ℕ). participant_effects_with (participant_effects effects_in old) x
      (map.insert (participant_effects effects_in old x) k (own_effect_of t)) w) (sym same)) b.trades) in (
        IsBook-holds effects_in change_in (map.insert m k t) all' new h settled own'.settled,
        trades-unique (map.insert m k t) (effects_in all')
            (participant_effects effects_in new) h,
      )

  -- the trades with another content, from what the consolidated store holds
  pub trades_with_content-is : (matrix : Matrix) (all : S) (stores : List S) (k : ℕ) (e : Effect) (content : Content)
      → map.get (effects_in all) k ≡ Some e
      → IsBook effects_in change_in all stores
      → trades_with_content matrix (book_trades effects_in all stores) k content
      ≡ map.insert (book_trades effects_in all stores) k (reported_trade matrix e.who content)
  trades_with_content-is matrix all stores k e content here b =
      let m : Trades = book_trades effects_in all stores in
      let at = trade_there m (effects_in all) (participant_effects effects_in stores) k e b.trades here in
      ap (λ o. with_content matrix m k o content) at.1 ∙ ap (λ (x : Effect). map.insert m k (reported_trade matrix x.who content)) at.2

-- if a participant's trade is at a place, its effect in the consolidated columns is the participant's too
pub effect_of_theirs : (m : Trades) (all : Effects) (of_who : ℕ → Effects) (k who : ℕ) → HoldTrades m all of_who
    → IsSomeAnd (map.get m k) (λ t. t.who ≡ who) → (e : Effect) × (map.get all k ≡ Some e) × (who ≡ e.who)
effect_of_theirs m all of_who k who held theirs =
    elim (map.get m k) as (λ o. map.get m k ≡ o → IsSomeAnd o (λ t. t.who ≡ who) → (e : Effect) × (map.get all k ≡ Some e) × (who ≡ e.who)) [
      | None ↦ λ is none. absurd none
      | Some t ↦ λ is same. (consolidated_effect_of t, held.all_are k ∙ ap (option_map consolidated_effect_of) is, sym same)
    ] refl theirs

-- one fact from those on `Ok` or those on `Err`
pub either : {T E A B C D P : Type 0} (r : Result T E) → OnOk r A → OnOk r B → OnErr r C → OnErr r D → (A → B → P) → (C → D → P) → P
either (Ok x) a b c d f g = f a b
either (Err x) a b c d f g = g c d

-- a fact on `Ok` from two
pub on_ok_both : {T E A B P : Type 0} (r : Result T E) → (A → B → P) → OnOk r A → OnOk r B → OnOk r P
on_ok_both (Ok x) f a b = f a b
on_ok_both (Err x) f a b = tt

-- a fact on `Err` from two
pub on_err_both : {T E A B P : Type 0} (r : Result T E) → (A → B → P) → OnErr r A → OnErr r B → OnErr r P
on_err_both (Ok x) f a b = tt
on_err_both (Err x) f a b = f a b
