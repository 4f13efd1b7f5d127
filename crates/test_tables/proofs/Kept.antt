-- What a map of trades has after a trade was inserted or got another content.
use Rattle.std.proofs.Common.{◌≡◌, ◌≢◌, ◌<◌, ℕ, cond, Some, None, IsSome, refl, sym, ap, subst, ◌∙◌, arith}
use Rattle.std.specs.Cmp.{nat_cmp_total}
use Rattle.std.specs.FinMap as map
use Rattle.sale_matrix.specs.declared.content.Content.{Content}
use Rattle.sale_matrix.specs.declared.matrix.Matrix.{Matrix}
use Rattle.symbol_book.specs.declared.trade.Trade.{Trade}
use Rattle.symbol_book.specs.Columns.{Trades, with_content, trades_with_content, reported_trade}
use Rattle.tape_types.specs.Lemmas.NumberMaps.{key_itself, other_key}

-- a place where a trade was inserted has one
pub has-put : (m n : Trades) (k : ℕ) (v : Trade) → n ≡ map.insert m k v → IsSome (map.get n k)
has-put m n k v is = subst (λ o. IsSome o)
    (sym (ap (λ (x : Trades). map.get x k) is ∙ map.get-insert nat_cmp_total m k v k ∙ ap (λ b. cond b (Some v) (map.get m k)) (key_itself k))) refl

-- another place is unchanged
pub other-kept : (m n : Trades) (k q : ℕ) (v : Trade) → n ≡ map.insert m k v → k ≢ q → map.get n q ≡ map.get m q
other-kept m n k q v is apart = ap (λ (x : Trades). map.get x q) is ∙ map.get-insert nat_cmp_total m k v q
    ∙ ap (λ b. cond b (Some v) (map.get m q)) (other_key q k (λ same. apart (sym same)))

-- a trade with another content is still there
pub has-replaced : (matrix : Matrix) (m n : Trades) (k : ℕ) (content : Content) → n ≡ trades_with_content matrix m k content → IsSome (map.get m k) → IsSome (map.get n k)
has-replaced matrix m n k content is some = subst (λ (x : Trades). IsSome (map.get x k)) (sym is)
    (elim (map.get m k) as (λ o. IsSome o → IsSome (map.get (with_content matrix m k o content) k)) [
      | None ↦ λ there. absurd (cc)
      | Some t ↦ λ _. has-put m (map.insert m k (reported_trade matrix t.who content)) k (reported_trade matrix t.who content) refl
    ] some)

-- if nothing is above a place, nothing is above a higher place after a trade was put there
pub vacant-above : (m n : Trades) (last k : ℕ) (v : Trade) → n ≡ map.insert m k v → last < k → ((p : ℕ) → last < p → map.get m p ≡ None)
    → (p : ℕ) → k < p → map.get n p ≡ None
vacant-above m n last k v is above vacant p over =
    ap (λ (x : Trades). map.get x p) is ∙ map.get-insert nat_cmp_total m k v p
    ∙ ap (λ b. cond b (Some v) (map.get m p)) (other_key p k (λ same. absurd (omega (arith, same, over))))
    ∙ vacant p (omega (arith, above, over))
