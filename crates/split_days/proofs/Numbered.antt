-- Messages numbered in their order, and the numbers of the kept ones before and after the others are dropped.
use Rattle.std.proofs.Common.{◌≡◌, ℕ, ◌+◌, ◌≤◌, Bool, true, false, cond, List, [], ◌∷◌, ◌++◌, Some, length}
use Rattle.std.proofs.Common.{map, filter, refl, sym, ap, subst, ◌∙◌, arith}
use Rattle.std.specs.Prelude.{◌==◌}
use Rattle.std.specs.List.{AllByRecursion, find}
use Rattle.std.proofs.lemmas.Bool.Decides.{nat_tests}
use Rattle.reports.specs.declared.message.Message.{Message}
use Rattle.tape_core.specs.Standing.{NumberedMessage}
use Rattle.split_days.proofs.Lists.{all-both, all-weaker, all-filter, all-unmap}

-- messages with their numbers, from this one on
abbrev pub numbered : ℕ → List Message → List NumberedMessage
numbered first [] = []
numbered first (m ∷ ms) = (first, m) ∷ numbered (first + 1) ms

-- numbering keeps the number of messages
pub length-numbered : (first : ℕ) (ms : List Message) → length (numbered first ms) ≡ length ms
length-numbered first [] = refl
length-numbered first (m ∷ ms) = grind (arith, length-numbered (first + 1) ms)

-- one more message has the next number
pub numbered-push : (first : ℕ) (ms : List Message) (m : Message) → numbered first (ms ++ m ∷ []) ≡ numbered first ms ++ (first + length ms, m) ∷ []
numbered-push first [] m = let at : first ≡ first + 0 = omega arith in ap (λ n. (n, m) ∷ []) at
numbered-push first (x ∷ xs) m =
    let at : (first + 1) + length xs ≡ first + length (x ∷ xs) = omega arith in
    ap (λ ns. (first, x) ∷ ns) (numbered-push (first + 1) xs m ∙ ap (λ n. numbered (first + 1) xs ++ (n, m) ∷ []) at)

-- no number is below the first
numbered-above : (first : ℕ) (ms : List Message) → AllByRecursion (λ (n : NumberedMessage). first ≤ n.0) (numbered first ms)
numbered-above first [] = tt
numbered-above first (m ∷ ms) = (
  omega arith,
  all-weaker (λ (n : NumberedMessage). first + 1 ≤ n.0) (λ (n : NumberedMessage). first ≤ n.0) (λ n above. omega arith)
      (numbered (first + 1) ms) (numbered-above (first + 1) ms),
)

-- each message is found by its number
abbrev pub IsFound : List NumberedMessage → NumberedMessage → Type 0
IsFound tape n = find (λ x. x.0 == n.0) tape ≡ Some n

-- a message of another number is passed over
found-later : (x n : NumberedMessage) (tape : List NumberedMessage) → (x.0 == n.0) ≡ false → IsFound tape n → IsFound (x ∷ tape) n
found-later x n tape other found = ap (λ (b : Bool). cond b (Some x) (find (λ y. y.0 == n.0) tape)) other ∙ found

-- each numbered message is found
pub numbered-found : (first : ℕ) (ms : List Message) → AllByRecursion (IsFound (numbered first ms)) (numbered first ms)
numbered-found first [] = tt
numbered-found first (m ∷ ms) =
    let here : (first == first) ≡ true = grind (arith, nat_tests) in (
      ap (λ (b : Bool). cond b (Some (first, m)) (find (λ (y : NumberedMessage). y.0 == first) (numbered (first + 1) ms))) here,
      all-both (λ (n : NumberedMessage). first + 1 ≤ n.0) (IsFound (numbered (first + 1) ms)) (IsFound (numbered first (m ∷ ms)))
          (λ n above found. found-later (first, m) n (numbered (first + 1) ms) (grind (arith, nat_tests)) found)
          (numbered (first + 1) ms) (numbered-above (first + 1) ms) (numbered-found (first + 1) ms),
    )

-- ## Kept messages

-- a kept message, with its numbers among all messages and among the kept ones
pub record KeptMessage : Type 0 where
  pub whole : ℕ
  pub part : ℕ
  pub message : Message

-- with its number among all
abbrev pub on_whole : KeptMessage → NumberedMessage
on_whole k = (k.whole, k.message)

-- with its number among the kept ones
abbrev pub on_part : KeptMessage → NumberedMessage
on_part k = (k.part, k.message)

-- two kept messages have equal numbers on both sides, or on neither
abbrev pub Agree : KeptMessage → KeptMessage → Type 0
Agree k other = (other.whole == k.whole) ≡ (other.part == k.part)

module _ (keep : Message → Bool) where
  -- the kept messages, if all are numbered from `first` and the kept ones from `kept_first`
  abbrev pub kept : ℕ → ℕ → List Message → List KeptMessage
  kept first kept_first [] = []
  kept first kept_first (m ∷ ms) =
      cond (keep m) (record { whole = first; part = kept_first; message = m } ∷ kept (first + 1) (kept_first + 1) ms) (kept (first + 1) kept_first ms)

  -- the kept messages from a first one on, which itself is kept or not
  abbrev kept_after : ℕ → ℕ → Message → List Message → Bool → List KeptMessage
  kept_after first kept_first m ms keeps =
      cond keeps (record { whole = first; part = kept_first; message = m } ∷ kept (first + 1) (kept_first + 1) ms) (kept (first + 1) kept_first ms)

  -- they are those that a filter keeps from all
  pub filter-numbered : (first kept_first : ℕ) (ms : List Message)
      → filter (λ (n : NumberedMessage). keep n.1) (numbered first ms) ≡ map on_whole (kept first kept_first ms)
  filter-numbered first kept_first [] = refl
  filter-numbered first kept_first (m ∷ ms) =
      let rest : List NumberedMessage = filter (λ (n : NumberedMessage). keep n.1) (numbered (first + 1) ms) in
      elim (keep m) as (λ b. cond b ((first, m) ∷ rest) rest ≡ map on_whole (kept_after first kept_first m ms b)) [
        | true ↦ ap (λ (ns : List NumberedMessage). (first, m) ∷ ns) (filter-numbered (first + 1) (kept_first + 1) ms)
        | false ↦ filter-numbered (first + 1) kept_first ms
      ]

  -- and the part's messages
  pub numbered-filter : (first kept_first : ℕ) (ms : List Message) → numbered kept_first (filter keep ms) ≡ map on_part (kept first kept_first ms)
  numbered-filter first kept_first [] = refl
  numbered-filter first kept_first (m ∷ ms) = elim (keep m) as
      (λ b. numbered kept_first (cond b (m ∷ filter keep ms) (filter keep ms)) ≡ map on_part (kept_after first kept_first m ms b)) [
        | true ↦ ap (λ (ns : List NumberedMessage). (kept_first, m) ∷ ns) (numbered-filter (first + 1) (kept_first + 1) ms)
        | false ↦ numbered-filter (first + 1) kept_first ms
      ]

  -- no number of a kept message is below the first
  abbrev IsAbove : ℕ → ℕ → KeptMessage → Type 0
  IsAbove first kept_first k = (first ≤ k.whole) × (kept_first ≤ k.part)

  kept-above : (first kept_first : ℕ) (ms : List Message) → AllByRecursion (IsAbove first kept_first) (kept first kept_first ms)
  kept-above first kept_first [] = tt
  kept-above first kept_first (m ∷ ms) = elim (keep m) as
      (λ b. AllByRecursion (IsAbove first kept_first) (kept_after first kept_first m ms b)) [
        | true ↦ (
          (omega arith, omega arith),
          all-weaker (IsAbove (first + 1) (kept_first + 1)) (IsAbove first kept_first)
              (λ k above. (omega (arith, above.0), omega (arith, above.1))) (kept (first + 1) (kept_first + 1) ms) (kept-above (first + 1) (kept_first + 1) ms),
        )
        | false ↦ all-weaker (IsAbove (first + 1) kept_first) (IsAbove first kept_first)
            (λ k above. (omega (arith, above.0), above.1)) (kept (first + 1) kept_first ms) (kept-above (first + 1) kept_first ms)
      ]

  -- a kept message has other numbers than those after it
  agree-later : (k other : KeptMessage) → IsAbove (k.whole + 1) (k.part + 1) other → Agree k other
  agree-later k other above =
      let whole : (other.whole == k.whole) ≡ false = grind (arith, nat_tests, above.0) in
      let part : (other.part == k.part) ≡ false = grind (arith, nat_tests, above.1) in
      whole ∙ sym part

  -- and they have other numbers than it
  agree-earlier : (k other : KeptMessage) → IsAbove (other.whole + 1) (other.part + 1) k → Agree k other
  agree-earlier k other above =
      let whole : (other.whole == k.whole) ≡ false = grind (arith, nat_tests, above.0) in
      let part : (other.part == k.part) ≡ false = grind (arith, nat_tests, above.1) in
      whole ∙ sym part

  -- a message's numbers are its own
  agree-itself : (k : KeptMessage) → Agree k k
  agree-itself k =
      let whole : (k.whole == k.whole) ≡ true = grind (arith, nat_tests) in
      let part : (k.part == k.part) ≡ true = grind (arith, nat_tests) in
      whole ∙ sym part

  -- so any two kept messages have equal numbers on one side if and only if they do on the other
  pub kept-agree : (first kept_first : ℕ) (ms : List Message)
      → AllByRecursion (λ k. AllByRecursion (Agree k) (kept first kept_first ms)) (kept first kept_first ms)
  kept-agree first kept_first [] = tt
  kept-agree first kept_first (m ∷ ms) =
      let k : KeptMessage = record { whole = first; part = kept_first; message = m } in
      let rest : List KeptMessage = kept (first + 1) (kept_first + 1) ms in
      let above : AllByRecursion (IsAbove (first + 1) (kept_first + 1)) rest = kept-above (first + 1) (kept_first + 1) ms in
      elim (keep m) as (λ b. AllByRecursion (λ x. AllByRecursion (Agree x) (cond b (k ∷ rest) (kept (first + 1) kept_first ms)))
      (cond b (k ∷ rest) (kept (first + 1) kept_first ms))) [
        | true ↦ (
          (agree-itself k, all-weaker (IsAbove (first + 1) (kept_first + 1)) (Agree k) (λ other later. agree-later k other later) rest above),
          all-both (IsAbove (first + 1) (kept_first + 1)) (λ x. AllByRecursion (Agree x) rest) (λ x. AllByRecursion (Agree x) (k ∷ rest))
              (λ x later agree. (agree-earlier x k later, agree)) rest above (kept-agree (first + 1) (kept_first + 1) ms),
        )
        | false ↦ kept-agree (first + 1) kept_first ms
      ]

  -- each kept message is found among all by its number there
  pub kept-found_on_whole : (first kept_first : ℕ) (ms : List Message)
      → AllByRecursion (λ k. IsFound (numbered first ms) (on_whole k)) (kept first kept_first ms)
  kept-found_on_whole first kept_first ms =
      all-unmap (IsFound (numbered first ms)) on_whole (kept first kept_first ms)
      (subst (AllByRecursion (IsFound (numbered first ms))) (filter-numbered first kept_first ms)
      (all-filter (IsFound (numbered first ms)) (λ (n : NumberedMessage). keep n.1) (numbered first ms) (numbered-found first ms)))

  -- and among the kept ones by its number there
  pub kept-found_on_part : (first kept_first : ℕ) (ms : List Message)
      → AllByRecursion (λ k. IsFound (numbered kept_first (filter keep ms)) (on_part k)) (kept first kept_first ms)
  kept-found_on_part first kept_first ms =
      all-unmap (IsFound (numbered kept_first (filter keep ms))) on_part (kept first kept_first ms)
      (subst (AllByRecursion (IsFound (numbered kept_first (filter keep ms)))) (numbered-filter first kept_first ms)
      (numbered-found kept_first (filter keep ms)))
