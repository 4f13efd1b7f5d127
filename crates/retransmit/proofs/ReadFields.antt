-- The fields of an answer, read from a reader.
use Rattle.std.proofs.Common.{◌≡◌, ℕ, ◌<◌, ◌≤◌, Bool, true, false, cond, ltb, List, ◌++◌, Option, Result}
use Rattle.std.proofs.Common.{Ok, Err, length, length-append, take, refl, sym, ap, arith, inl, inr}
use Rattle.std.specs.Prelude.{nat_le, ◌&&◌, ◌==◌}
use Rattle.std.specs.Global.{Vec}
use Rattle.std.specs.Int.{Width, byte_len, from_be_bytes}
use Rattle.std.specs.Io.KnownBytes.{Consumes}
use Rattle.std.proofs.lemmas.Bool.{and_parts, cases_Bool, le-leb, le-ltb, leb-true, lt-ltb, ne_eqb}
use Rattle.std.proofs.lemmas.List.{length-take, take_at, drop_at}
use Rattle.reports.specs.Fields.{bytes_at, number_at, ranged_at}
use Rattle.retransmit.specs.Asking.{Follows, answered_at, as_is, answer_fault, range_at, texts_of}
use Rattle.retransmit.specs.Faults.{refusal_code}
use Rattle.whole_io.specs.FailedReads.{ReadsFewer}
use Rattle.retransmit.specs.declared.ask_fault.AskFault.{AskFault}
use Rattle.retransmit.specs.declared.ask_fault.AskFault.TheVariants.{ReadFault, BadAnswer}
use Rattle.retransmit.specs.declared.refusal.RequestRefusal.TheVariants.{OtherSession, Beyond, BadSpan}
use Rattle.retransmit.proofs.Readings.{Follows-fault, Follows-here, Follows-same, Follows-stops, Follows-then, Tells}

-- bytes at the front, as many as requested, are read
pub bytes_read : (n : ℕ) (row left : List ℕ) → length row ≡ n → bytes_at {F = AskFault} ReadFault n (row ++ left) ≡ Ok (row, left)
unfolding bytes_at
bytes_read n row left size =
    let long : ltb (length (row ++ left)) n ≡ false = le-ltb _ _ (omega (arith, length-append row left, size)) in
    rw (long, take_at row left n size, drop_at row left n size) refl

-- fewer bytes are a fault
bytes_short : (n : ℕ) (part : List ℕ) → length part < n → bytes_at {F = AskFault} ReadFault n part ≡ Err ReadFault
unfolding bytes_at
bytes_short n part lt = rw (lt-ltb _ _ lt) refl

-- as many bytes as requested
pub Follows-bytes : {A : Type 0} (view : A → List ℕ) (x : A) (n : ℕ) (a b : Option (List ℕ)) → length (view x) ≡ n → Consumes a b (view x)
    → Follows view (Ok x) a b (bytes_at ReadFault n)
Follows-bytes view x n a b size taken = record {
  text = view x;
  taken = taken;
  least = λ len lt. bytes_short n (take len (view x)) (omega (arith, length-take len (view x), size, lt));
  says = λ rest. bytes_read n (view x) rest size;
}

-- fewer bytes than that
pub Follows-short : {A : Type 0} (view : A → List ℕ) (n : ℕ) (a b : Option (List ℕ)) → ReadsFewer a b n
    → Follows view (Err ReadFault) a b (bytes_at ReadFault n)
Follows-short view n a b part = record {
  text = part.0;
  taken = part.1;
  least = λ len lt. bytes_short n (take len part.0) (omega (arith, length-take len part.0, part.2, lt));
  says = bytes_short n part.0 part.2;
}

-- reading a number returns the one that its bytes spell
pub Follows-number : (w : Width) (x : ℕ) (row : List ℕ) (a b : Option (List ℕ)) → x ≡ from_be_bytes w row
    → Follows as_is (Ok row) a b (bytes_at ReadFault (byte_len w)) → Follows as_is (Ok x) a b (number_at ReadFault w)
unfolding number_at
Follows-number w x row a b is bytes =
    Follows-then as_is as_is row (Ok x) a b b (bytes_at ReadFault (byte_len w)) (λ (text : List ℕ × List ℕ). Ok (from_be_bytes w text.0, text.1)) bytes
    (Follows-here as_is x b (λ bytes. Ok (from_be_bytes w row, bytes)) (λ bytes. ap (λ (n : ℕ). Ok (n, bytes)) (sym is)))

-- a number whose bytes could not be read
pub Follows-number-stops : (w : Width) (fault : AskFault) (a b : Option (List ℕ)) → Follows {A = List ℕ} as_is (Err fault) a b (bytes_at ReadFault (byte_len w))
    → Follows {A = ℕ} as_is (Err fault) a b (number_at ReadFault w)
unfolding number_at
Follows-number-stops w fault a b =
    Follows-stops as_is as_is fault a b (bytes_at ReadFault (byte_len w)) (λ (text : List ℕ × List ℕ). Ok (from_be_bytes w text.0, text.1))

-- the test of a range
abbrev tested : ℕ → ℕ → ℕ × List ℕ → Result (ℕ × List ℕ) AskFault
tested low high number = cond (nat_le low number.0 && nat_le number.0 high) (Ok number) (Err BadAnswer)

-- a number in its range
pub Follows-ranged : (w : Width) (low high x : ℕ) (a b : Option (List ℕ)) → low ≤ x → x ≤ high → Follows as_is (Ok x) a b (number_at ReadFault w)
    → Follows as_is (Ok x) a b (ranged_at ReadFault w low high BadAnswer)
unfolding ranged_at
Follows-ranged w low high x a b above below number =
    Follows-then as_is as_is x (Ok x) a b b (number_at ReadFault w) (tested low high) number
    (Follows-here as_is x b (λ bytes. tested low high (x, bytes)) (λ bytes. rw (le-leb low x above, le-leb x high below) refl))

-- the test of a range fails outside it
out_of_range : (low high x : ℕ) → ((low ≤ x) × (x ≤ high) → ⊥) → (nat_le low x && nat_le x high) ≡ false
out_of_range low high x beside = elim (cases_Bool (nat_le low x && nat_le x high)) [
  | inl inside ↦ let both = and_parts (nat_le low x) (nat_le x high) inside in absurd (beside (leb-true low x both.0, leb-true x high both.1))
  | inr outside ↦ outside
]

-- a number that is not in its range
pub Follows-beside : (w : Width) (low high x : ℕ) (a b : Option (List ℕ)) → ((low ≤ x) × (x ≤ high) → ⊥) → Follows as_is (Ok x) a b (number_at ReadFault w)
    → Follows {A = ℕ} as_is (Err BadAnswer) a b (ranged_at ReadFault w low high BadAnswer)
unfolding ranged_at
Follows-beside w low high x a b beside number =
    Follows-then as_is as_is x (Err BadAnswer) a b b (number_at ReadFault w) (tested low high) number
    (Follows-fault as_is BadAnswer b (λ bytes. tested low high (x, bytes)) tt (λ bytes. rw (out_of_range low high x beside) refl))

-- a number that could not be read
pub Follows-ranged-stops : (w : Width) (low high : ℕ) (fault : AskFault) (a b : Option (List ℕ))
    → Follows {A = List ℕ} as_is (Err fault) a b (bytes_at ReadFault (byte_len w)) → Follows {A = ℕ} as_is (Err fault) a b (ranged_at ReadFault w low high BadAnswer)
unfolding ranged_at
Follows-ranged-stops w low high fault a b bytes =
    Follows-stops as_is as_is fault a b (number_at ReadFault w) (tested low high) (Follows-number-stops w fault a b bytes)

-- ---- the first byte

-- if two faults are decided by the bytes read, so is either
cond_tells : (b : Bool) (x y : AskFault) → Tells x → Tells y → Tells (cond b x y)
cond_tells true x y p q = p
cond_tells false x y p q = q

-- the fault of a first byte is decided by that byte
first_tells : (first : ℕ) → Tells (answer_fault first)
first_tells first =
    cond_tells (first == refusal_code OtherSession) _ _ tt
    (cond_tells (first == refusal_code Beyond) _ _ tt (cond_tells (first == refusal_code BadSpan) _ _ tt tt))

-- a first byte that begins no range
pub Follows-first : (first : ℕ) (fault : AskFault) (a : Option (List ℕ)) → (first ≡ 0 → ⊥) → fault ≡ answer_fault first
    → Follows texts_of (Err fault) a a (answered_at first)
unfolding answered_at
Follows-first first fault a some is =
    rw is (Follows-fault texts_of (answer_fault first) a (answered_at first) (first_tells first) (λ bytes. rw (ne_eqb first 0 some) refl))

-- the first byte that begins a range
pub Follows-range : (first : ℕ) (result : Result (Vec (Vec ℕ)) AskFault) (a b : Option (List ℕ)) → first ≡ 0 → Follows texts_of result a b range_at
    → Follows texts_of result a b (answered_at first)
unfolding answered_at
Follows-range first result a b is f = Follows-same texts_of result a b range_at (answered_at first) (λ bytes. rw is refl) f
