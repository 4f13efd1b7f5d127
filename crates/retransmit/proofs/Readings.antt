-- Readings from a reader, one after the other.
use Rattle.std.proofs.Common.{◌≡◌, ℕ, ◌+◌, ◌-◌, ◌<◌, List, [], ◌++◌, Option, Result, Ok, Err}
use Rattle.std.proofs.Common.{append_assoc, length, length-append, take, sym, ap, ◌∙◌, arith, inl, inr}
use Rattle.std.proofs.KnownBytes.{Consumes-nil, Consumes-trans}
use Rattle.std.proofs.Math.Seq.{take-append-add}
use Rattle.std.proofs.lemmas.Bool.{cases_lt}
use Rattle.std.proofs.lemmas.List.{take-append-le}
use Rattle.reports.specs.Fields.{◌>>=◌}
use Rattle.retransmit.specs.Asking.{Follows, IsFaultOf, IsReadAs, as_is}
use Rattle.retransmit.specs.declared.ask_fault.AskFault.{AskFault}
use Rattle.retransmit.specs.declared.ask_fault.AskFault.TheVariants.{ReadFault, WriteFault, BadAnswer, Refused, OutOfMemory}

-- the value read from bytes and the bytes after it, or a fault
abbrev pub Read : Type 0 → Type 0
Read B = Result (B × List ℕ) AskFault

-- a fault that the bytes read decide, whatever bytes follow them
abbrev pub Tells : AskFault → Type 0
Tells ReadFault = ⊥
Tells WriteFault = ⊥
Tells BadAnswer = Unit {0}
Tells (Refused refusal) = Unit {0}
Tells OutOfMemory = Unit {0}

-- ---- one reading

-- a value found without reading
pub Follows-here : {A B : Type 0} (view : A → B) (x : A) (a : Option (List ℕ)) (read : List ℕ → Read B) → ((bytes : List ℕ) → read bytes ≡ Ok (view x, bytes))
    → Follows view (Ok x) a a read
Follows-here view x a read always = record { text = []; taken = Consumes-nil a; least = λ len lt. absurd (omega (arith, lt)); says = always }

-- a fault for all bytes is also one for no bytes
always_fault : {B : Type 0} (fault : AskFault) (read : List ℕ → Read B) → Tells fault → ((bytes : List ℕ) → read bytes ≡ Err fault) → IsFaultOf fault read []
always_fault ReadFault read tells always = absurd tells
always_fault WriteFault read tells always = absurd tells
always_fault BadAnswer read tells always = always
always_fault (Refused refusal) read tells always = always
always_fault OutOfMemory read tells always = tt

-- a fault found without reading
pub Follows-fault : {A B : Type 0} (view : A → B) (fault : AskFault) (a : Option (List ℕ)) (read : List ℕ → Read B) → Tells fault
    → ((bytes : List ℕ) → read bytes ≡ Err fault) → Follows view (Err fault) a a read
Follows-fault view fault a read tells always =
    record { text = []; taken = Consumes-nil a; least = λ len lt. absurd (omega (arith, lt)); says = always_fault fault read tells always }

-- out of memory before anything is read
pub Follows-no_room : {A B : Type 0} (view : A → B) (a : Option (List ℕ)) (read : List ℕ → Read B) → Follows view (Err OutOfMemory) a a read
Follows-no_room view a read = record { text = []; taken = Consumes-nil a; least = λ len lt. absurd (omega (arith, lt)); says = tt }

-- a value may be seen through its view
pub Follows-viewed : {A B : Type 0} (view : A → B) (x : A) (y : B) (a b : Option (List ℕ)) (read : List ℕ → Read B) → view x ≡ y
    → Follows as_is (Ok y) a b read → Follows view (Ok x) a b read
Follows-viewed {B = B} view x y a b read is f =
    record { text = f.text; taken = f.taken; least = f.least; says = λ rest. f.says rest ∙ ap (λ (z : B). Ok (z, rest)) (sym is) }

-- a fault has no value to view
pub Follows-refused : {A B C : Type 0} (view : A → B) (other : C → B) (fault : AskFault) (a b : Option (List ℕ)) (read : List ℕ → Read B)
    → Follows other (Err fault) a b read → Follows view (Err fault) a b read
Follows-refused view other fault a b read f = record { text = f.text; taken = f.taken; least = f.least; says = f.says }

-- readings that agree on all bytes have the same fault
same_fault : {B : Type 0} (fault : AskFault) (read other : List ℕ → Read B) (text : List ℕ) → ((bytes : List ℕ) → other bytes ≡ read bytes)
    → IsFaultOf fault read text → IsFaultOf fault other text
same_fault ReadFault read other text same is = same text ∙ is
same_fault WriteFault read other text same is = absurd is
same_fault BadAnswer read other text same is = λ rest. same (text ++ rest) ∙ is rest
same_fault (Refused refusal) read other text same is = λ rest. same (text ++ rest) ∙ is rest
same_fault OutOfMemory read other text same is = tt

-- readings that agree on all bytes have the same result
same_says : {A B : Type 0} (view : A → B) (result : Result A AskFault) (read other : List ℕ → Read B) (text : List ℕ)
    → ((bytes : List ℕ) → other bytes ≡ read bytes) → IsReadAs view result read text
    → IsReadAs view result other text
same_says view (Ok x) read other text same is = λ rest. same (text ++ rest) ∙ is rest
same_says view (Err fault) read other text same is = same_fault fault read other text same is

-- readings that agree on all bytes are interchangeable
pub Follows-same : {A B : Type 0} (view : A → B) (result : Result A AskFault) (a b : Option (List ℕ)) (read other : List ℕ → Read B)
    → ((bytes : List ℕ) → other bytes ≡ read bytes)
    → Follows view result a b read → Follows view result a b other
Follows-same view result a b read other same f =
    record {
      text = f.text;
      taken = f.taken;
      least = λ len lt. same (take len f.text) ∙ f.least len lt;
      says = same_says view result read other f.text same f.says;
    }

-- ---- two readings, one after the other

-- a fault of the first is a fault of both
stopped : {B D : Type 0} (fault : AskFault) (read : List ℕ → Read B) (next : B × List ℕ → Read D) (text : List ℕ) → IsFaultOf fault read text
    → IsFaultOf fault (λ bytes. read bytes >>= next) text
stopped {B = B} ReadFault read next text is = ap (λ (r : Read B). r >>= next) is
stopped WriteFault read next text is = absurd is
stopped {B = B} BadAnswer read next text is = λ rest. ap (λ (r : Read B). r >>= next) (is rest)
stopped {B = B} (Refused refusal) read next text is = λ rest. ap (λ (r : Read B). r >>= next) (is rest)
stopped OutOfMemory read next text is = tt

-- a fault at the first of two
pub Follows-stops : {A B C D : Type 0} (view : A → B) (view_all : C → D) (fault : AskFault) (a b : Option (List ℕ)) (read : List ℕ → Read B)
    (next : B × List ℕ → Read D) → Follows view (Err fault) a b read
    → Follows view_all (Err fault) a b (λ bytes. read bytes >>= next)
Follows-stops {B = B} view view_all fault a b read next f =
    record { text = f.text; taken = f.taken; least = λ len lt. ap (λ (r : Read B). r >>= next) (f.least len lt); says = stopped fault read next f.text f.says }

-- out of memory after the first of two
pub Follows-gives_up : {A B C D : Type 0} (view : A → B) (view_all : C → D) (x : A) (a b : Option (List ℕ)) (read : List ℕ → Read B)
    (next : B × List ℕ → Read D) → Follows view (Ok x) a b read
    → Follows view_all (Err OutOfMemory) a b (λ bytes. read bytes >>= next)
Follows-gives_up {B = B} view view_all x a b read next f =
    record { text = f.text; taken = f.taken; least = λ len lt. ap (λ (r : Read B). r >>= next) (f.least len lt); says = tt }

module _ {B D : Type 0} (v : B) (one two : List ℕ) (read : List ℕ → Read B) (next : B × List ℕ → Read D)
    (first : (rest : List ℕ) → read (one ++ rest) ≡ Ok (v, rest)) where
  -- after the first, the second reads
  joined : (rest : List ℕ) → (read ((one ++ two) ++ rest) >>= next) ≡ next (v, two ++ rest)
  joined rest = ap (λ (bytes : List ℕ). read bytes >>= next) (append_assoc one two rest) ∙ ap (λ (r : Read B). r >>= next) (first (two ++ rest))

  -- after the first, the second reads to the end
  joined_end : (read (one ++ two) >>= next) ≡ next (v, two)
  joined_end = ap (λ (r : Read B). r >>= next) (first two)

  -- a fault of the second, after the first, is a fault of both
  joined_fault : (fault : AskFault) → IsFaultOf fault (λ bytes. next (v, bytes)) two → IsFaultOf fault (λ bytes. read bytes >>= next) (one ++ two)
  joined_fault ReadFault is = joined_end ∙ is
  joined_fault WriteFault is = absurd is
  joined_fault BadAnswer is = λ rest. joined rest ∙ is rest
  joined_fault (Refused refusal) is = λ rest. joined rest ∙ is rest
  joined_fault OutOfMemory is = tt

  -- the result of the second, after the first, is the result of both
  joined_says : {C : Type 0} (view : C → D) (result : Result C AskFault) → IsReadAs view result (λ bytes. next (v, bytes)) two
      → IsReadAs view result (λ bytes. read bytes >>= next) (one ++ two)
  joined_says view (Ok y) is = λ rest. joined rest ∙ is rest
  joined_says view (Err fault) is = joined_fault fault is

  -- no shorter prefix of both texts is enough
  joined_least : ((len : ℕ) → len < length one → read (take len one) ≡ Err ReadFault) → ((len : ℕ) → len < length two → next (v, take len two) ≡ Err ReadFault)
      → (len : ℕ) → len < length (one ++ two) → (read (take len (one ++ two)) >>= next) ≡ Err ReadFault
  joined_least least_one least_two len lt = elim (cases_lt len (length one)) [
    | inl within ↦ ap (λ (bytes : List ℕ). read bytes >>= next) (take-append-le len one two (omega (arith, within)))
        ∙ ap (λ (r : Read B). r >>= next) (least_one len within)
    | inr after ↦
        let is : len ≡ length one + (len - length one) = omega (arith, after) in
        let front : take len (one ++ two) ≡ one ++ take (len - length one) two = ap (λ (n : ℕ). take n (one ++ two)) is
        ∙ take-append-add one two (len - length one) in
        ap (λ (bytes : List ℕ). read bytes >>= next) front ∙ ap (λ (r : Read B). r >>= next) (first (take (len - length one) two))
        ∙ least_two (len - length one) (omega (arith, after, lt, length-append one two))
  ]

-- two, one after the other
pub Follows-then : {A B C D : Type 0} (view : A → B) (view_all : C → D) (x : A) (result : Result C AskFault) (a b c : Option (List ℕ))
    (read : List ℕ → Read B) (next : B × List ℕ → Read D)
    → Follows view (Ok x) a b read → Follows view_all result b c (λ bytes. next (view x, bytes)) → Follows view_all result a c (λ bytes. read bytes >>= next)
Follows-then view view_all x result a b c read next f s = record {
  text = f.text ++ s.text;
  taken = Consumes-trans a b c f.text s.text f.taken s.taken;
  least = joined_least (view x) f.text s.text read next f.says f.least s.least;
  says = joined_says (view x) f.text s.text read next f.says view_all result s.says;
}
