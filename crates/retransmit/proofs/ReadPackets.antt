-- Packets read one after the other.
use Rattle.std.proofs.Common.{◌≡◌, ℕ, zero, suc, ◌+◌, ◌-◌, ◌<◌, List, [], ◌∷◌, ◌++◌, Option, Result, Ok, Err, refl, ap, ◌∙◌, arith}
use Rattle.std.specs.Global.{Vec}
use Rattle.reports.specs.Fields.{◌>>=◌}
use Rattle.retransmit.specs.Asking.{Follows, as_is, sized_packet_at, packets_at, text_of}
use Rattle.retransmit.specs.declared.ask_fault.AskFault.{AskFault}
use Rattle.retransmit.specs.declared.ask_fault.AskFault.TheVariants.{OutOfMemory}
use Rattle.retransmit.proofs.Readings.{Follows-gives_up, Follows-here, Follows-same, Follows-stops, Follows-then, Read}

-- packets, and what follows them
abbrev Texts : Type 0
Texts = List (List ℕ) × List ℕ

-- the packets read, put after these
abbrev after : Texts → Texts → Result Texts AskFault
after x y = Ok (x.0 ++ y.0, y.1)

-- a packet in front of those read
abbrev before : List ℕ × List ℕ → Texts → Result Texts AskFault
before first others = Ok (first.0 ∷ others.0, others.1)

-- packets, and others after them
abbrev more_at : ℕ → Texts → Result Texts AskFault
more_at m x = packets_at m x.1 >>= after x

-- one packet, and others after it
abbrev first_at : ℕ → List ℕ × List ℕ → Result Texts AskFault
first_at n first = packets_at n first.1 >>= before first

-- after no packets, the others are all
same_value : (r : Result Texts AskFault) → r ≡ (r >>= after ([], []))
same_value (Ok y) = refl
same_value (Err fault) = refl

-- a packet in front of those that are put after others
third : (first : List ℕ × List ℕ) (x : Texts) (r : Result Texts AskFault) → ((r >>= after x) >>= before first) ≡ (r >>= after (first.0 ∷ x.0, x.1))
third first x (Ok y) = refl
third first x (Err fault) = refl

-- a packet in front of the first of two readings
second : (m : ℕ) (first : List ℕ × List ℕ) (r : Result Texts AskFault) → ((r >>= more_at m) >>= before first) ≡ ((r >>= before first) >>= more_at m)
second m first (Ok x) = third first x (packets_at m x.1)
second m first (Err fault) = refl

-- a packet, and two readings after it
first_step : (n m : ℕ) (r : Read (List ℕ)) → ((bytes : List ℕ) → packets_at (n + m) bytes ≡ (packets_at n bytes >>= more_at m))
    → (r >>= first_at (n + m)) ≡ ((r >>= first_at n) >>= more_at m)
first_step n m (Ok first) rest = ap (λ (r : Result Texts AskFault). r >>= before first) (rest first.1) ∙ second m first (packets_at n first.1)
first_step n m (Err fault) rest = refl

-- packets, and then others
packets_at-add : (n m : ℕ) (bytes : List ℕ) → packets_at (n + m) bytes ≡ (packets_at n bytes >>= more_at m)
unfolding packets_at
packets_at-add zero m bytes =
    let is : 0 + m ≡ m = omega arith in
    ap (λ (k : ℕ). packets_at k bytes) is ∙ same_value (packets_at m bytes)
packets_at-add (suc n) m bytes =
    let is : suc n + m ≡ suc (n + m) = omega arith in
    ap (λ (k : ℕ). packets_at k bytes) is ∙ first_step n m (sized_packet_at bytes) (packets_at-add n m)

-- reading no packets takes no bytes and returns none
pub Follows-none : (a : Option (List ℕ)) → Follows {A = List (List ℕ)} as_is (Ok []) a a (packets_at 0)
unfolding packets_at
Follows-none a = Follows-here as_is [] a (packets_at 0) (λ bytes. refl)

-- reading one packet returns the list of it alone
one_packet : (packet : Vec ℕ) (b c : Option (List ℕ)) → Follows text_of (Ok packet) b c sized_packet_at
    → Follows {A = List (List ℕ)} as_is (Ok (packet.items ∷ [])) b c (packets_at 1)
unfolding packets_at
one_packet packet b c first =
    Follows-then text_of as_is packet (Ok (packet.items ∷ [])) b c c sized_packet_at (first_at 0) first
    (Follows-here as_is (packet.items ∷ []) c (λ bytes. first_at 0 (packet.items, bytes)) (λ bytes. refl))

-- reading one more packet returns those before it, and then it
pub Follows-push : (texts : List (List ℕ)) (packet : Vec ℕ) (place : ℕ) (a b c : Option (List ℕ)) → Follows as_is (Ok texts) a b (packets_at place)
    → Follows text_of (Ok packet) b c sized_packet_at
    → Follows as_is (Ok (texts ++ packet.items ∷ [])) a c (packets_at (place + 1))
Follows-push texts packet place a b c some first =
    let last = one_packet packet b c first in
    let put = Follows-then as_is as_is (packet.items ∷ []) (Ok (texts ++ packet.items ∷ [])) b c c (packets_at 1) (after (texts, [])) last
    (Follows-here as_is (texts ++ packet.items ∷ []) c (λ bytes. Ok (texts ++ packet.items ∷ [], bytes)) (λ bytes. refl)) in
    Follows-same as_is (Ok (texts ++ packet.items ∷ [])) a c (λ bytes. packets_at place bytes >>= more_at 1) (packets_at (place + 1)) (packets_at-add place 1)
    (Follows-then as_is as_is texts (Ok (texts ++ packet.items ∷ [])) a b c (packets_at place) (more_at 1) some put)

-- the packet after those already read is a fault, so reading all of them is
pub Follows-at_packet : (texts : List (List ℕ)) (fault : AskFault) (place count : ℕ) (a b c : Option (List ℕ)) → place < count
    → Follows as_is (Ok texts) a b (packets_at place)
    → Follows text_of (Err fault) b c sized_packet_at → Follows {A = List (List ℕ)} as_is (Err fault) a c (packets_at count)
unfolding packets_at
Follows-at_packet texts fault place count a b c more some first =
    let left = count - (place + 1) in
    let is : count ≡ place + suc left = omega (arith, more) in
    let next = Follows-stops text_of (as_is {A = List (List ℕ)}) fault b c sized_packet_at (first_at left) first in
    let put = Follows-stops as_is (as_is {A = List (List ℕ)}) fault b c (packets_at (suc left)) (after (texts, [])) next in
    Follows-same as_is (Err fault) a c (λ bytes. packets_at place bytes >>= more_at (suc left)) (packets_at count)
    (λ bytes. ap (λ (k : ℕ). packets_at k bytes) is ∙ packets_at-add place (suc left) bytes)
    (Follows-then as_is as_is texts (Err fault) a b c (packets_at place) (more_at (suc left)) some put)

-- there is no room for the packet after those already read
pub Follows-no_push : (texts : List (List ℕ)) (packet : Vec ℕ) (place count : ℕ) (a b c : Option (List ℕ)) → place < count
    → Follows as_is (Ok texts) a b (packets_at place)
    → Follows text_of (Ok packet) b c sized_packet_at → Follows {A = List (List ℕ)} as_is (Err OutOfMemory) a c (packets_at count)
Follows-no_push texts packet place count a b c more some first =
    let left = count - (place + 1) in
    let is : count ≡ (place + 1) + left = omega (arith, more) in
    let all = Follows-push texts packet place a b c some first in
    Follows-same as_is (Err OutOfMemory) a c (λ bytes. packets_at (place + 1) bytes >>= more_at left) (packets_at count)
    (λ bytes. ap (λ (k : ℕ). packets_at k bytes) is ∙ packets_at-add (place + 1) left bytes)
    (Follows-gives_up as_is as_is (texts ++ packet.items ∷ []) a c (packets_at (place + 1)) (more_at left) all)
