-- A list read step by step: what is read so far, in front of what is read behind it.
use Rattle.std.proofs.Common.{◌≡◌, ◌+◌, ℕ, suc, List, [], ◌∷◌, ◌++◌, length, Option, Some, None, IfSome, Result, Ok, Err, refl, ap, append_assoc, arith}
use Rattle.std.proofs.lemmas.List.{append-nil, length-append}
use Rattle.tape_types.specs.Names.{symbol_named}
use Rattle.toml.specs.Data.{Data, Items, item}
use Rattle.day_terms.specs.Entries.{each_entry}
use Rattle.day_terms.specs.Faults.{◌>>=◌, Fails, Fault, fault_of, out_of_range}
use Rattle.day_terms.specs.Listings.{each_line}
use Rattle.day_terms.specs.declared.day_fault.DayFault.{DayFault}
use Rattle.day_terms.specs.declared.day_key.DayKey.{DayKey}
use Rattle.day_terms.specs.declared.place.FilePlace.{FilePlace}
use Rattle.day_terms.specs.declared.place.FilePlace.TheVariants.{Entry, Line}

-- what is read so far, in front of what is read behind it
abbrev pub with_front : {A : Type 0} → List A → Result (List A) Fault → Result (List A) Fault
with_front front read = read >>= λ more. Ok (front ++ more)

-- with nothing in front, it is what is read
pub with_front-nil : {A : Type 0} (read : Result (List A) Fault) → with_front [] read ≡ read
with_front-nil (Ok more) = refl
with_front-nil (Err fault) = refl

-- one more element in front
pub with_front-more : {A : Type 0} (front : List A) (one : A) (read : Result (List A) Fault)
    → with_front (front ++ one ∷ []) read ≡ with_front front (read >>= λ more. Ok (one ∷ more))
with_front-more front one (Ok more) = ap Ok (append_assoc front (one ∷ []) more)
with_front-more front one (Err fault) = refl

-- a fault of the first step is that of both
pub fails_through : {A B : Type 0} (fault : DayFault) (found : Result A Fault) (next : A → Result B Fault) → Fails fault found → Fails fault (found >>= next)
fails_through {A} {B} fault found next failed = through (fault_of fault) failed
  where
    through : (told : Option Fault) → IfSome told (λ t. found ≡ Err t) → IfSome told (λ t. (found >>= next) ≡ Err t)
    through None failed = tt
    through (Some told) failed = rw failed refl

-- the place after one more element
next_place : {A : Type 0} (front new : List A) (one : A) → new ≡ front ++ one ∷ [] → length new + 1 ≡ suc (length front + 1)
next_place front new one pushed = rw (pushed, length-append front (one ∷ [])) (omega arith)

-- one more line, which is a symbol
pub line_read : (front new : List (List ℕ)) (line symbol : List ℕ) (lines : List (List ℕ)) → Some symbol ≡ symbol_named line → new ≡ front ++ symbol ∷ []
    → with_front new (each_line (length new + 1) lines) ≡ with_front front (each_line (length front + 1) (line ∷ lines))
line_read front new line symbol lines named pushed =
    rw (next_place front new symbol pushed, ← named, pushed) (with_front-more front symbol (each_line (suc (length front + 1)) lines))

-- a line that is no symbol
pub line_refused : (front : List (List ℕ)) (line : List ℕ) (lines : List (List ℕ)) → None ≡ symbol_named line
    → with_front front (each_line (length front + 1) (line ∷ lines)) ≡ Err (out_of_range (Line (length front + 1)))
line_refused front line lines none = rw (← none) refl

-- nothing is left to read
pub all_read : {A : Type 0} (front : List A) → with_front front (Ok []) ≡ Ok front
all_read front = ap Ok (append-nil front)

-- one more entry, which is read
pub entry_read : {A : Type 0} (entry : FilePlace → Data → Result A Fault) (key : DayKey) (front new : List A) (value : Data) (one : A) (items : Items)
    → entry (Entry key (length front + 1)) value ≡ Ok one → new ≡ front ++ one ∷ []
    → with_front new (each_entry entry key (length new + 1) items) ≡ with_front front (each_entry entry key (length front + 1) (item value items))
entry_read entry key front new value one items is pushed =
    rw (next_place front new one pushed, is, pushed) (with_front-more front one (each_entry entry key (suc (length front + 1)) items))

-- an entry with a fault
pub entry_refused : {A : Type 0} (entry : FilePlace → Data → Result A Fault) (key : DayKey) (front : List A) (value : Data) (items : Items) (fault : DayFault)
    → Fails fault (entry (Entry key (length front + 1)) value)
    → Fails fault (with_front front (each_entry entry key (length front + 1) (item value items)))
entry_refused {A} entry key front value items fault failed =
    let place = Entry key (length front + 1) in
    let others : A → Result (List A) Fault = λ first. each_entry entry key (suc (length front + 1)) items >>= λ more. Ok (first ∷ more) in
    fails_through fault (entry place value >>= others) (λ more. Ok (front ++ more)) (fails_through fault (entry place value) others failed)
