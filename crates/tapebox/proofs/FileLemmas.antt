-- What is read of a reader up to a limit.
use Rattle.std.proofs.Common.{◌≡◌, ◌∙◌, ◌++◌, ◌<◌, IfSome, List, [], Option, Some, None, ap, arith, length, min, take, ℕ}
use Rattle.std.proofs.lemmas.List.{length-take, take_all}
use Rattle.std.specs.Option.{option_map}

-- a text that is shorter than the limit is all that its reader had
pub all_read : (limit : ℕ) (known : Option (List ℕ)) (text : List ℕ) → IfSome (option_map (take limit) known) (λ xs. text ≡ [] ++ xs)
    → length text < limit → IfSome known (λ bytes. text ≡ bytes)
all_read limit None text read short = tt
all_read limit (Some bytes) text read short =
    let taken : length text ≡ min limit (length bytes) = ap length read ∙ length-take limit bytes in
    read ∙ take_all limit bytes (omega (arith, short, taken))
