-- What holds of a value that `map_err` passes on.
use Rattle.std.proofs.Common.{◌≡◌, true≢false, Result, Ok, Err, IfOk, subst, sym}
use Rattle.std.specs.Result.{MatchResult, is_ok}

pub IfOk-mapped : {T D E : Type 0} (old : Result T E) (new : Result T D) (P : T → Type 0) (Q : E → Type 0) → is_ok new ≡ is_ok old
    → MatchResult old (λ x. new ≡ Ok x) Q → IfOk old P → IfOk new P
IfOk-mapped (Ok x) new P Q same is holds = subst (λ r. IfOk r P) (sym is) holds
IfOk-mapped (Err e) (Ok y) P Q same is holds = absurd (true≢false same)
IfOk-mapped (Err e) (Err d) P Q same is holds = tt
