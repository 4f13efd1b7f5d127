-- The opening of an open and empty tape is never 7 NotEmpty.
use Rattle.std.proofs.Common.{◌≡◌, ◌≢◌, ◌↔◌, ◌⊎◌, inl, inr, Bool, true, false, true≢false, List, [], Result, Err, subst, ap, sym, ◌∙◌, arith}
use Rattle.std.specs.Prelude.{IfErr}
use Rattle.tape_core.specs.declared.entry.Entry.{Entry}
use Rattle.line_ledger.specs.declared.open_fault.OpenFault.{OpenFault}
use Rattle.line_ledger.specs.declared.open_fault.OpenFault.TheVariants.{NotEmpty, OutOfMemory}
use Rattle.line_ledger.specs.Faults.{open_fault_code}

-- a result that lacks memory alone is 7 exactly if an open and empty tape is closed or has an entry: never
pub none_of_seven : {P : Type 0} (r : Result P OpenFault) (closed : Bool) (entries : List Entry) → closed ≡ false → entries ≡ []
    → IfErr r (λ fault. fault ≡ OutOfMemory) → (r ≡ Err NotEmpty) ↔ ((closed ≡ true) ⊎ (entries ≢ []))
none_of_seven {P = P} r closed entries unclosed empty memory = (
  (λ is.
      let same : NotEmpty ≡ OutOfMemory = subst (λ (x : Result P OpenFault). IfErr x (λ fault. fault ≡ OutOfMemory)) is memory in
      let code : open_fault_code NotEmpty ≡ open_fault_code OutOfMemory = ap open_fault_code same in
      absurd (omega (arith, code))),
  (λ either. elim either [
    | inl is ↦ absurd (true≢false (sym is ∙ unclosed))
    | inr filled ↦ absurd (filled empty)
  ]),
)
