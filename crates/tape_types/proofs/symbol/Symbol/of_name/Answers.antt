use Rattle.std.proofs.Common.{◌≡◌, ◌∙◌, ◌++◌, ◌-◌, ap, sym, length, replicate, arith, refl, drop, ℕ, Bool, true, false, not}
use Rattle.std.proofs.lemmas.List.{drop-replicate}
use Rattle.std.proofs.lemmas.Slice.Eq.{bytes_eq-Decides}
use Rattle.tape_types.specs.Ranges.{name_of}
use Rattle.tape_types.specs.Lemmas.Symbols.{IsSymbol-padded, name_of-padded, symbol_named-None, symbol_named-own}
use Rattle.tape_types.proofs.symbol.Symbol.of_name.Goals as goal

pub returns-in_default : goal.returns-in_default
returns-in_default c =
    let name = c.args.name.now in
    let bytes : c.copy_from_slice.new.self ++ drop (length name) (replicate {A = ℕ} 8 32) ≡ name ++ replicate (8 - length name) 32 =
    rw (c.copy_from_slice.ensures.after, drop-replicate {X = ℕ} (length name) 8 32) refl in
    record {
      named = sym (symbol_named-None name (omega arith)
          (λ some all. cc (c.in_default.ensures.valid.1 (rw bytes (IsSymbol-padded name some (omega arith) all)))));
    }

pub returns-then-ne : goal.returns-then-ne
returns-then-ne c =
    let name = c.args.name.now in
    let bytes : c.copy_from_slice.new.self ++ drop (length name) (replicate {A = ℕ} 8 32) ≡ name ++ replicate (8 - length name) 32 =
    rw (c.copy_from_slice.ensures.after, drop-replicate {X = ℕ} (length name) 8 32) refl in
    record {
      named = sym (symbol_named-None name (omega arith) (λ some all.
          let own = c.name.ensures.name ∙ ap name_of (c.in-Some.ensures.value ∙ bytes) ∙ name_of-padded name (8 - length name) all in
          cc (rw ((bytes_eq-Decides c.name.result.now name).1 own) at c.if-ne.ensures)));
    }

pub returns : goal.returns
returns c =
    let name = c.args.name.now in
    let bytes : c.copy_from_slice.new.self ++ drop (length name) (replicate {A = ℕ} 8 32) ≡ name ++ replicate (8 - length name) 32 =
    rw (c.copy_from_slice.ensures.after, drop-replicate {X = ℕ} (length name) 8 32) refl in
    let own = (bytes_eq-Decides c.name.result.now name).0 (not_ne _ c.if-ne.ensures) in
    record {
      named = sym (symbol_named-own name c.in-Some.symbol (c.in-Some.ensures.value ∙ bytes)
          (rw c.in-Some.ensures.value (c.in-Some.ensures.valid.0 refl)) (omega arith) (sym c.name.ensures.name ∙ own));
    }
  where
    not_ne : (b : Bool) → false ≡ not b → b ≡ true
    not_ne true is = refl
    not_ne false is = cc
