-- What a publication set, shown by what was seen in the cells and by tokens.
use Rattle.std.proofs.Common.{◌≡◌, ◌≤◌, ◌+◌, ℕ, List, length, subst, sym, ap, ◌∙◌, arith}
use Rattle.tape_core.specs.declared.entry.Entry.{Entry}
use Rattle.seen_cells.specs.declared.Seen.{Seen}
use Rattle.line_ledger.specs.Cells.{TokenState, NextSeen, NextTokens}
use Rattle.line_ledger.specs.Days.{LockedState}
use Rattle.line_ledger.specs.Publishing.{Publishes, Sets}

module _ (l l' : LockedState) (names : List ℕ) (most : ℕ) (seen : List (Seen Entry)) (entries : List Entry) (did : Sets l names most seen l')
    (is : entries ≡ l'.tape.entries) where
  -- the tape is as it was
  same : entries ≡ l.tape.entries
  same = is ∙ ap (λ (x : LockedState). x.tape.entries) did.counted

  -- the cells were seen to hold the entries of the tape after it
  pub next_kept : NextSeen names entries l.set seen
  next_kept = subst (λ (es : List Entry). NextSeen names es l.set seen) (sym same) did.next

  -- which has an entry for each of them
  pub within_kept : l.set ≤ length l.tape.entries → l.set + length seen ≤ length entries
  within_kept within = omega (arith, did.many, within, ap length same)

  -- a token of each is what a publication returns
  pub publishes : (tokens : List TokenState) → length tokens ≡ length seen → NextTokens names entries l.set tokens → Publishes l names most tokens l'
  publishes tokens many next = record {
    many = many ∙ did.many;
    next = subst (λ (es : List Entry). NextTokens names es l.set tokens) same next;
    counted = did.counted ∙ ap (λ (n : ℕ). record l { set = l.set + n }) (sym many);
  }
