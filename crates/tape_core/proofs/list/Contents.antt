-- Shows that the content in force of a report is of the tape's matrix.
use Rattle.std.proofs.Common.{◌≡◌, ℕ, ◌==◌, Bool, true, false, if◌then◌else◌, List, [], ◌∷◌, Option, Some, None, IfSome, subst}
use Rattle.std.specs.List.{AllByRecursion, filter_map, last_or, cons_option}
use Rattle.sale_matrix.specs.Matrix.{is_within}
use Rattle.sale_matrix.specs.declared.content.Content.{Content}
use Rattle.sale_matrix.specs.declared.matrix.Matrix.{Matrix}
use Rattle.reports.specs.declared.message.Message.TheVariants.{Report, Cancel, Correct, Reinstate}
use Rattle.tape_core.specs.Standing.{NumberedMessage, named_report, is_at, content_from, standing_content}
use Rattle.tape_core.specs.Tape.{is_in_matrix}

module _ (matrix : Matrix) where
  -- whether a content is of the matrix
  abbrev IsOf : Content → Type 0
  IsOf content = is_within matrix content.condition ≡ true

  -- a content that is given in one case alone
  where-given : (b : Bool) (content : Content) → IsOf content → IfSome (if b then Some content else None) IsOf
  where-given true content is = is
  where-given false content is = tt

  -- the content that a message gives the report at a place
  given-within : (tape : List NumberedMessage) (place : ℕ) (n : NumberedMessage) → is_in_matrix matrix n.1 ≡ true
      → IfSome (content_from tape place n) IsOf
  given-within tape place (number, Report header content) is = where-given (number == place) content is
  given-within tape place (number, Cancel header target) is = tt
  given-within tape place (number, Correct header target content) is =
      where-given (is_at place (named_report tape header.participant target)) content is
  given-within tape place (number, Reinstate header target) is = tt

  -- the last of several
  last-within : (tape : List NumberedMessage) (place : ℕ) (o : Option Content) (ns : List NumberedMessage) → IfSome o IsOf
      → AllByRecursion (λ (n : NumberedMessage). is_in_matrix matrix n.1 ≡ true) ns
      → IfSome (last_or o (filter_map (content_from tape place) ns)) IsOf
  last-within tape place o [] is all = is
  last-within tape place o (n ∷ ns) is all =
      by (content_from tape place n) (given-within tape place n all.0) (λ before first. last-within tape place before ns first all.1)
    where
      by : (given : Option Content) → IfSome given IsOf
          → ((before : Option Content) → IfSome before IsOf → IfSome (last_or before (filter_map (content_from tape place) ns)) IsOf)
          → IfSome (last_or o (cons_option given (filter_map (content_from tape place) ns))) IsOf
      by None first rest = rest o is
      by (Some content) first rest = rest (Some content) first

  -- and so the content in force
  pub latest-within : (tape : List NumberedMessage) (place : ℕ) (content : Content)
      → AllByRecursion (λ (n : NumberedMessage). is_in_matrix matrix n.1 ≡ true) tape
      → standing_content tape place ≡ Some content → is_within matrix content.condition ≡ true
  latest-within tape place content all is = subst (λ o. IfSome o IsOf) is (last-within tape place None tape tt all)
