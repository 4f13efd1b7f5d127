-- What a disk holds after it was cut, written and kept.
use Rattle.std.proofs.Common.{◌∙◌, ◌++◌, ℕ, List, Option, Some, None, ap, refl, take}
use Rattle.std.specs.Option.{option_map}
use Rattle.std.specs.Io.KnownBytes.{Appends, Keeps}
use Rattle.journal_start.specs.Starts.{HasInstead}

-- known bytes are kept if nothing happens
pub kept : (known : Option (List ℕ)) → Keeps known known
kept None = tt
kept (Some held) = refl

-- what was cut and then kept
pub cut_kept : (old cut new : Option (List ℕ)) (len : ℕ) → Keeps (option_map (take len) old) cut → Keeps cut new → Keeps (option_map (take len) old) new
cut_kept None cut new len is kept = tt
cut_kept (Some held) None new len is kept = absurd is
cut_kept (Some held) (Some left) None len is kept = absurd kept
cut_kept (Some held) (Some left) (Some stays) len is kept = kept ∙ is

-- a header that replaced all bytes and was kept
pub header_written : (old cut wrote new : Option (List ℕ)) (text : List ℕ) → Keeps (option_map (take 0) old) cut → Appends cut wrote text → Keeps wrote new
    → HasInstead text old new
header_written None cut wrote new text is written kept = tt
header_written (Some held) None wrote new text is written kept = absurd is
header_written (Some held) (Some left) None new text is written kept = absurd written
header_written (Some held) (Some left) (Some has) None text is written kept = absurd kept
header_written (Some held) (Some left) (Some has) (Some stays) text is written kept =
    ap Some (kept ∙ written ∙ ap (λ (l : List ℕ). l ++ text) is)
