-- What a writer gets whose text is not defined, and what is said if whoever read it is gone.
use Rattle.std.specs.Prelude.{◌≡◌, ℕ, List, Option, Bool, true}
use Rattle.std.specs.Io.KnownBytes.{Appends}
use Rattle.command_line.specs.declared.status.Status.{Status}
use Rattle.command_line.specs.declared.status.Status.TheVariants.{WriteFault}

-- something was written behind the known bytes, which stay
abbrev pub Grows : Option (List ℕ) → Option (List ℕ) → Type 0
Grows old new = (text : List ℕ) × Appends old new text

-- nothing was said of a write fault if the reader of what was written is gone
abbrev pub IsQuietIfGone : {E : Type 0} → Bool → Status → E → E → Type 0
IsQuietIfGone gone status errors_old errors_new = gone ≡ true → status ≡ WriteFault → errors_new ≡ errors_old
