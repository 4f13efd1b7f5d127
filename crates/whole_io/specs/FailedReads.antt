-- The bytes that a failed read has consumed.
use Rattle.std.specs.Prelude.{ℕ, ◌<◌, List, length, Option}
use Rattle.std.specs.Io.KnownBytes.{Consumes}

-- fewer bytes than these were read, and no others
abbrev pub ReadsFewer : Option (List ℕ) → Option (List ℕ) → ℕ → Type 0
ReadsFewer had left count = (part : List ℕ) × Consumes had left part × (length part < count)
