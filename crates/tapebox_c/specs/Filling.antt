-- Defines how a handle that holds nothing is filled.
use Rattle.std.specs.Prelude.{◌≡◌, ℕ, Option, None, Some}
use Rattle.tapebox_c.specs.declared.held.Held.{Held}

-- it holds this and the number is 0, or it holds nothing and memory ran out
abbrev pub FillsWith : Held → ℕ → Option Held → Type 0
FillsWith held code None = code ≡ 6
FillsWith held code (Some now) = (code ≡ 0) × (now ≡ held)
