-- A count with its noun.
use Rattle.std.specs.Prelude.{◌==◌, ◌++◌, ℕ, List, decimal, if◌then◌else◌}

-- a count and its noun, which is one word for 1 and another for more
unfoldable pub counted : ℕ → List ℕ → List ℕ → List ℕ
counted count one more = decimal count ++ (if count == 1 then one else more)
