-- How far the lines of a follower have come.
use Rattle.std.specs.Prelude.{ℕ, ◌≡◌, ◌<◌, ◌≤◌, ◌⊎◌, max, Some, IsSomeAnd, unwrap_or}
use Rattle.feed_follower.specs.declared.line_positions.TheConstants.{AHEAD_MOST, TURNS_MOST}
use Rattle.arbitration.specs.declared.line.Line.{Line}
use Rattle.arbitration.specs.declared.line.Line.TheVariants.{A, B, R}
use Rattle.feed_follower.specs.declared.line_positions.LinePosition.{LinePosition}
use Rattle.feed_follower.specs.declared.line_positions.LinePositions.{LinePositions}

-- a line brought something, but no number as high as this one
abbrev pub IsBehind : ℕ → LinePosition → Type 0
IsBehind number line = IsSomeAnd line.last (λ last. last < number)

-- a line that is behind is waited for, once it has reached the number that it was waited for in vain
abbrev pub IsAwaited : ℕ → LinePosition → Type 0
IsAwaited number line = IsSomeAnd line.last (λ last. (line.awaited_from ≤ last) × (last < number))

-- a number is to be waited for while so many are announced above those held: a line may still bring it, it was not waited for
-- long enough, and what comes meanwhile fits into the window
abbrev pub IsToWait : ℕ → ℕ → LinePositions → Type 0
IsToWait number ahead p =
    (ahead < AHEAD_MOST) × ¬ ((p.awaited ≡ number) × (TURNS_MOST ≤ p.turns)) × (IsAwaited number p.a ⊎ IsAwaited number p.b)

-- a line after it brought this number
abbrev pub once_brought : ℕ → LinePosition → LinePosition
once_brought number line = record line { last = Some (max (unwrap_or line.last 0) number) }

-- the positions after a line brought this number; the retransmission is no line to wait for
abbrev pub once_noted : Line → ℕ → LinePositions → LinePositions
once_noted A number p = record p { a = once_brought number p.a }
once_noted B number p = record p { b = once_brought number p.b }
once_noted R number p = p
