-- How long nothing was sent.
use Rattle.std.specs.Prelude.{ℕ, zero, suc}
use Rattle.live_feed.specs.declared.quiet.TheConstants.{FIRST_PAUSE, SECOND_PAUSE, LATER_PAUSE}

-- how long after what was sent last a beat is sent, if so many beats in a row were sent last
abbrev pub pause_before : ℕ → ℕ
pause_before zero = FIRST_PAUSE
pause_before (suc zero) = SECOND_PAUSE
pause_before (suc (suc beats)) = LATER_PAUSE
