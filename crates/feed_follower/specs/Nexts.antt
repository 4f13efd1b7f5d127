-- What is next in a follower's run.
use Rattle.std.specs.Prelude.{ℕ, ◌≡◌, ◌≤◌, ◌-◌, Option, None, Some, length}
use Rattle.arbitration.specs.Gaps.{IsGap, IsMissing}
use Rattle.subscriber.specs.Subscribers.{SubscriberState}
use Rattle.feed_follower.specs.Conflicts.{AsksFor}
use Rattle.feed_follower.specs.LinePositions.{IsToWait}
use Rattle.feed_follower.specs.declared.conflicts.Conflicts.{Conflicts}
use Rattle.feed_follower.specs.declared.line_positions.LinePositions.{LinePositions}
use Rattle.feed_follower.specs.declared.follower.NextStep.{NextStep}
use Rattle.feed_follower.specs.declared.follower.NextStep.TheVariants.{Read, Wait, Ask, Settle, Connect, End}

-- the first missing number that is to be asked for
abbrev pub asked_of : NextStep → Option ℕ
asked_of Read = None
asked_of (Wait number) = None
asked_of (Ask request) = Some request.from
asked_of (Settle request) = None
asked_of Connect = None
asked_of End = None

-- how many numbers were announced above those that are held
abbrev pub ahead_of : SubscriberState → ℕ
ahead_of s = s.window.announced - length s.tape.entries

-- while a run goes on, what is missing first is waited for if it is to be, and asked for otherwise; if nothing is missing, the
-- numbers on which packets did not agree are asked for, and if there are none, packets are read
abbrev pub IsNext : SubscriberState → LinePositions → Conflicts → ℕ → NextStep → Type 0
IsNext s p c session Read = ((n : ℕ) → ¬ (IsMissing s.window n)) × (c.wanted.before ≤ c.wanted.from)
IsNext s p c session (Wait number) = (count : ℕ) × IsGap s.window number count × IsToWait number (ahead_of s) p
IsNext s p c session (Ask request) = (request.session ≡ s.window.session) × IsGap s.window request.from request.count × ¬ (IsToWait request.from (ahead_of s) p)
IsNext s p c session (Settle request) = ((n : ℕ) → ¬ (IsMissing s.window n)) × (request.session ≡ session) × AsksFor c.wanted request
IsNext s p c session Connect = ⊥
IsNext s p c session End = ⊥
