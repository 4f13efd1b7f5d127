-- What a follower's account counts.
use Rattle.std.specs.Prelude.{ℕ, ◌+◌, ◌-◌, ◌^◌, length, min, Option, None, Some}
use Rattle.std.specs.Option.{option_or}
use Rattle.arbitration.specs.Counts.{brought_by}
use Rattle.arbitration.specs.declared.line.Line.{Line}
use Rattle.arbitration.specs.declared.line.Line.TheVariants.{A, B, R}
use Rattle.subscriber.specs.Subscribers.{SubscriberState}
use Rattle.feed_follower.specs.declared.conflicts.Numbers.{Numbers}
use Rattle.feed_follower.specs.declared.heard.Heard.{Heard}
use Rattle.feed_follower.specs.declared.heard.Heard.TheVariants.{Taken, NoPacket, Foreign, Conflict, PastEnd}
use Rattle.feed_follower.specs.declared.account.LineCounts.{LineCounts}
use Rattle.feed_follower.specs.declared.account.FollowAccount.{FollowAccount}

-- one more, up to the greatest number that a counter holds
abbrev pub one_more : ℕ → ℕ
one_more n = min (n + 1) (2 ^ 64 - 1)

-- a line's counts after one more packet
abbrev pub with_heard : Heard → LineCounts → LineCounts
with_heard Taken c = record c { packets = one_more c.packets }
with_heard NoPacket c = record c { packets = one_more c.packets; no_packet = one_more c.no_packet }
with_heard Foreign c = record c { packets = one_more c.packets; foreign = one_more c.foreign }
with_heard (Conflict n) c = record c { packets = one_more c.packets; conflict = one_more c.conflict }
with_heard PastEnd c = record c { packets = one_more c.packets; past_end = one_more c.past_end }

-- how many packets were dropped
abbrev pub dropped : LineCounts → ℕ
dropped c = c.no_packet + c.foreign + c.conflict + c.past_end

-- an account after one more packet of a line
abbrev pub account_with : Line → Heard → FollowAccount → FollowAccount
account_with A heard a = record a { a = with_heard heard a.a }
account_with B heard a = record a { b = with_heard heard a.b }
account_with R heard a = record a { retransmission = with_heard heard a.retransmission }

-- the counts of a line that brought nothing
abbrev pub no_counts : LineCounts
no_counts = record { packets = 0; no_packet = 0; foreign = 0; conflict = 0; past_end = 0; entries = 0 }

-- the account of a follower that has heard nothing
abbrev pub new_account : ℕ → FollowAccount
new_account session = record {
  session = session;
  a = no_counts;
  b = no_counts;
  retransmission = no_counts;
  asked = 0;
  other_session = None;
  conflict = None;
  unsettled = 0;
  held = 0;
}

-- an account after another session was heard, which is noted unless one is
abbrev pub once_other : ℕ → FollowAccount → FollowAccount
once_other session a = record a { other_session = option_or a.other_session (Some session) }

-- an account after packets did not agree on a number, which is noted unless one is
abbrev pub once_differing : ℕ → FollowAccount → FollowAccount
once_differing number a = record a { conflict = option_or a.conflict (Some number) }

-- an account after one more request that was answered or failed
abbrev pub once_asked : FollowAccount → FollowAccount
once_asked a = record a { asked = one_more a.asked }

-- the account of a run: what it counted, which entries a line was the first to bring, how many are held, and how many numbers
-- are to be asked for
abbrev pub account_of : FollowAccount → SubscriberState → Numbers → FollowAccount
account_of account s wanted = record account {
  a = record account.a { entries = brought_by s.window.brought A };
  b = record account.b { entries = brought_by s.window.brought B };
  retransmission = record account.retransmission { entries = brought_by s.window.brought R };
  unsettled = wanted.before - wanted.from;
  held = length s.tape.entries;
}
