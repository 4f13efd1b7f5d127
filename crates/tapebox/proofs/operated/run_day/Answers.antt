use Rattle.std.proofs.Common.{◌≡◌}
use Rattle.feed_ends.specs.Reports.{WritesItsReport}
use Rattle.desk_words.specs.RunStatuses.{ended_status}
use Rattle.tapebox.specs.Feeds.{RunsDay}
use Rattle.tapebox.proofs.FeedLemmas.{day_ends}
use Rattle.tapebox.proofs.operated.run_day.Goals as goal
use Rattle.tapebox.proofs.operated.run_day.Goals.{in-Some, in-None}

pub returns : goal.returns
returns g c =
    let old = g.W.Write.contents c.args.writer.now in
    let day = c.in-Ok.ready.terms.day in
    elim c.match-listener.branch [
      | in-Some w ↦
          let new = w.run_controlled-end.new.writer in
          let ended = w.run_controlled-end.result in
          let said : c.say_end.result ≡ ended_status ended.result = rw w.end-is at c.say_end.ensures in
          let ends : RunsDay (WritesItsReport day.listing day.matrix day.limit) c.say_end.result c.args.writer.now new old (g.W.Write.contents new) =
          day_ends day.listing day.matrix day.limit c.args.writer.now new old (g.W.Write.contents new) ended c.say_end.result said
          w.run_controlled-end.ensures in
          rw w.writer-is (rw c.in-Ok.ensures.terms at ends)
      | in-None w ↦
          let new = w.live_day-end.new.writer in
          let ended = w.live_day-end.result in
          let said : c.say_end.result ≡ ended_status ended.result = rw w.end-is at c.say_end.ensures in
          let ends : RunsDay (WritesItsReport day.listing day.matrix day.limit) c.say_end.result c.args.writer.now new old (g.W.Write.contents new) =
          day_ends day.listing day.matrix day.limit c.args.writer.now new old (g.W.Write.contents new) ended c.say_end.result said
          (record { report = w.live_day-end.ensures.report; whole = w.live_day-end.ensures.whole; unwritten = w.live_day-end.ensures.unwritten }) in
          rw w.writer-is (rw c.in-Ok.ensures.terms at ends)
    ]
