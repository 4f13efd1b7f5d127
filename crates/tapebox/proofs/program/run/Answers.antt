use Rattle.std.proofs.Common.{◌≡◌, rules, inr, refl}
use Rattle.tapebox.specs.Program.{follow_word, live_word}
use Rattle.tapebox.proofs.ArgumentLemmas.{in_row, never_both}
use Rattle.tapebox.proofs.FeedLemmas.{runs_follow, runs_live}
use Rattle.tapebox.proofs.program.run.Goals as goal

pub returns-in-Ok-Live : goal.returns-in-Ok-Live
returns-in-Ok-Live g c =
    let asked = rw c.in-Ok-Live.field-0-is at c.in-Ok-Live.ensures.asked in
    record {
      answers = record {
        batch = search rules;
        live = λ _. inr (refl, runs_live _ _ _ _ _ _ _ _ _ c.args.words.now c.in-Ok-Live.words asked.1 c.run_live.ensures);
        follow = λ follow. absurd (never_both c.args.words.now asked.0 follow);
        asked = λ what _ is. absurd (in_row c.args.words.now live_word asked.0 what is);
        other = search rules;
        quiet = search rules;
      };
    }

pub returns-in-Ok-Follow : goal.returns-in-Ok-Follow
returns-in-Ok-Follow g c =
    let asked = rw c.in-Ok-Follow.field-0-is at c.in-Ok-Follow.ensures.asked in
    record {
      answers = record {
        batch = search rules;
        live = λ live. absurd (never_both c.args.words.now live asked.0);
        follow = λ _. inr (refl, runs_follow _ _ _ _ _ _ _ _ _ c.args.words.now c.in-Ok-Follow.words asked.1 c.run_follow.ensures);
        asked = λ what _ is. absurd (in_row c.args.words.now follow_word asked.0 what is);
        other = search rules;
        quiet = search rules;
      };
    }

pub returns-in-Ok-Asked : goal.returns-in-Ok-Asked
returns-in-Ok-Asked g c =
    let words = c.args.words.now in
    let asks = rw c.in-Ok-Asked.field-0-is at c.in-Ok-Asked.ensures.asked in
    record {
      answers = record {
        batch = λ matrix is. absurd (cc (asks.0, is));
        live = λ live. absurd (in_row words live_word live c.in-Ok-Asked.asked asks.1);
        follow = λ follow. absurd (in_row words follow_word follow c.in-Ok-Asked.asked asks.1);
        asked = λ what none is. let same : what ≡ c.in-Ok-Asked.asked = cc (is, asks.1) in rw same c.run_asked.ensures;
        other = λ other. absurd (cc (asks.1, other.1));
        quiet = λ none done. absurd (cc (asks.1, none));
      };
    }
