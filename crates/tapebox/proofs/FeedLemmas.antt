-- What the status of a running day says of its report, and that it is the report of the day which the arguments name.
use Rattle.std.proofs.Common.{◌≡◌, ◌≢◌, ◌<◌, ◌⊎◌, Bool, true, false, IfErr, IfOk, IfSome, IsOk, OnOk, Result, Ok, Err, List, Option, None, Some, ℕ, ap, arith, inl, inr, refl, subst, sym}
use Rattle.command_line.specs.Statuses.{status_code}
use Rattle.command_line.specs.declared.status.Status.{Status}
use Rattle.command_line.specs.declared.status.Status.TheVariants as of_status
use Rattle.command_line.specs.declared.status.Status.TheVariants.{Done, Bad, ReadFault, WriteFault, OutOfMemory}
use Rattle.tape_types.specs.Names.{Names}
use Rattle.sale_matrix.specs.declared.matrix.Matrix.{Matrix}
use Rattle.feed_follower.specs.Reported.{WritesReportOf, follow_fault}
use Rattle.feed_follower.specs.declared.follow_fault.FollowFault.{FollowFault}
use Rattle.feed_ends.specs.Faults.{fault_status as fault_code}
use Rattle.feed_ends.specs.Reports.{WritesItsReport}
use Rattle.feed_ends.specs.declared.fault.Fault.{Fault}
use Rattle.feed_ends.specs.declared.fault.Fault.TheVariants.{Read, Write, Memory, Worker, Disagrees}
use Rattle.day_terms.specs.declared.follow_day.FollowDay.{FollowDay}
use Rattle.day_terms.specs.declared.live_day.LiveDay.{LiveDay}
use Rattle.live_feed.specs.declared.operated_day.LiveEnd.{LiveEnd}
use Rattle.desk_words.specs.RunStatuses.{ended_status}
use Rattle.tapebox.specs.Feeds.{EndsDay, FollowsDay, IsControlStatus, RunsDay, follow_status}
use Rattle.tapebox.specs.Journals.{IsJournalStatus}
use Rattle.tapebox.specs.Program.{AskFollow, AskLive, IsFeedStatus, RunsFeed, WritesFollowReport, WritesLiveReport}

-- a run whose status is 0 has ended well
reported_by : (ended : Result (Unit {0}) Fault) (P : Type 0) → OnOk ended P → status_code (ended_status ended) ≡ 0 → P
reported_by (Ok done) P holds is = holds
reported_by (Err Read) P holds is = absurd (cc is)
reported_by (Err Write) P holds is = absurd (cc is)
reported_by (Err Memory) P holds is = absurd (cc is)
reported_by (Err Worker) P holds is = absurd (cc is)
reported_by (Err Disagrees) P holds is = absurd (cc is)

-- the status of a run is that of a feed
known_by : (ended : Result (Unit {0}) Fault) → IsFeedStatus (status_code (ended_status ended))
known_by (Ok done) = inl refl
known_by (Err Read) = inr (omega arith, omega arith)
known_by (Err Write) = inr (omega arith, omega arith)
known_by (Err Memory) = inr (omega arith, omega arith)
known_by (Err Worker) = inr (omega arith, omega arith)
known_by (Err Disagrees) = inr (omega arith, omega arith)

module _ {W E : Type 0} (status : Status) (writer_old writer_new : W) (old new : Option (List ℕ)) (errors_old errors_new : E) (said_old said_new : Option (List ℕ)) where
  -- a run writes another report if the one that it wrote is that one too
  runs_too : (Wrote Writes : Option (List ℕ) → Option (List ℕ) → Type 0) → (Wrote old new → Writes old new)
      → RunsFeed Wrote status writer_old writer_new old new errors_old errors_new said_old said_new
      → RunsFeed Writes status writer_old writer_new old new errors_old errors_new said_old said_new
  runs_too Wrote Writes too run = record {
    known = run.known;
    report = λ done. too (run.report done);
    unwritten = run.unwritten;
    quiet = run.quiet;
    said = run.said;
  }

  -- the day that is made
  pub runs_live : (words : List ℕ) (day : LiveDay) → AskLive words day
      → RunsFeed (WritesItsReport day.terms.day.listing day.terms.day.matrix day.terms.day.limit) status writer_old writer_new old new errors_old errors_new said_old said_new
      → RunsFeed (WritesLiveReport words) status writer_old writer_new old new errors_old errors_new said_old said_new
  runs_live words day asked run = runs_too (WritesItsReport day.terms.day.listing day.terms.day.matrix day.terms.day.limit) (WritesLiveReport words) (λ report. (day, asked, report)) run

  -- the day that is followed
  pub runs_follow : (words : List ℕ) (day : FollowDay) → AskFollow words day
      → RunsFeed (WritesItsReport day.terms.day.listing day.terms.day.matrix day.terms.day.limit) status writer_old writer_new old new errors_old errors_new said_old said_new
      → RunsFeed (WritesFollowReport words) status writer_old writer_new old new errors_old errors_new said_old said_new
  runs_follow words day asked run = runs_too (WritesItsReport day.terms.day.listing day.terms.day.matrix day.terms.day.limit) (WritesFollowReport words) (λ report. (day, asked, report)) run

-- the status of a follower's run is that of a feed
known_follow : (ended : Result (Unit {0}) FollowFault) → IsFeedStatus (status_code (follow_status ended))
known_follow (Ok done) = inl refl
known_follow (Err fault) = known_by (Err (follow_fault fault))

-- a follower whose status is 0 has ended well
followed_by : (ended : Result (Unit {0}) FollowFault) (P : Type 0) → OnOk ended P → status_code (follow_status ended) ≡ 0 → P
followed_by (Ok done) P holds is = holds
followed_by (Err fault) P holds is = reported_by (Err (follow_fault fault)) P tt is

-- a follower that ended well has that status
well_done : (ended : Result (Unit {0}) FollowFault) → IsOk ended → follow_status ended ≡ Done
well_done (Ok done) well = refl
well_done (Err fault) well = absurd (cc well)

-- a report that was made whole only of a day that ended well
made_done : (ended : Result (Unit {0}) FollowFault) (reported : Option (Result ℕ Fault)) → IfSome reported (λ made. IfOk made (λ count. IsOk ended))
    → IfSome reported (λ made. IfOk made (λ count. follow_status ended ≡ Done))
made_done ended None well = tt
made_done ended (Some (Ok count)) well = well_done ended well
made_done ended (Some (Err why)) well = tt

module _ {W : Type 0} (listing : Names) (matrix : Matrix) (limit : ℕ) (writer_old writer_new : W) (old new : Option (List ℕ)) where
  -- a day that was followed and ended like this has that status
  pub follow_ends : (is_partial : Bool) (ended : Result (Unit {0}) FollowFault) (reported : Option (Result ℕ Fault)) (status : Status)
      → status ≡ follow_status ended → OnOk ended (WritesItsReport listing matrix limit old new)
      → IfSome reported (λ made. IfOk made (λ count. WritesReportOf listing matrix limit count old new)) → (reported ≡ None → writer_new ≡ writer_old)
      → IfSome reported (λ made. IfErr made (λ why. why ≢ Write → writer_new ≡ writer_old))
      → (is_partial ≡ false → IfSome reported (λ made. IfOk made (λ count. IsOk ended)))
      → FollowsDay listing matrix limit is_partial status writer_old writer_new old new
  follow_ends is_partial ended reported status is report whole unwritten unmade unwanted =
      subst (λ (s : Status). FollowsDay listing matrix limit is_partial s writer_old writer_new old new) (sym is) (record {
        reported = reported;
        known = known_follow ended;
        report = λ done. followed_by ended (WritesItsReport listing matrix limit old new) report (ap status_code done);
        whole = whole;
        unwritten = unwritten;
        unmade = unmade;
        unwanted = λ wanted. made_done ended reported (unwanted wanted);
      })

  -- a day whose sockets were not opened was not followed
  pub unfollowed : (is_partial : Bool) (status : Status) → status ≡ ReadFault → FollowsDay listing matrix limit is_partial status writer_old writer_old old old
  unfollowed is_partial status is = record {
    reported = None;
    known = subst (λ (s : Status). IsFeedStatus (status_code s)) (sym is) (known_by (Err Read));
    report = λ done. absurd (cc (done, is));
    whole = tt;
    unwritten = λ none. refl;
    unmade = tt;
    unwanted = λ wanted. tt;
  }

-- ## A day that is run

-- the status of a fault is the same in both enums
fault_same : (why : Fault) → status_code (ended_status (Err why)) ≡ fault_code why
fault_same Read = refl
fault_same Write = refl
fault_same Memory = refl
fault_same Worker = refl
fault_same Disagrees = refl

-- after a fault other than of a read or a write the report is whole, or nothing was written
all_or_nothing : {W : Type 0} (writer_old writer_new : W) (Report : Type 0) (ended : Result (Unit {0}) Fault) (is_whole : Bool)
    → (is_whole ≡ true → Report) → (is_whole ≡ false → IfErr ended (λ why. 4 < fault_code why → writer_new ≡ writer_old))
    → 4 < status_code (ended_status ended) → (writer_new ≡ writer_old) ⊎ Report
all_or_nothing writer_old writer_new Report (Ok done) is_whole report unwritten more = let none : 4 < 0 = more in absurd (omega (arith, none))
all_or_nothing writer_old writer_new Report (Err why) true report unwritten more = inr (report refl)
all_or_nothing writer_old writer_new Report (Err why) false report unwritten more =
    inl (unwritten refl (subst (λ (n : ℕ). 4 < n) (fault_same why) more))

-- the status of a run is never that of bad arguments
never_bad : (ended : Result (Unit {0}) Fault) → ended_status ended ≡ Bad → ⊥
never_bad (Ok done) is = absurd (cc is)
never_bad (Err Read) is = absurd (cc is)
never_bad (Err Write) is = absurd (cc is)
never_bad (Err Memory) is = absurd (cc is)
never_bad (Err Worker) is = absurd (cc is)
never_bad (Err Disagrees) is = absurd (cc is)

module _ {W : Type 0} (Report : Option (List ℕ) → Option (List ℕ) → Type 0) (writer : W) (known : Option (List ℕ)) where
  -- a day that was not run wrote nothing
  unrun : (status : Status) → (status ≡ Done → ⊥) → (status ≡ Bad) ⊎ IsFeedStatus (status_code status) → RunsDay Report status writer writer known known
  unrun status undone is = record {
    known = is;
    report = λ done. absurd (undone done);
    refused = λ bad. refl;
    whole = λ more. inl refl;
  }

  -- a day whose journal was not opened
  pub unopened_day : (status : Status) → IsJournalStatus status → RunsDay Report status writer writer known known
  unopened_day status (inl is) = rw is (unrun Bad (λ e. absurd (cc e)) (inl refl))
  unopened_day status (inr (inl is)) = rw is (unrun ReadFault (λ e. absurd (cc e)) (inr (inr (omega arith, omega arith))))
  unopened_day status (inr (inr (inl is))) = rw is (unrun WriteFault (λ e. absurd (cc e)) (inr (inr (omega arith, omega arith))))
  unopened_day status (inr (inr (inr (inl is)))) = rw is (unrun OutOfMemory (λ e. absurd (cc e)) (inr (inr (omega arith, omega arith))))
  unopened_day status (inr (inr (inr (inr is)))) = rw is (unrun of_status.Disagrees (λ e. absurd (cc e)) (inr (inr (omega arith, omega arith))))

  -- a day whose control socket was not opened
  pub uncontrolled_day : (status : Status) → IsControlStatus status → RunsDay Report status writer writer known known
  uncontrolled_day status (inl is) = unopened_day status (inr (inl is))
  uncontrolled_day status (inr (inl is)) = unopened_day status (inr (inr (inl is)))
  uncontrolled_day status (inr (inr is)) = unopened_day status (inr (inr (inr (inl is))))

  -- a day whose sockets were not opened
  pub unready_day : (status : Status) → (status ≡ ReadFault) ⊎ (status ≡ OutOfMemory) → RunsDay Report status writer writer known known
  unready_day status (inl is) = unopened_day status (inr (inl is))
  unready_day status (inr is) = unopened_day status (inr (inr (inr (inl is))))

module _ {W : Type 0} (listing : Names) (matrix : Matrix) (limit : ℕ) (writer_old writer_new : W) (old new : Option (List ℕ)) where
  -- a day that was run and ended like this has that status
  pub day_ends : (end : LiveEnd) (status : Status) → status ≡ ended_status end.result → EndsDay listing matrix limit writer_old writer_new old new end
      → RunsDay (WritesItsReport listing matrix limit) status writer_old writer_new old new
  day_ends end status is ends =
      subst (λ (s : Status). RunsDay (WritesItsReport listing matrix limit) s writer_old writer_new old new) (sym is) (record {
        known = inr (known_by end.result);
        refused = λ bad. absurd (never_bad end.result bad);
        report = λ done. ends.report (reported_by end.result (end.is_whole ≡ true) ends.whole (ap status_code done));
        whole = all_or_nothing writer_old writer_new (WritesItsReport listing matrix limit old new) end.result end.is_whole ends.report ends.unwritten;
      })
