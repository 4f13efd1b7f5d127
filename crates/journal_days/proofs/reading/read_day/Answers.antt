use Rattle.std.proofs.Common.{ℕ, ◌∙◌, ap, drop}
use Rattle.std.proofs.lemmas.Result.{err_from_is_err_and}
use Rattle.tape_core.specs.Tape.{empty_tape}
use Rattle.day_journal.specs.Journals.{ReaderState, all_groups, reader_at}
use Rattle.journal_days.proofs.DayLemmas.{all_turns, damage_made, day_made, no_header, stop_made}
use Rattle.journal_days.proofs.reading.read_day.Goals as goal

pub returns-in_err-header-clause-fault : goal.returns-in_err-header-clause-fault
returns-in_err-header-clause-fault c =
    let p = err_from_is_err_and c.from_residual.result c.from_residual.ensures.1 in
    rw p.1 (no_header c.args.asked c.args.bytes.now c.in_err-header.field-0.0 p.0 c.in_err-header.ensures.exact p.2)

pub returns-clause-day : goal.returns-clause-day
returns-clause-day c =
    let h = c.in_ok-header.header in
    let state = c.new-groups.ensures.state in
    let all =
    all_turns c.args.bytes.now h.len c.new-groups.result (ap (λ (r : ReaderState). r.rest) state)
    ∙ ap all_groups (state ∙ ap (λ (n : ℕ). reader_at h.day.session 0 h.digest n (drop n c.args.bytes.now)) c.in_ok-header.ensures.exact.1) in
    day_made c.args.asked c.args.bytes.now _ c.in_ok-header.ensures.exact.2 c.in_default.ensures c.in-Ok.tape (c.in-Ok.ensures.ok ∙ ap (λ (limit : ℕ). empty_tape h.day.listing limit h.day.matrix) c.value.ensures.value) _ all
    c.in_ok-end.end c.replay_groups.new.tape c.day_of.result c.in_ok-end.ensures.end c.in_ok-end.ensures.tape c.day_of.ensures.ends

pub returns-clause-fault : goal.returns-clause-fault
returns-clause-fault c =
    let h = c.in_ok-header.header in
    let state = c.new-groups.ensures.state in
    let all =
    all_turns c.args.bytes.now h.len c.new-groups.result (ap (λ (r : ReaderState). r.rest) state)
    ∙ ap all_groups (state ∙ ap (λ (n : ℕ). reader_at h.day.session 0 h.digest n (drop n c.args.bytes.now)) c.in_ok-header.ensures.exact.1) in
    damage_made c.args.asked c.args.bytes.now _ c.in_ok-header.ensures.exact.2 c.in_default.ensures c.in-Ok.tape (c.in-Ok.ensures.ok ∙ ap (λ (limit : ℕ). empty_tape h.day.listing limit h.day.matrix) c.value.ensures.value) _ all
    c.in_ok-end.end c.replay_groups.new.tape c.day_of.result c.in_ok-end.ensures.end c.in_ok-end.ensures.tape c.day_of.ensures.ends

pub returns-in_err-end-clause-fault : goal.returns-in_err-end-clause-fault
returns-in_err-end-clause-fault c =
    let p = err_from_is_err_and c.from_residual-in_err-end.result c.from_residual-in_err-end.ensures.1 in
    let h = c.in_ok-header.header in
    let state = c.new-groups.ensures.state in
    let all =
    all_turns c.args.bytes.now h.len c.new-groups.result (ap (λ (r : ReaderState). r.rest) state)
    ∙ ap all_groups (state ∙ ap (λ (n : ℕ). reader_at h.day.session 0 h.digest n (drop n c.args.bytes.now)) c.in_ok-header.ensures.exact.1) in
    rw (p.1, p.2) (stop_made c.args.asked c.args.bytes.now _ c.in_ok-header.ensures.exact.2 c.in_default.ensures c.in-Ok.tape (c.in-Ok.ensures.ok ∙ ap (λ (limit : ℕ). empty_tape h.day.listing limit h.day.matrix) c.value.ensures.value) _ all
    c.in_err-end.field-0.0 c.in_err-end.ensures.stops)
