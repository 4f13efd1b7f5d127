use Rattle.std.proofs.Common.{◌≡◌, ◌+◌, ◌++◌, ◌-◌, ◌%◌, ◌==◌, ◌∙◌, List, ℕ, true, false, Ok, Err, ap, drop, length, subst, sym, take, arith, rules}
use Rattle.std.proofs.lemmas.Bool.{eq-eqb, ne_eqb}
use Rattle.std.proofs.lemmas.List.{take_rest}
use Rattle.std.proofs.lemmas.Result.{err_from_is_err_and}
use Rattle.tape_core.specs.declared.entry.Entry.{Entry}
use Rattle.tape_frames.specs.Limits.{ENTRIES_MOST}
use Rattle.tape_frames.specs.Reading.{packet_of}
use Rattle.day_journal.specs.GroupReading.{frame_length, next_row, packets_at}
use Rattle.day_journal.proofs.ReadPackets.{packets_mark, packets_next, packets_none, packets_not_full, packets_other, packets_stop}
use Rattle.day_journal.proofs.group_reading.read_packets.Goals as goal

pub returns-in_err-len-clause-read : goal.returns-in_err-len-clause-read
returns-in_err-len-clause-read c =
    let p = err_from_is_err_and c.from_residual.result c.from_residual.ensures.1 in
    let rest = c.loop-place.unread.rest.now in
    let es = c.loop-place.entries.items in
    let f = c.in_err-len.field-0.0 in
    let many : c.len.result ≡ length es = search rules in
    let read : frame_length c.args.session (c.args.held + length es + 1) rest ≡ Err f =
    subst (λ (n : ℕ). frame_length c.args.session (c.args.held + n + 1) rest ≡ Err f) many (sym c.in_err-len.ensures.exact) in
    let stops = packets_stop (length c.args.unread.now.rest.now) c.loop-place.place c.args.session c.args.held es rest f c.loop-place-test.true read in
    rw (p.1, p.2) (λ some. sym c.loop-place.invariant.left ∙ stops)

pub returns-then-len-eq0-clause-read : goal.returns-then-len-eq0-clause-read
returns-then-len-eq0-clause-read c =
    let rest = c.loop-place.unread.rest.now in
    let es = c.loop-place.entries.items in
    let many : c.len.result ≡ length es = search rules in
    let read : frame_length c.args.session (c.args.held + length es + 1) rest ≡ Ok c.in_ok-len.len =
    subst (λ (n : ℕ). frame_length c.args.session (c.args.held + n + 1) rest ≡ Ok c.in_ok-len.len) many (sym c.in_ok-len.ensures.exact) in
    let mark = packets_mark (length c.args.unread.now.rest.now) c.loop-place.place c.args.session c.args.held es rest c.in_ok-len.len c.loop-place-test.true
    read (eq-eqb c.in_ok-len.len 0 c.if-len-eq0.true) in
    sym c.loop-place.invariant.left ∙ mark ∙ ap (λ (t : List ℕ). Ok (es, t)) (sym (take_rest rest 2))

pub returns-then-len-ne0-clause-read : goal.returns-then-len-ne0-clause-read
returns-then-len-ne0-clause-read c =
    let rest = c.loop-place.unread.rest.now in
    let es = c.loop-place.entries.items in
    let many : c.len.result ≡ length es = search rules in
    let read : frame_length c.args.session (c.args.held + length es + 1) rest ≡ Ok c.in_ok-len.len =
    subst (λ (n : ℕ). frame_length c.args.session (c.args.held + n + 1) rest ≡ Ok c.in_ok-len.len) many (sym c.in_ok-len.ensures.exact) in
    let again : c.len-in-loop-place.result ≡ length es = search rules in
    let full : (length es % ENTRIES_MOST == 0) ≡ false =
    ne_eqb (length es % ENTRIES_MOST) 0 (λ is. c.if-len-ne0.true (ap (λ (n : ℕ). n % ENTRIES_MOST) again ∙ is)) in
    let stops = packets_not_full (length c.args.unread.now.rest.now) c.loop-place.place c.args.session c.args.held es rest c.in_ok-len.len c.loop-place-test.true
    read (ne_eqb c.in_ok-len.len 0 c.if-len-eq0.false) full in
    λ some. sym c.loop-place.invariant.left ∙ stops

pub returns-in_err-read_row-clause-read : goal.returns-in_err-read_row-clause-read
returns-in_err-read_row-clause-read c =
    let p = err_from_is_err_and c.from_residual-in_err-read_row.result c.from_residual-in_err-read_row.ensures.1 in
    let rest = c.loop-place.unread.rest.now in
    let es = c.loop-place.entries.items in
    let len = c.in_ok-len.len in
    let f = c.in_err-read_row.field-0.0 in
    let many : c.len.result ≡ length es = search rules in
    let length_read : frame_length c.args.session (c.args.held + length es + 1) rest ≡ Ok len =
    subst (λ (n : ℕ). frame_length c.args.session (c.args.held + n + 1) rest ≡ Ok len) many (sym c.in_ok-len.ensures.exact) in
    let again : c.len-in-loop-place.result ≡ length es = search rules in
    let number : c.args.held + c.len.result + 1 ≡ c.args.held + length es + 1 = omega (arith, many) in
    let size : 2 + len - 2 ≡ len = omega arith in
    let full : (length es % ENTRIES_MOST == 0) ≡ true = eq-eqb (length es % ENTRIES_MOST) 0 (omega (arith, again, c.if-len-ne0.false)) in
    rw (p.1, p.2) (λ some.
    let row : next_row c.args.session (c.args.held + length es + 1) (packet_of (take len (drop 2 rest))) ≡ Err f =
    subst (λ (k : ℕ). next_row c.args.session (c.args.held + length es + 1) (packet_of (take k (drop 2 rest))) ≡ Err f) size
    (subst (λ (k : ℕ). next_row c.args.session k (packet_of (take (2 + len - 2) (drop 2 rest))) ≡ Err f) number (c.in_err-read_row.ensures.row some)) in
    sym c.loop-place.invariant.left
    ∙ packets_other (length c.args.unread.now.rest.now) c.loop-place.place c.args.session c.args.held es rest len f c.loop-place-test.true
    length_read (ne_eqb len 0 c.if-len-eq0.false) full row)

pub loop-place-preserved : goal.loop-place-preserved
loop-place-preserved c =
    let rest = c.loop-place.unread.rest.now in
    let es = c.loop-place.entries.items in
    let len = c.in_ok-len.len in
    let count = length c.args.unread.now.rest.now in
    let left = count - (c.loop-place.place + 1) in
    let read = c.in_ok-read_row.ensures.row in
    let many : c.len.result ≡ length es = search rules in
    let length_read : frame_length c.args.session (c.args.held + length es + 1) rest ≡ Ok len =
    subst (λ (n : ℕ). frame_length c.args.session (c.args.held + n + 1) rest ≡ Ok len) many (sym c.in_ok-len.ensures.exact) in
    let again : c.len-in-loop-place.result ≡ length es = search rules in
    let number : c.args.held + c.len.result + 1 ≡ c.args.held + length es + 1 = omega (arith, many) in
    let size : 2 + len - 2 ≡ len = omega arith in
    let full : (length es % ENTRIES_MOST == 0) ≡ true = eq-eqb (length es % ENTRIES_MOST) 0 (omega (arith, again, c.if-len-ne0.false)) in
    let row : next_row c.args.session (c.args.held + length es + 1) (packet_of (take len (drop 2 rest))) ≡ Ok read.0 =
    subst (λ (k : ℕ). next_row c.args.session (c.args.held + length es + 1) (packet_of (take k (drop 2 rest))) ≡ Ok read.0) size
    (subst (λ (k : ℕ). next_row c.args.session k (packet_of (take (2 + len - 2) (drop 2 rest))) ≡ Ok read.0) number read.1) in
    record {
      left =
          ap (λ (xs : List Entry). packets_at left c.args.session c.args.held xs (take (length rest - (2 + len)) (drop (2 + len) rest))) read.2
          ∙ ap (λ (t : List ℕ). packets_at left c.args.session c.args.held (es ++ read.0) t) (take_rest rest (2 + len))
          ∙ packets_next count c.loop-place.place c.args.session c.args.held es read.0 rest len c.loop-place-test.true length_read
          (ne_eqb len 0 c.if-len-eq0.false) full row
          ∙ c.loop-place.invariant.left;
      within = omega (arith, number, c.in_ok-read_row.ensures.within);
    }

pub returns-clause-read : goal.returns-clause-read
returns-clause-read c =
    λ some. sym c.loop-place.invariant.left
    ∙ packets_none (length c.args.unread.now.rest.now) c.loop-place.place c.args.session c.args.held c.loop-place.entries.items c.loop-place.unread.rest.now
    c.loop-place-test.false
