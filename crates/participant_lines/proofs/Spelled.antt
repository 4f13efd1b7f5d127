-- Shows that a message that is read from a frame is spelled by all of it.
use Rattle.std.proofs.Common.{◌≡◌, ℕ, ◌+◌, ◌≤◌, ◌==◌, ◌||◌, List, Result, Ok, Err, cond, ltb, length, take, drop, sym, ap, subst, ◌∙◌}
use Rattle.std.proofs.Math.Seq.{take-length}
use Rattle.reports.specs.Fields.{◌>>=◌}
use Rattle.reports.specs.Reading.{announced_length, body_message, message_at, LONGEST_BODY}
use Rattle.reports.specs.Spelling.{Spells}
use Rattle.reports.specs.declared.fault.MessageFault.{MessageFault}
use Rattle.reports.specs.declared.fault.MessageFault.TheVariants as fault
use Rattle.reports.specs.declared.message.Message.{Message}
use Rattle.reports.specs.Lemmas.Fields.{passed, bind_ok, ok_is}
use Rattle.participant_lines.specs.Frames.{IsFrame}

-- a message that is read from a frame takes all of it
pub whole_message : (frame : List ℕ) (x : Message × ℕ) → IsFrame frame → Ok x ≡ message_at frame → x.1 ≡ length frame
unfolding message_at
whole_message frame x is read =
    let len = announced_length frame in
    let inner = take len (drop 2 frame) in
    let body : Result (Message × ℕ) MessageFault = body_message inner >>= λ m. Ok (m, 2 + len) in
    let within = cond (ltb (length frame) (2 + len)) (Err fault.Short) body in
    let g1 = passed (ltb (length frame) 2) fault.Short (cond ((len == 0) || ltb LONGEST_BODY len) (Err fault.Oversize) within) x (sym read) in
    let g2 = passed ((len == 0) || ltb LONGEST_BODY len) fault.Oversize within x g1.1 in
    let g3 = passed (ltb (length frame) (2 + len)) fault.Short body x g2.1 in
    let b = bind_ok (body_message inner) (λ m. Ok (m, 2 + len)) x g3.1 in
    ap (λ (y : Message × ℕ). y.1) (sym (ok_is fault.Short (b.0, 2 + len) x b.2)) ∙ sym is.whole

-- a message that is read from a frame is spelled by all of it
pub spelled : (frame : List ℕ) (x : Message × ℕ) → IsFrame frame → Ok x ≡ message_at frame → (x.1 ≤ length frame) × Spells (take x.1 frame) x.0
    → Spells frame x.0
spelled frame x is read found =
    subst (λ (l : List ℕ). Spells l x.0) (ap (λ (n : ℕ). take n frame) (whole_message frame x is read) ∙ take-length frame) found.1
