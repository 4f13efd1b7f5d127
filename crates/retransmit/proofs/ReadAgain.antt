-- An answer's bytes are read as that answer.
use Rattle.std.proofs.Common.{◌≡◌, ℕ, ◌+◌, ◌-◌, ◌*◌, ◌≤◌, ◌<◌, List, ◌∷◌, ◌++◌, Result}
use Rattle.std.proofs.Common.{Ok, Err, length, lit<, take, drop, refl, sym, ap, ◌∙◌, arith, inl, inr}
use Rattle.std.specs.Prelude.{All, OnOk, flat_map, nat_le, nat_lt, ◌==◌, ◌||◌, ◌&&◌}
use Rattle.std.specs.Int.{w8, w16, w32, w64, to_be_bytes}
use Rattle.std.proofs.lemmas.Bool.{and_parts, cases_Bool, eqb-false, leb-true, ltb-false, or_parts}
use Rattle.std.proofs.lemmas.List.{length-take}
use Rattle.std.proofs.lemmas.List.Elements.{All-take, All-drop}
use Rattle.reports.specs.Fields.{◌>>=◌, Reads, number_at, ranged_at}
use Rattle.reports.specs.Lemmas.Fields.{bind_ok, chosen, number_reader, ok_is, wide8}
use Rattle.tape_core.specs.declared.entry.Entry.{Entry}
use Rattle.tape_frames.specs.declared.request.Request.{Request}
use Rattle.tape_frames.specs.declared.request_fault.RequestFault.{RequestFault}
use Rattle.tape_frames.specs.declared.request_fault.RequestFault.TheVariants as request
use Rattle.tape_frames.specs.Limits.{IsSpan, LONGEST_SPAN, LONGEST_PACKET}
use Rattle.tape_frames.specs.declared.version.Version.{Version}
use Rattle.tape_frames.specs.declared.version.Version.TheVariants.{Two}
use Rattle.tape_frames.specs.Sources.{sendable}
use Rattle.tape_frames.specs.Spelling.{packet_text}
use Rattle.tape_frames.specs.Versions.{entries_most, number_most}
use Rattle.tape_frames.specs.Lemmas.Versions.{longest_packet-within}
use Rattle.tape_frames.specs.Requests.{request_at, request_of}
use Rattle.tape_frames.specs.Spelling.{IsEntry}
use Rattle.retransmit.specs.Answers.{IsAnswer, answer_of, framed, given_text, last_sendable, packet_count, packet_cut, range_packets, range_text}
use Rattle.retransmit.specs.Asking.{answer_at, answered_at}
use Rattle.retransmit.specs.Faults.{refusal_code}
use Rattle.retransmit.specs.Laws.{ArePackets, EachAnswerIsRead}
use Rattle.retransmit.specs.Replies.{IsReadAgain, given_packets}
use Rattle.retransmit.specs.declared.ask_fault.AskFault.{AskFault}
use Rattle.retransmit.specs.declared.ask_fault.AskFault.TheVariants as fault
use Rattle.retransmit.specs.declared.reply.Answer.{Answer}
use Rattle.retransmit.specs.declared.reply.Answer.TheVariants.{Refused, Range}
use Rattle.retransmit.specs.declared.refusal.RequestRefusal.{RequestRefusal}
use Rattle.retransmit.specs.declared.refusal.RequestRefusal.TheVariants.{OtherSession, Beyond, BadSpan}
use Rattle.retransmit.proofs.LawProofs.{answers_are_read, packet_count-few}
use Rattle.retransmit.proofs.PacketRuns.{ArePackets-short, length-packet_texts}
use Rattle.tape_frames.specs.Lemmas.Lengths.{length-data_text}

-- a fact that holds whatever the result
pub OnOk-always : {A E P : Type 0} (r : Result A E) → P → OnOk r P
OnOk-always (Ok x) p = p
OnOk-always (Err e) p = tt

-- a fact that follows from one that holds if the result is Ok
pub OnOk-then : {A E P Q : Type 0} (r : Result A E) → (P → Q) → OnOk r P → OnOk r Q
OnOk-then (Ok x) f p = f p
OnOk-then (Err e) f p = tt

-- after its first byte, an answer is read by that byte
after_first : (first : ℕ) (rest : List ℕ) → first < 256 → answer_at (to_be_bytes w8 first ++ rest) ≡ answered_at first rest
unfolding answer_at
after_first first rest byte =
    ap (λ (r : Result (ℕ × List ℕ) AskFault). r >>= λ x. answered_at x.0 x.1) ((number_reader fault.ReadFault wide8).again first rest byte)

-- a refusal's byte is read as that refusal
refusal_is_read : (refusal : RequestRefusal) (rest : List ℕ) → answer_at (refusal_code refusal ∷ rest) ≡ Err (fault.Refused refusal)
unfolding answered_at
refusal_is_read OtherSession rest = after_first (refusal_code OtherSession) rest (lit< tt)
refusal_is_read Beyond rest = after_first (refusal_code Beyond) rest (lit< tt)
refusal_is_read BadSpan rest = after_first (refusal_code BadSpan) rest (lit< tt)

-- the packets of an answer are as long as packets may be
abbrev pub IsShort : List Entry → ℕ → Version → Answer → Type 0
IsShort es session version (Refused refusal) = Unit {0}
IsShort es session version (Range from to) = ArePackets (range_packets es session version from to)

-- a range is read as its packets
range_is_read : (es : List Entry) (session : ℕ) (version : Version) (from to : ℕ) → from ≤ to → to < from + LONGEST_SPAN → ArePackets (range_packets es session version from to) → (rest : List ℕ)
    → answer_at (range_text es session version from to ++ rest) ≡ Ok (range_packets es session version from to, rest)
range_is_read es session version from to order few short rest =
    let texts = range_packets es session version from to in
    let count : length texts ≡ packet_count version from to = length-packet_texts (packet_count version from to) session version (take to es) from in
    let below = packet_count-few version from to order few in
    let read = answers_are_read texts rest (omega (arith, count)) (omega (arith, count, below)) short in
    ap (λ (n : ℕ). answer_at (0 ∷ n ∷ (flat_map framed texts ++ rest))) (sym count) ∙ read

-- each answer is read again
given_is_read : (es : List Entry) (session : ℕ) (version : Version) (a : Answer) → IsAnswer version es a → IsShort es session version a → (rest : List ℕ)
    → Reads (given_packets es session version a) rest (answer_at (given_text es session version a ++ rest))
given_is_read es session version (Refused refusal) is short rest = refusal_is_read refusal rest
given_is_read es session version (Range from to) is short rest = range_is_read es session version from to is.1 is.2 short rest

-- the answer to a request is read again
pub answer_is_read : (es : List Entry) (session : ℕ) (version : Version) (bytes : List ℕ) (r : Request) (a : Answer) → request_of bytes ≡ Ok r
    → answer_of es session version r ≡ a → IsAnswer version es a → IsShort es session version a → IsReadAgain es session version bytes
answer_is_read es session version bytes r a read is within short rest = rw (read, is) (given_is_read es session version a within short rest)

-- the answer to bytes that are not a request is read again
pub fault_is_read : (es : List Entry) (session : ℕ) (version : Version) (bytes : List ℕ) (bad : RequestFault) → request_of bytes ≡ Err bad → IsReadAgain es session version bytes
fault_is_read es session version bytes request.BadSpan read rest = rw read (refusal_is_read BadSpan rest)

-- ---- over any entries whose fields are in their ranges

-- a request asks for a span of entries
request_span : (bytes : List ℕ) (r : Request) → request_of bytes ≡ Ok r → IsSpan r.count
unfolding request_of request_at ranged_at
request_span bytes r read =
    let all = bind_ok (request_at bytes) (λ (x : Request × List ℕ). Ok x.0) r read in
    let session = bind_ok (number_at request.BadSpan w64 bytes) _ all.0 all.1 in
    let from = bind_ok (number_at request.BadSpan w32 session.0.1) _ all.0 session.2 in
    let count = bind_ok (ranged_at request.BadSpan w16 1 LONGEST_SPAN request.BadSpan from.0.1) _ all.0 from.2 in
    let number = bind_ok (number_at request.BadSpan w16 from.0.1) _ count.0 count.1 in
    let good = chosen (nat_le 1 number.0.0 && nat_le number.0.0 LONGEST_SPAN) request.BadSpan number.0 count.0 number.2 in
    let range = and_parts (nat_le 1 number.0.0) (nat_le number.0.0 LONGEST_SPAN) good.0 in
    let is : number.0.0 ≡ r.count = ap (λ (x : ℕ × List ℕ). x.0) good.1 ∙ ap (λ (x : Request × List ℕ). x.0.count) (ok_is request.BadSpan _ all.0 count.2)
    ∙ ap (λ (x : Request). x.count) (ok_is request.BadSpan all.0.0 r all.2) in
    (omega (arith, leb-true _ _ range.0, is), omega (arith, leb-true _ _ range.1, is))

-- the answer to a request satisfies `IsAnswer`
answer_within : (es : List Entry) (session : ℕ) (version : Version) (r : Request) → IsSpan r.count → IsAnswer version es (answer_of es session version r)
answer_within es session version r span = elim (cases_Bool (r.session == session)) [
  | inl same ↦ elim (cases_Bool ((r.from == 0) || nat_lt (last_sendable version es) r.from)) [
    | inl beyond ↦ rw (same, beyond) tt
    | inr there ↦
        let tests = or_parts (r.from == 0) (nat_lt (last_sendable version es) r.from) there in
        let some : 1 ≤ r.from = omega (arith, eqb-false r.from 0 tests.0) in
        let known : r.from ≤ last_sendable version es = ltb-false _ _ tests.1 in
        rw (same, there) (some, omega (arith, span.0, known), omega (arith, span.1), omega arith)
  ]
  | inr other ↦ rw other tt
]

-- a cut packet is as long as packets may be
cut_short : (session : ℕ) (version : Version) (es : List Entry) (from : ℕ) → All (IsEntry Two) es
    → length (packet_text (packet_cut session version es from)) ≤ LONGEST_PACKET
cut_short session version es from all =
    let left = drop (from - 1) (sendable version es) in
    let many = entries_most version in
    let cut : All (IsEntry Two) (take many left) =
    All-take (IsEntry Two) many left (All-drop (IsEntry Two) (from - 1) (sendable version es) (All-take (IsEntry Two) (number_most version) es all)) in
    let short : length (take many left) ≤ many = omega (arith, length-take many left) in
    let long = length-data_text Two session (record { version = version; entries = take many left }) cut short in
    omega (arith, long, longest_packet-within version)

-- an answer's packets are as long as packets may be
answer_short : (es : List Entry) (session : ℕ) (version : Version) (a : Answer) → All (IsEntry Two) es → IsShort es session version a
answer_short es session version (Refused refusal) all = tt
answer_short es session version (Range from to) all =
    ArePackets-short (packet_count version from to) session version (take to es) from (λ k lt. cut_short session version (take to es)
    (from + entries_most version * k) (All-take (IsEntry Two) to es all))

-- whether a request or a fault was read, the answer is read again
read_cases : (es : List Entry) (session : ℕ) (version : Version) (bytes : List ℕ) (read : Result Request RequestFault) → request_of bytes ≡ read → All (IsEntry Two) es
    → IsReadAgain es session version bytes
read_cases es session version bytes (Ok r) is all =
    let a = answer_of es session version r in
    answer_is_read es session version bytes r a is refl (answer_within es session version r (request_span bytes r is)) (answer_short es session version a all)
read_cases es session version bytes (Err bad) is all = fault_is_read es session version bytes bad is

-- the answer to any request is read again
pub each_answer_is_read : EachAnswerIsRead
each_answer_is_read es session version bytes all = read_cases es session version bytes (request_of bytes) refl all
