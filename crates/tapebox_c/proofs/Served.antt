-- Serves one request of bytes in memory.
use Rattle.std.proofs.Common.{◌≡◌, ℕ, ◌+◌, List, [], ◌∷◌, ◌++◌, ◌∙◌, Option, Some, None, append-nil, length, length-append, sym, ap, subst, arith}
use Rattle.std.specs.List.{concat}
use Rattle.std.specs.Io.KnownBytes.{IsAtEnd}
use Rattle.tape_core.specs.declared.entry.Entry.{Entry}
use Rattle.tape_frames.specs.Limits.{REQUEST_LENGTH}
use Rattle.tape_frames.specs.Sources.{BeginsWith}
use Rattle.tape_frames.specs.declared.version.Version.{Version}
use Rattle.retransmit.specs.Answers.{answer_text}
use Rattle.retransmit.specs.Serving.{Answered, Serves, ServesTo}
use Rattle.retransmit.specs.declared.serve_end.Ended.{Ended}
use Rattle.retransmit.specs.declared.serve_end.Ended.TheVariants.{Clean}

-- a list that is no longer than its front is that front
no_more : (a r : List Entry) → length (a ++ r) ≡ length a → a ++ r ≡ a
no_more a [] same = append-nil a
no_more a (x ∷ r) same = absurd (omega (arith, same, length-append a (x ∷ r)))

same_list : (a b : List Entry) → BeginsWith a b → length b ≡ length a → b ≡ a
same_list a b begins same = begins.1 ∙ no_more a begins.0 (ap (λ (l : List Entry). length l) (sym begins.1) ∙ same)

-- a list between two of one length is the first of them
between : (a b c : List Entry) → BeginsWith a b → BeginsWith b c → length c ≡ length a → b ≡ a
between a b c first second same =
    let long : length b ≡ length a + length first.0 = ap (λ (l : List Entry). length l) first.1 ∙ length-append a first.0 in
    let longer : length c ≡ length b + length second.0 = ap (λ (l : List Entry). length l) second.1 ∙ length-append b second.0 in
    same_list a b first (omega (arith, long, longer, same))

-- the answer to bytes that are one request
one_answered : (session : ℕ) (version : Version) (first last : List Entry) (requests : List (List ℕ)) (text bytes : List ℕ) → Answered session version first last requests text
    → bytes ≡ concat requests → length bytes ≡ REQUEST_LENGTH → length last ≡ length first → text ≡ answer_text first session version bytes
unfolding Answered
one_answered session version first last [] text bytes answered is size same =
    absurd (omega (arith, size, ap (λ (l : List ℕ). length l) is))
one_answered session version first last (r ∷ []) text bytes answered is size same =
    let list : answered.0 ≡ first = between first answered.0 last answered.2 answered.6.0 same in
    let request : r ≡ bytes = sym (is ∙ append-nil r) in
    answered.4
    ∙ ap (λ (l : List ℕ). answer_text answered.0 session version r ++ l) answered.6.1
    ∙ append-nil (answer_text answered.0 session version r)
    ∙ ap (λ (es : List Entry). answer_text es session version r) list
    ∙ ap (λ (l : List ℕ). answer_text first session version l) request
one_answered session version first last (r ∷ s ∷ rs) text bytes answered is size same =
    absurd (omega (
      arith,
      size,
      ap (λ (l : List ℕ). length l) is,
      length-append r (s ++ concat rs),
      length-append s (concat rs),
      answered.3,
      answered.6.3,
    ))

-- what was written if bytes that are one request were served to their end
serves_one : (session : ℕ) (version : Version) (first last : List Entry) (bytes text : List ℕ) (rest : Option (List ℕ)) (served : ℕ)
    → Serves session version first last (Some bytes) rest (Some []) (Some text) served → IsAtEnd rest → length bytes ≡ REQUEST_LENGTH → length last ≡ length first
    → text ≡ answer_text first session version bytes
serves_one session version first last bytes text None served serves end size same = absurd serves.read
serves_one session version first last bytes text (Some left) served serves end size same =
    let all : bytes ≡ concat serves.requests =
    serves.read ∙ ap (λ (l : List ℕ). concat serves.requests ++ l) end ∙ append-nil (concat serves.requests) in
    serves.written ∙ one_answered session version first last serves.requests serves.text bytes serves.answered all size same

-- the same, by the end of the serving
pub served_one : (ended : Ended) (session : ℕ) (version : Version) (first last : List Entry) (bytes start text : List ℕ) (rest : Option (List ℕ)) (served : ℕ)
    → ServesTo ended session version first last (Some bytes) rest (Some start) (Some text) served → ended ≡ Clean → start ≡ [] → length bytes ≡ REQUEST_LENGTH
    → length last ≡ length first → text ≡ answer_text first session version bytes
served_one ended session version first last bytes start text rest served serves clean empty size same =
    let to : ServesTo Clean session version first last (Some bytes) rest (Some start) (Some text) served =
    subst (λ (e : Ended). ServesTo e session version first last (Some bytes) rest (Some start) (Some text) served) clean serves in
    let from_none = subst (λ (l : List ℕ). Serves session version first last (Some bytes) rest (Some l) (Some text) served) empty to.0 in
    serves_one session version first last bytes text rest served from_none to.1 size same
