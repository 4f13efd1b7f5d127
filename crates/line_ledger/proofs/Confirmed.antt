-- Confirmed tokens of the first cells show the tape's first entries, so packets cut from them are cut from the tape.
use Rattle.std.proofs.Common.{◌≡◌, ℕ, suc, ◌+◌, ◌-◌, ◌<◌, ◌≤◌, List, [], ◌∷◌, length, length-append, slice_get, slice_index_or, Some}
use Rattle.std.proofs.Common.{refl, subst, ap, ◌∙◌, arith}
use Rattle.std.proofs.lemmas.List.{length-map}
use Rattle.std.proofs.lemmas.Option.{none-some, same_Some}
use Rattle.tape_core.specs.declared.entry.Entry.{Entry}
use Rattle.tape_core.specs.Tape.{TapeState}
use Rattle.tape_frames.specs.declared.version.Version.{Version}
use Rattle.tape_frames.specs.Sources.{BeginsWith, cut_of}
use Rattle.line_ledger.specs.Cells.{TokenState, FirstTokens, HaveAll, shown}
use Rattle.tape_frames.specs.Cuts.{IsPartOf}
use Rattle.tape_frames.specs.Lemmas.Cuts.{cut_is_part}

-- entries that have each token's entry at its place begin with what the tokens show
begins : (tokens : List TokenState) (entries : List Entry)
    → ((i : ℕ) (d : TokenState) → i < length tokens → slice_get entries i ≡ Some (slice_index_or tokens i d).entry) → BeginsWith (shown tokens) entries
begins [] entries each = (entries, refl)
begins (t ∷ ts) [] each = absurd (none-some t.entry (each 0 t (omega arith)))
begins (t ∷ ts) (e ∷ es) each =
    let here : e ≡ t.entry = same_Some e t.entry (each 0 t (omega arith)) in
    let rest : BeginsWith (shown ts) es = begins ts es (λ i d low. each (suc i) d (omega (arith, low))) in
    (rest.0, ap (λ x. x ∷ es) here ∙ ap (λ xs. t.entry ∷ xs) rest.1)

-- confirmed tokens of the first cells show the first entries
pub prefix : (names : List ℕ) (tokens : List TokenState) (entries : List Entry) → FirstTokens names tokens → HaveAll entries tokens
    → BeginsWith (shown tokens) entries
prefix names tokens entries first all = begins tokens entries (λ i d low.
    let number : (slice_index_or tokens i d).number ≡ i + 1 = (first i d low).1 in
    let place : (slice_index_or tokens i d).number - 1 ≡ i = omega (arith, number) in
    subst (λ n. slice_get entries n ≡ Some (slice_index_or tokens i d).entry) place (all i d low))

-- a packet cut from the entries that are shown is cut from the tape
pub data_cut : (version : Version) (names : List ℕ) (tokens : List TokenState) (t : TapeState) (from : ℕ) → FirstTokens names tokens → HaveAll t.entries tokens
    → IsPartOf (cut_of version (shown tokens) from) t.entries
data_cut version names tokens t from first all = cut_is_part version (shown tokens) t.entries from (prefix names tokens t.entries first all)

-- there are no more tokens than entries
pub as_many : (names : List ℕ) (tokens : List TokenState) (t : TapeState) (last : ℕ) → FirstTokens names tokens → HaveAll t.entries tokens
    → last ≤ length tokens → last ≤ length t.entries
as_many names tokens t last first all low =
    let begin = prefix names tokens t.entries first all in
    let whole : length t.entries ≡ length (shown tokens) + length begin.0 = ap length begin.1 ∙ length-append (shown tokens) begin.0 in
    let shorter : length (shown tokens) ≡ length tokens = length-map tokens (λ (t : TokenState). t.entry) in
    omega (arith, low, whole, shorter)
