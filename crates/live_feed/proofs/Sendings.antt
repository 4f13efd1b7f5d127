-- What was sent, and what it was cut from.
use Rattle.std.proofs.Common.{◌≡◌, ℕ, ◌+◌, ◌-◌, ◌<◌, ◌≤◌, List, [], ◌∷◌, length, length-drop, length-take, drop, get_or, Some, arith, refl, sym, ap, subst, ◌∙◌}
use Rattle.std.specs.Prelude.{slice_get}
use Rattle.std.proofs.Math.ListN.{length-map}
use Rattle.std.proofs.lemmas.List.{get_or-drop, get_or-map, get_or-take, same_lists}
use Rattle.std.proofs.lemmas.Option.{get_or_from_slice_get, slice_get-get_or}
use Rattle.line_ledger.specs.Cells.{FirstTokens, HaveAll, TokenState, shown}
use Rattle.tape_core.specs.declared.entry.Entry.{Entry}
use Rattle.tape_frames.specs.declared.packet.Packet.{Packet}
use Rattle.tape_frames.specs.declared.packet.Packet.TheVariants.{Data}
use Rattle.tape_frames.specs.declared.version.Version.{Version}
use Rattle.tape_frames.specs.declared.version.Version.TheVariants.{Two}
use Rattle.tape_frames.specs.PacketEntries.{IsNumberedFrom, IsRow, first_number, last_number}
use Rattle.tape_frames.specs.Lemmas.Numbers.{number_at_place}
use Rattle.tape_frames.specs.Packets.{HasNumbers, last_of}
use Rattle.tape_frames.specs.Sources.{cut_of, sendable}
use Rattle.tape_frames.specs.Versions.{entries_most, number_most}

-- the first number is that of the first
first_at : (es : List Entry) (d : Entry) → 1 ≤ length es → first_number es ≡ (get_or es 0 d).number
first_at [] d some = absurd (omega arith)
first_at (e ∷ es) d some = refl

-- what is cut from a number on begins with it
cut_first : (version : Version) (es : List Entry) (from : ℕ) (d : Entry) → IsNumberedFrom 1 es → 1 ≤ from → 1 ≤ length (cut_of version es from)
    → first_number (cut_of version es from) ≡ from
cut_first version es from d numbered first some =
    let list = sendable version es in
    let left = drop (from - 1) list in
    let within : 0 < entries_most version = omega (arith, length-take {A = Entry} (entries_most version) left, some) in
    let short : from - 1 < length list = omega (arith, length-take {A = Entry} (entries_most version) left, length-drop {A = Entry} (from - 1) list, some) in
    let low : from - 1 < number_most version = omega (arith, length-take {A = Entry} (number_most version) es, short) in
    let long : from - 1 < length es = omega (arith, length-take {A = Entry} (number_most version) es, short) in
    let there : get_or (cut_of version es from) 0 d ≡ get_or es (from - 1) d =
    get_or-take (entries_most version) left 0 d within ∙ get_or-drop (from - 1) list 0 d
    ∙ ap (λ k. get_or list k d) (let k : (from - 1) + 0 ≡ from - 1 = omega arith in k) ∙ get_or-take (number_most version) es (from - 1) d low in
    let number : (get_or es (from - 1) d).number ≡ 1 + (from - 1) =
    number_at_place 1 es (from - 1) (get_or es (from - 1) d) numbered (slice_get-get_or es (from - 1) d long) in
    first_at (cut_of version es from) d some ∙ ap (λ (e : Entry). e.number) there ∙ number ∙ omega (arith, first)

-- no more is cut than is left
cut_short : (version : Version) (es : List Entry) (from : ℕ) → length (cut_of version es from) ≤ length es - (from - 1)
cut_short version es from =
    let list = sendable version es in
    let left = drop (from - 1) list in
    omega (arith, length-take {A = Entry} (entries_most version) left, length-drop {A = Entry} (from - 1) list, length-take {A = Entry} (number_most version) es)

-- so it ends within the list
cut_ends : (version : Version) (es : List Entry) (from : ℕ) → IsNumberedFrom 1 es → 1 ≤ from → 1 ≤ length (cut_of version es from)
    → (from ≤ last_number (cut_of version es from)) × (last_number (cut_of version es from) ≤ length es)
cut_ends version [] from numbered first some = absurd (omega (arith, cut_short version [] from, some))
cut_ends version (e ∷ es) from numbered first some =
    let begins : first_number (cut_of version (e ∷ es) from) ≡ from = cut_first version (e ∷ es) from e numbered first some in
    let short : length (cut_of version (e ∷ es) from) ≤ length (e ∷ es) - (from - 1) = cut_short version (e ∷ es) from in
    (omega (arith, begins, some), omega (arith, begins, some, short, first))

-- tokens of the first cells that a tape has, as many as it has entries, show its entries
pub shown_all : (cells : List ℕ) (tokens : List TokenState) (entries : List Entry) → FirstTokens cells tokens → HaveAll entries tokens
    → length tokens ≡ length entries → shown tokens ≡ entries
shown_all cells tokens entries first all many =
    same_lists (shown tokens) entries (length-map tokens (λ t. t.entry) ∙ many) (λ k d lt.
    let none : TokenState = record { number = 0; entry = d; cell = 0 } in
    let within : k < length tokens = omega (arith, length-map tokens (λ t. t.entry), lt) in
    let t = get_or tokens k none in
    let number : t.number ≡ k + 1 = (first k none within).1 in
    let place : t.number - 1 ≡ k = omega (arith, number) in
    let has : slice_get entries (t.number - 1) ≡ Some t.entry = all k none within in
    let here : slice_get entries k ≡ Some t.entry = subst (λ n. slice_get entries n ≡ Some t.entry) place has in
    get_or-map (λ (t : TokenState). t.entry) tokens k none d within ∙ sym (get_or_from_slice_get entries k t.entry d here))

-- so the last number of a packet that is cut from a number on is that number or a later one, of the list
pub sent_ends : (es : List Entry) (session from last : ℕ) (packet : Packet)
    → packet ≡ Data session (record { version = Two; entries = cut_of Two es from }) → HasNumbers packet → last ≡ last_of packet
    → IsNumberedFrom 1 es → 1 ≤ from → (from ≤ last) × (last ≤ length es)
sent_ends es session from last packet is numbers last_is numbered first =
    let row : IsRow (cut_of Two es from) = subst HasNumbers is numbers in
    let number : last ≡ last_number (cut_of Two es from) = last_is ∙ ap last_of is in
    let ends = cut_ends Two es from numbered first row.some in
    (omega (arith, number, ends.0), omega (arith, number, ends.1))
