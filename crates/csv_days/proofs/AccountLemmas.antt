-- The rows of the messages that a tape admits, and the last change of each of its reports.
use Rattle.std.proofs.Common.{◌≡◌, ◌⊎◌, ◌<◌, ◌≤◌, ◌+◌, ◌*◌, ◌==◌, ◌∷◌, ◌++◌, ◌∙◌, [], ℕ, suc, Bool, true, false, cond, drop, nat_le, not, List, Option, Result, Some, None, Ok, Err, if◌then◌else◌}
use Rattle.std.proofs.Common.{ap, append-nil, arith, filter, fold, get_or, inl, inr, length, length-append, map, refl, slice_get, subst, sym, take, unwrap_or}
use Rattle.std.specs.List.{last_or, position}
use Rattle.std.specs.Option.{option_map}
use Rattle.std.proofs.Math.Seq.{get_or-append_seam}
use Rattle.std.proofs.lemmas.Bool.{cases_lt, not-false}
use Rattle.std.proofs.lemmas.List.{drop_all, get_or_append_left, length-take-le, map-append, map_more, take_all, take_more}
use Rattle.std.proofs.lemmas.List.Elements.{filter-append}
use Rattle.std.proofs.lemmas.List.Quantifiers.{position-Some}
use Rattle.std.proofs.lemmas.Nat.{div-mul-add, mod-mul-add}
use Rattle.std.proofs.lemmas.Option.{slice_get-get_or}
use Rattle.std.proofs.lemmas.Slice.Eq.{bytes_eq-Decides}
use Rattle.tape_types.specs.Names.{symbol_eq}
use Rattle.tape_types.specs.Ranges.{FIRST_PARTICIPANT, PARTICIPANTS_MOST}
use Rattle.sale_matrix.specs.declared.matrix.Matrix.{Matrix}
use Rattle.reports.specs.Messages.{header_of}
use Rattle.reports.specs.declared.message.Message.{Message}
use Rattle.tape_core.specs.Lemmas.LegalNext.{none_first}
use Rattle.scratch_fold.specs.Fold.{empty_summary}
use Rattle.scratch_fold.specs.declared.summary.Summary.{Summary}
use Rattle.tape_core.specs.Standing.{NumberedMessage, last_number, participant_summary}
use Rattle.tape_core.specs.Tape.{IsLegal, TapeState, lists_participant, lists_symbol, messages_of, next_entry, numbered_message, participant_summary_at_index, refusal}
use Rattle.tape_core.specs.declared.entry.Entry.{Entry}
use Rattle.tape_core.specs.declared.refusal.Refusal.{Refusal}
use Rattle.tape_core.specs.declared.refusal.Refusal.TheVariants.{Closed, Full, Stale, UnknownParticipant, UnknownSymbol}
use Rattle.csv_days.specs.Accounts.{AreChanges, AreOwn, own_at}
use Rattle.tape_core.specs.Answers.{answer, answer_by, answers, tape_after, tape_by}
use Rattle.csv_days.specs.Days.{first_tape, tape_of}
use Rattle.csv_days.specs.Explained.{admitted_rows, is_change_at, last_change_in, rows_of}
use Rattle.csv_days.proofs.DayLemmas.{answers-push, length-answers}

-- ## Rows

-- no row is admitted of none
pub admitted_rows-none : (t : TapeState) (row : ℕ) → admitted_rows row (answers t []) ≡ []
unfolding admitted_rows answers
admitted_rows-none t row = refl

-- a number more of rows is one more
one-further : (row n : ℕ) → row + 1 + n ≡ row + suc n
one-further row n = omega arith

-- the rows that were admitted, with one more
admitted_rows-push : (row : ℕ) (before : List (Result ℕ Refusal)) (a : Result ℕ Refusal)
    → admitted_rows row (before ++ a ∷ []) ≡ admitted_rows row before ++ admitted_rows (row + length before) (a ∷ [])
unfolding admitted_rows
admitted_rows-push row [] a = let same : row ≡ row + 0 = omega arith in ap (λ (n : ℕ). admitted_rows n (a ∷ [])) same
admitted_rows-push row (Ok number ∷ before) a =
    ap (λ (l : List ℕ). row ∷ l)
    (admitted_rows-push (row + 1) before a
    ∙ ap (λ (n : ℕ). admitted_rows (row + 1) before ++ admitted_rows n (a ∷ [])) (one-further row (length before)))
admitted_rows-push row (Err refused ∷ before) a =
    admitted_rows-push (row + 1) before a
    ∙ ap (λ (n : ℕ). admitted_rows (row + 1) before ++ admitted_rows n (a ∷ [])) (one-further row (length before))

-- the rows that were admitted of one message more
pub rows-more : (t now : TapeState) (messages : List Message) (start i row : ℕ) (m : Message) (answered : Result ℕ Refusal) (old new : List ℕ)
    → i < length messages → get_or messages i m ≡ m → now ≡ fold tape_after t (take i messages) → row ≡ start + i → answered ≡ answer now m
    → old ≡ admitted_rows start (answers t (take i messages)) → new ≡ old ++ admitted_rows row (answered ∷ [])
    → new ≡ admitted_rows start (answers t (take (i + 1) messages))
rows-more t now messages start i row m answered old new within at tape numbered is so_far noted =
    let front : List Message = take i messages in
    let here : row ≡ start + length (answers t front) = omega (arith, numbered, length-answers t front, length-take-le i messages (omega arith)) in
    let said : answered ≡ answer (fold tape_after t front) m = is ∙ ap (λ (s : TapeState). answer s m) tape in
    noted
    ∙ ap (λ (l : List ℕ). l ++ admitted_rows row (answered ∷ [])) so_far
    ∙ ap (λ (n : ℕ). admitted_rows start (answers t front) ++ admitted_rows n (answered ∷ [])) here
    ∙ sym (admitted_rows-push start (answers t front) answered)
    ∙ ap (λ (a : Result ℕ Refusal). admitted_rows start (answers t front ++ a ∷ [])) said
    ∙ ap (admitted_rows start) (sym (answers-push t front m))
    ∙ ap (λ (n : Message). admitted_rows start (answers t (front ++ n ∷ []))) (sym at)
    ∙ ap (λ (l : List Message). admitted_rows start (answers t l)) (sym (take_more messages i m within))

-- a message that is admitted has a row, and one that is refused has none
one-row : (t : TapeState) (m : Message) (row : ℕ) (others : List (Result ℕ Refusal))
    → length t.entries + length (admitted_rows row (answer t m ∷ others)) ≡ length (tape_after t m).entries + length (admitted_rows (row + 1) others)
unfolding admitted_rows answer tape_after
one-row t m row others = cases (refusal t m)
  where
    cases : (o : Option Refusal) → length t.entries + length (admitted_rows row (answer_by t o ∷ others))
        ≡ length (tape_by t m o).entries + length (admitted_rows (row + 1) others)
    cases None = omega (arith, length-append t.entries (next_entry t.matrix t.entries m ∷ []))
    cases (Some refused) = refl

-- so each entry has a row
entries-rows : (t : TapeState) (row : ℕ) (messages : List Message)
    → length t.entries + length (admitted_rows row (answers t messages)) ≡ length (fold tape_after t messages).entries
unfolding answers admitted_rows
entries-rows t row [] = omega arith
entries-rows t row (m ∷ messages) =
    one-row t m row (answers (tape_after t m) messages) ∙ entries-rows (tape_after t m) (row + 1) messages

-- each entry of a table's tape has a row
pub length-rows_of : (matrix : Matrix) (messages : List Message) → length (rows_of matrix messages) ≡ length (tape_of matrix messages).entries
length-rows_of matrix messages = omega (arith, entries-rows (first_tape matrix messages) 2 messages)

-- ## Changes

-- the last of a list is what was put at its end
last_or-push : {X : Type 0} (o : Option X) (xs : List X) (x : X) → last_or o (xs ++ x ∷ []) ≡ Some x
last_or-push o [] x = refl
last_or-push o (y ∷ ys) x = last_or-push (Some y) ys x

-- the number of the last of some messages, 0 for none
abbrev last_of : List NumberedMessage → ℕ
last_of ns = unwrap_or (last_or None (map (λ n. n.0) ns)) 0

-- the last change, with one message more
last_change_in-push : (tape : List NumberedMessage) (place : ℕ) (ns : List NumberedMessage) (n : NumberedMessage)
    → last_change_in tape place (ns ++ n ∷ []) ≡ (if is_change_at tape place n then n.0 else last_change_in tape place ns)
last_change_in-push tape place ns n =
    ap last_of (filter-append (is_change_at tape place) ns (n ∷ [])) ∙ by (filter (is_change_at tape place) ns) (is_change_at tape place n)
  where
    by : (front : List NumberedMessage) (b : Bool) → last_of (front ++ cond b (n ∷ []) []) ≡ (if b then n.0 else last_of front)
    by front true =
        ap (λ (l : List ℕ). unwrap_or (last_or None l) 0) (map-append (λ (m : NumberedMessage). m.0) front (n ∷ []))
        ∙ ap (λ (o : Option ℕ). unwrap_or o 0) (last_or-push None (map (λ (m : NumberedMessage). m.0) front) n.0)
    by front false = ap last_of (append-nil front)

-- and after one more, each is changed last by it or as before
pub AreChanges-more : (entries : List Entry) (i : ℕ) (e : Entry) (old new : List ℕ) → i < length entries → get_or entries i e ≡ e
    → length new ≡ length old
    → ((k : ℕ) → k < length old → get_or new k 0 ≡ (if is_change_at (messages_of entries) (k + 1) (numbered_message e) then e.number else get_or old k 0))
    → AreChanges (messages_of entries) (messages_of (take i entries)) old → AreChanges (messages_of entries) (messages_of (take (i + 1) entries)) new
AreChanges-more entries i e old new within at count noted had =
    let tape : List NumberedMessage = messages_of entries in
    let more : messages_of (take (i + 1) entries) ≡ messages_of (take i entries) ++ numbered_message e ∷ [] =
    map_more numbered_message entries i e within ∙ ap (λ (x : Entry). messages_of (take i entries) ++ numbered_message x ∷ []) at in
    record {
      count = count ∙ had.count;
      each = λ k inside.
          noted k (omega (arith, inside, had.count))
          ∙ ap (λ (n : ℕ). if is_change_at tape (k + 1) (numbered_message e) then e.number else n) (had.each k inside)
          ∙ sym (last_change_in-push tape (k + 1) (messages_of (take i entries)) (numbered_message e))
          ∙ ap (last_change_in tape (k + 1)) (sym more);
    }

-- the same, of entries that are lent
pub AreChanges-along : (entries lent : List Entry) (seen : List ℕ) (i : ℕ) (e : Entry) (old new : List ℕ) → lent ≡ entries → i < length lent
    → get_or lent i e ≡ e → length new ≡ length old → seen ≡ old
    → ((k : ℕ) → k < length seen → get_or new k 0
    ≡ (if is_change_at (messages_of entries) (k + 1) (numbered_message e) then e.number else get_or seen k 0))
    → AreChanges (messages_of entries) (messages_of (take i lent)) old → AreChanges (messages_of entries) (messages_of (take (i + 1) lent)) new
AreChanges-along entries lent seen i e old new lend within at count is noted had =
    subst (λ (l : List Entry). AreChanges (messages_of entries) (messages_of (take (i + 1) l)) new) (sym lend)
    (AreChanges-more entries i e old new (omega (arith, within, ap length lend)) (ap (λ (l : List Entry). get_or l i e) (sym lend) ∙ at) count
    (λ k inside. noted k (omega (arith, inside, ap length is))
    ∙ ap (λ (l : List ℕ). if is_change_at (messages_of entries) (k + 1) (numbered_message e) then e.number else get_or l k 0) is)
    (subst (λ (l : List Entry). AreChanges (messages_of entries) (messages_of (take i l)) old) lend had))

-- a whole list is written through a borrow of it
pub whole-written : (len : ℕ) (items new : List ℕ) → length items ≡ len → length new ≡ length items → take len (new ++ drop (length new) items) ≡ new
whole-written len items new sized kept =
    ap (λ (l : List ℕ). take len (new ++ l)) (drop_all (length new) items (omega (arith, kept)))
    ∙ ap (take len) (append-nil new) ∙ take_all len new (omega (arith, sized, kept))

-- ## Listings

-- a legal tape lists the symbol and the participant of each entry
pub legal-lists : (t : TapeState) (k : ℕ) (e : Entry) → IsLegal t → slice_get t.entries k ≡ Some e
    → (lists_symbol t.listing (header_of e.message).symbol ≡ true) × (lists_participant t.listing (header_of e.message).participant ≡ true)
legal-lists t k e legal at =
    let m : Message = e.message in
    let who : ℕ = (header_of m).participant in
    let tape : List NumberedMessage = messages_of (take k t.entries) in
    let opened = none_first false Closed _ (legal k e at).0 in
    let room = none_first (length (take k t.entries) == t.limit) Full _ opened.1 in
    let listed = none_first (not (lists_participant t.listing who)) UnknownParticipant _ room.1 in
    let above = none_first (nat_le (header_of m).number (last_number tape who)) Stale _ listed.1 in
    let known = none_first (not (lists_symbol t.listing (header_of m).symbol)) UnknownSymbol _ above.1 in
    (not-false (lists_symbol t.listing (header_of m).symbol) known.0, not-false (lists_participant t.listing who) listed.0)

-- ## The participants' own summaries

-- with one more, each is that of its place
pub own-more : (t : TapeState) (old new : List Summary) (x : Summary) → new ≡ old ++ x ∷ [] → x ≡ own_at t (length old)
    → ((place : ℕ) (other : Summary) → place < length old → get_or old place other ≡ own_at t place)
    → (place : ℕ) (other : Summary) → place < length new → get_or new place other ≡ own_at t place
own-more t old new x pushed is had place other within = ap (λ (l : List Summary). get_or l place other) pushed ∙ by (cases_lt place (length old))
  where
    by : (place < length old) ⊎ (length old ≤ place) → get_or (old ++ x ∷ []) place other ≡ own_at t place
    by (inl inside) = get_or_append_left old (x ∷ []) other place inside ∙ had place other inside
    by (inr past) =
        let last : place ≡ length old = omega (arith, within, ap length pushed, length-append old (x ∷ []), past) in
        ap (λ (n : ℕ). get_or (old ++ x ∷ []) n other) last ∙ get_or-append_seam old x [] other ∙ is ∙ ap (own_at t) (sym last)

-- the one at the place of a symbol and a participant is theirs
pub own-found : (t : TapeState) (own : List Summary) (symbol : List ℕ) (who at row : ℕ) (found : Summary) → AreOwn t own
    → position (symbol_eq symbol) t.listing.symbols ≡ Some at → lists_participant t.listing who ≡ true → row + FIRST_PARTICIPANT ≡ who
    → row < PARTICIPANTS_MOST → found ≡ get_or own (at * PARTICIPANTS_MOST + row) found
    → found ≡ participant_summary t.matrix (messages_of t.entries) symbol who
own-found t own symbol who at row found are listed known letter few read =
    let symbols : List (List ℕ) = t.listing.symbols in
    let among : at < length symbols = (position-Some (symbol_eq symbol) symbols at [] listed).0 in
    let within : at * 26 + row < length own = omega (arith, among, few, are.count) in
    let of_symbol : slice_get symbols at ≡ Some symbol =
    slice_get-get_or symbols at symbol among
    ∙ ap Some (sym ((bytes_eq-Decides symbol (get_or symbols at symbol)).0 (position-Some (symbol_eq symbol) symbols at symbol listed).1)) in
    let is : FIRST_PARTICIPANT + row ≡ who = omega (arith, letter) in
    read ∙ are.each (at * 26 + row) found within
    ∙ (λ i. unwrap_or (participant_summary_at_index t (div-mul-add at 26 row few i) (FIRST_PARTICIPANT + mod-mul-add at 26 row few i)) empty_summary)
    ∙ ap (λ (n : ℕ). unwrap_or (participant_summary_at_index t at n) empty_summary) is
    ∙ (λ i. unwrap_or (if known i then option_map (λ s. participant_summary t.matrix (messages_of t.entries) s who) (of_symbol i) else None) empty_summary)
