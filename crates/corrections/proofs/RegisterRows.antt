-- Lemmas about the rows of the participants seen as one finite map: what it holds at a key, and how an insertion changes it.
use Rattle.std.proofs.Common.{map as map_list, ◌≡◌, ◌≢◌, ℕ, zero, suc, ◌+◌, ◌-◌, ◌<◌, cond, List, [], ◌∷◌, ◌++◌, length, get_or, set, Some, None, refl, sym, ap}
use Rattle.std.proofs.Common.{◌∙◌, inl, inr, arith}
use Rattle.std.specs.Ordering.{nat_cmp, eq_by_cmp}
use Rattle.std.specs.Cmp.{nat_cmp_total}
use Rattle.std.specs.FinMap as map
use Rattle.std.specs.FinMap.Entries.{find}
use Rattle.std.proofs.lemmas.Bool.{cases_lt, cases_eq}
use Rattle.std.proofs.lemmas.List.{get_or_default, get_or_past, get_or-set_same, get_or-set_other}
use Rattle.corrections.specs.declared.target.Target.{Target}
use Rattle.corrections.specs.Lemmas.Keyed.{tied-same, tied-other}
use Rattle.tape_types.specs.Pairs.{pair_cmp}
use Rattle.tape_types.specs.Lemmas.Pairs.{pair_total, pair_exact}
use Rattle.corrections.specs.RegisterState.{RegisterState, row_of, targets_of}
use Rattle.corrections.specs.TargetRows.{ReportRow, empty_row, row_entries, targets_of_rows}
use Rattle.tape_types.specs.Ranges.{FIRST_PARTICIPANT, row_index}

-- a row's entries under its participant
abbrev tagged : ℕ → List (ℕ × Target) → List ((ℕ × ℕ) × Target)
tagged who es = map_list (λ e. ((who, e.0), e.1)) es

-- another participant's key is not among these entries
find-other : (w n who : ℕ) (es : List (ℕ × Target)) (rest : List ((ℕ × ℕ) × Target)) → w ≢ who
    → find pair_cmp (w, n) (tagged who es ++ rest) ≡ find pair_cmp (w, n) rest
find-other w n who [] rest other = refl
find-other w n who (e ∷ es) rest other =
    ap (λ b. cond b (Some e.1) (find pair_cmp (w, n) (tagged who es ++ rest))) (tied-other w n who e.0 other) ∙ find-other w n who es rest other

-- a key of this participant is among these entries or nowhere
find-same : (w n who : ℕ) (es : List (ℕ × Target)) (rest : List ((ℕ × ℕ) × Target)) → w ≡ who → find pair_cmp (w, n) rest ≡ None
    → find pair_cmp (w, n) (tagged who es ++ rest) ≡ find nat_cmp n es
find-same w n who [] rest same none = none
find-same w n who (e ∷ es) rest same none =
    ap (λ b. cond b (Some e.1) (find pair_cmp (w, n) (tagged who es ++ rest))) (tied-same w n who e.0 same)
    ∙ ap (λ o. cond (eq_by_cmp nat_cmp n e.0) (Some e.1) o) (find-same w n who es rest same none)

-- a participant before the first row has no entry
find-before : (w n who : ℕ) (rows : List ReportRow) → w < who → find pair_cmp (w, n) (row_entries who rows) ≡ None
find-before w n who [] before = refl
find-before w n who (row ∷ rows) before =
    find-other w n who (map.entries row.values) (row_entries (who + 1) rows) (λ same. omega arith) ∙ find-before w n (who + 1) rows (omega arith)

-- any other participant has what its row has
find-row : (w n who i : ℕ) (rows : List ReportRow) → who + i ≡ w → find pair_cmp (w, n) (row_entries who rows) ≡ map.get (get_or rows i empty_row).values n
find-row w n who i [] at = sym (map.get-empty nat_cmp n)
find-row w n who zero (row ∷ rows) at =
    find-same w n who (map.entries row.values) (row_entries (who + 1) rows) (omega arith) (find-before w n (who + 1) rows (omega arith))
    ∙ sym (map.get-entries row.values n)
find-row w n who (suc i) (row ∷ rows) at =
    find-other w n who (map.entries row.values) (row_entries (who + 1) rows) (λ same. omega arith) ∙ find-row w n (who + 1) i rows (omega arith)

-- what is found under a participant's number is what its row has
pub get-row : (rows : List ReportRow) (w n i : ℕ) (d : ReportRow) → i + FIRST_PARTICIPANT ≡ w → i < length rows
    → map.get (targets_of_rows rows) (w, n) ≡ map.get (get_or rows i d).values n
get-row rows w n i d at inside =
    map.get-from_entries pair_total (row_entries FIRST_PARTICIPANT rows) (w, n) ∙ find-row w n FIRST_PARTICIPANT i rows (omega arith)
    ∙ ap (λ (r : ReportRow). map.get r.values n) (get_or_default rows i empty_row d inside)

-- the same holds in the register that has these rows
pub get-seen : (rows : List ReportRow) (last_numbers : List ℕ) (register : RegisterState) → record { rows = rows; last_numbers = last_numbers } ≡ register
    → (w n i : ℕ) (d : ReportRow) → i + FIRST_PARTICIPANT ≡ w → i < length rows → map.get (targets_of register) (w, n) ≡ map.get (get_or rows i d).values n
get-seen rows last_numbers register is w n i d at inside = ap (λ r. map.get (targets_of r) (w, n)) (sym is) ∙ get-row rows w n i d at inside

-- a participant's row in the register that has these rows
pub row-seen : (rows : List ReportRow) (last_numbers : List ℕ) (register : RegisterState) → record { rows = rows; last_numbers = last_numbers } ≡ register
    → (w i : ℕ) (d : ReportRow) → i ≡ row_index w → i < length rows → row_of register w ≡ get_or rows i d
row-seen rows last_numbers register is w i d at inside =
    ap (λ r. row_of r w) (sym is) ∙ ap (λ n. get_or rows n empty_row) (sym at) ∙ get_or_default rows i empty_row d inside

-- what is found is what the row has, or nothing if there is no row
get-else : (rows : List ReportRow) (w n i : ℕ) → FIRST_PARTICIPANT + i ≡ w → map.get (targets_of_rows rows) (w, n) ≡ map.get (get_or rows i empty_row).values n
get-else rows w n i at = map.get-from_entries pair_total (row_entries FIRST_PARTICIPANT rows) (w, n) ∙ find-row w n FIRST_PARTICIPANT i rows at

-- nothing is found for a letter before the first participant's
get-before : (rows : List ReportRow) (w n : ℕ) → w < FIRST_PARTICIPANT → map.get (targets_of_rows rows) (w, n) ≡ None
get-before rows w n before = map.get-from_entries pair_total (row_entries FIRST_PARTICIPANT rows) (w, n) ∙ find-before w n FIRST_PARTICIPANT rows before

-- rows that have the values of a map at each key are that map
same_rows : (rows : List ReportRow) (m : map.FinMap pair_cmp Target) → ((w n : ℕ) → w < FIRST_PARTICIPANT → map.get m (w, n) ≡ None)
    → ((i n : ℕ) → map.get (get_or rows i empty_row).values n ≡ map.get m (FIRST_PARTICIPANT + i, n)) → targets_of_rows rows ≡ m
same_rows rows m before rest = map.same_map pair_total pair_exact _ _ (λ q. elim (cases_lt q.0 FIRST_PARTICIPANT) [
  | inl lt ↦ get-before rows q.0 q.1 lt ∙ sym (before q.0 q.1 lt)
  | inr le ↦
      let at : FIRST_PARTICIPANT + (q.0 - FIRST_PARTICIPANT) ≡ q.0 = omega arith in
      get-else rows q.0 q.1 (q.0 - FIRST_PARTICIPANT) at ∙ rest (q.0 - FIRST_PARTICIPANT) q.1 ∙ ap (λ w. map.get m (w, q.1)) at
])

-- empty rows have no target
pub targets-empty : (rows : List ReportRow) → ((i : ℕ) → i < length rows → (get_or rows i empty_row).values ≡ map.empty) → targets_of_rows rows ≡ map.empty
targets-empty rows empty = same_rows rows map.empty (λ w n lt. map.get-empty pair_cmp (w, n)) (λ i n.
    let none : (get_or rows i empty_row).values ≡ map.empty =
    elim (cases_lt i (length rows)) [ inl lt ↦ empty i lt | inr le ↦ ap (λ (r : ReportRow). r.values) (get_or_past rows i empty_row le) ] in
    ap (λ row. map.get row n) none ∙ map.get-empty nat_cmp n ∙ sym (map.get-empty pair_cmp (FIRST_PARTICIPANT + i, n)))

-- one more target in a row is one more target of the day
pub targets-insert : (rows : List ReportRow) (who n i : ℕ) (d row : ReportRow) (v : Target) → i + FIRST_PARTICIPANT ≡ who → i < length rows
    → row.values ≡ map.insert (get_or rows i d).values n v → targets_of_rows (set rows i row) ≡ map.insert (targets_of_rows rows) (who, n) v
targets-insert rows who n i d row v at inside is = same_rows (set rows i row) (map.insert (targets_of_rows rows) (who, n) v)
    (λ w m lt. map.get-insert pair_total (targets_of_rows rows) (who, n) v (w, m)
    ∙ ap (λ b. cond b (Some v) (map.get (targets_of_rows rows) (w, m))) (tied-other w m who n (λ same. omega arith)) ∙ get-before rows w m lt)
    (λ j m. elim (cases_eq j i) [
      | inl same ↦
          ap (λ k. map.get (get_or (set rows i row) k empty_row).values m) same
          ∙ ap (λ r. map.get r m) (ap (λ (r : ReportRow). r.values) (get_or-set_same rows i row empty_row inside) ∙ is)
          ∙ map.get-insert nat_cmp_total (get_or rows i d).values n v m
          ∙ ap (λ b. cond b (Some v) (map.get (get_or rows i d).values m)) (sym (tied-same (FIRST_PARTICIPANT + j) m who n (omega arith)))
          ∙ ap (λ o. cond (eq_by_cmp pair_cmp (FIRST_PARTICIPANT + j, m) (who, n)) (Some v) o)
          (sym (get-row rows (FIRST_PARTICIPANT + j) m i d (omega arith) inside))
          ∙ sym (map.get-insert pair_total (targets_of_rows rows) (who, n) v (FIRST_PARTICIPANT + j, m))
      | inr other ↦
          ap (λ (r : ReportRow). map.get r.values m) (get_or-set_other rows i j row empty_row other)
          ∙ sym (get-else rows (FIRST_PARTICIPANT + j) m j refl)
          ∙ ap (λ b. cond b (Some v) (map.get (targets_of_rows rows) (FIRST_PARTICIPANT + j, m)))
          (sym (tied-other (FIRST_PARTICIPANT + j) m who n (λ same. other (omega arith))))
          ∙ sym (map.get-insert pair_total (targets_of_rows rows) (who, n) v (FIRST_PARTICIPANT + j, m))
    ])
