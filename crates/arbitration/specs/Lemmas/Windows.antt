-- The steps that keep a window's invariant.
use Rattle.std.proofs.Common.{◌≡◌, ℕ, zero, suc, ◌+◌, ◌^◌, ◌≤◌, ◌<◌, ◌==◌, true, false, List, [], ◌∷◌, ◌++◌, length, set}
use Rattle.std.proofs.Common.{take, drop, Option, None, Some, refl, sym, ap, subst, ◌∙◌, arith, lit<, ◌||◌, max, not}
use Rattle.std.proofs.lemmas.Bool.{false≢true, or_parts, ltb-false, not-false, eqb-true}
use Rattle.std.proofs.lemmas.List.{length_push, length-replicate}
use Rattle.std.proofs.lemmas.List.Sums.{count_by-le-length}
use Rattle.std.specs.Option.{option_or}
use Rattle.std.specs.Prelude.{slice_get, is_some, count_by, replicate, IfSome}
use Rattle.tape_core.specs.declared.entry.Entry.{Entry}
use Rattle.tape_types.specs.Ranges.{TAPE_MOST}
use Rattle.tape_frames.specs.Packets.{entries_of, last_of, end_of, HasNumbers}
use Rattle.tape_frames.specs.declared.packet.Packet.{Packet}
use Rattle.arbitration.specs.Lemmas.Counts.{count_push_no, count_full, count_none, brought_sum}
use Rattle.arbitration.specs.Lemmas.Numbers.{packet_numbers, packet_within, packet_end}
use Rattle.arbitration.specs.Lemmas.Slots.{length-slots_after}
use Rattle.arbitration.specs.Counts.{taken_of}
use Rattle.arbitration.specs.Gaps.{ASKED_MOST}
use Rattle.arbitration.specs.Deliveries.{entry_numbered, slots_after, is_beyond, is_other_end, is_past_end, window_after}
use Rattle.arbitration.specs.Windows.{WindowState, IsWindow, flat, ArePlaced, window_past, next_of, empty_window, REACH}
use Rattle.arbitration.specs.declared.line.Line.{Line}

-- a word has room for how far a window reaches
pub REACH-fits : REACH < 2 ^ 16
unfolding REACH
REACH-fits = lit< tt

-- a window reaches some number
REACH-some : 1 ≤ REACH
unfolding REACH
REACH-some = omega arith

-- a request asks for no more numbers than a window reaches
pub REACH-asked : ASKED_MOST ≤ REACH
unfolding REACH
REACH-asked = omega arith

-- a slot filled with the entry of its number is placed
placed_found : (next more : ℕ) (o : Option Entry) (slots : List (Option Entry)) → ((e : Entry) → o ≡ Some e → (e.number ≡ next) × (next ≤ more))
    → ArePlaced (next + 1) more slots → ArePlaced next more (o ∷ slots)
placed_found next more None slots has h = h
placed_found next more (Some e) slots has h = let found = has e refl in (found.0, found.1, h)

-- slots stay placed when a packet fills some, and more is announced
pub ArePlaced-slots_after : (next announced more : ℕ) (slots : List (Option Entry)) (es : List Entry) → ArePlaced next announced slots
    → announced ≤ more → ((n : ℕ) (e : Entry) → entry_numbered n es ≡ Some e → (e.number ≡ n) × (n ≤ more)) → ArePlaced next more (slots_after next slots es)
ArePlaced-slots_after next announced more [] es h le has = tt
ArePlaced-slots_after next announced more (Some e ∷ slots) es h le has = (h.0, omega arith, ArePlaced-slots_after (next + 1) announced more slots es h.2 le has)
ArePlaced-slots_after next announced more (None ∷ slots) es h le has =
    placed_found next more (entry_numbered next es) (slots_after (next + 1) slots es) (has next)
    (ArePlaced-slots_after (next + 1) announced more slots es h le has)

-- empty slots are placed
pub ArePlaced-empty : (n next announced : ℕ) → ArePlaced next announced (replicate n None)
ArePlaced-empty zero next announced = tt
ArePlaced-empty (suc n) next announced = ArePlaced-empty n (next + 1) announced

-- slots stay placed with an empty one after them
pub ArePlaced-push : (next announced : ℕ) (slots : List (Option Entry)) → ArePlaced next announced slots → ArePlaced next announced (slots ++ None ∷ [])
ArePlaced-push next announced [] h = tt
ArePlaced-push next announced (None ∷ slots) h = ArePlaced-push (next + 1) announced slots h
ArePlaced-push next announced (Some e ∷ slots) h = (h.0, h.1, ArePlaced-push (next + 1) announced slots h.2)

-- after a packet, the known end is not below what has been announced
pub end_after : (ended end : Option ℕ) (announced last : ℕ) → (is_beyond ended last || is_other_end ended announced end) ≡ false
    → IfSome ended (λ count. announced ≤ count) → IfSome end (λ count. last ≡ count) → IfSome (option_or end ended) (λ count. max announced last ≤ count)
end_after None None announced last ok h k = tt
end_after None (Some count) announced last ok h k = let le : announced ≤ count = ltb-false count announced ok in omega arith
end_after (Some known) None announced last ok h k =
    let le : last ≤ known = ltb-false known last (or_parts (is_beyond (Some known) last) (is_other_end (Some known) announced None) ok).0 in omega arith
end_after (Some known) (Some count) announced last ok h k =
    let le : last ≤ known = ltb-false known last (or_parts (is_beyond (Some known) last) (not (count == known)) ok).0 in
    let same : count ≡ known = eqb-true count known (not-false (count == known) (or_parts (is_beyond (Some known) last) (not (count == known)) ok).1) in
    omega arith

-- an empty window satisfies the invariant
pub IsWindow-empty : (session : ℕ) → IsWindow (empty_window session)
IsWindow-empty session = record {
  size = length-replicate REACH None;
  placed = ArePlaced-empty REACH 1 0;
  reached = omega arith;
  within = omega arith;
  end = tt;
  counted = let none = count_none REACH in omega arith;
}

-- a window satisfies it after a packet
pub IsWindow-window_after : (w : WindowState) (line : Line) (q : Packet) → IsWindow w → HasNumbers q → is_past_end w q ≡ false
    → count_by is_some (slots_after (w.base + 1) w.slots (entries_of q)) ≡ count_by is_some w.slots + (taken_of (w.base + 1) w.slots (entries_of q)).fresh
    → IsWindow (window_after w line q)
IsWindow-window_after w line q h packet in_time count =
    let reached = h.reached in
    let within = h.within in
    let packet_fits = packet_within q packet in
    let fresh = (taken_of (w.base + 1) w.slots (entries_of q)).fresh in
    record {
      size = length-slots_after (w.base + 1) w.slots (entries_of q) ∙ h.size;
      placed = ArePlaced-slots_after (w.base + 1) w.announced (max w.announced (last_of q)) w.slots (entries_of q) h.placed (omega arith) (λ n e found.
          let number = packet_numbers q packet n e found in (number.0, (let le : n ≤ last_of q = number.1 in omega arith)));
      reached = omega arith;
      within = omega arith;
      end = end_after w.ended (end_of q) w.announced (last_of q) in_time h.end (packet_end q);
      counted = brought_sum w.brought line fresh ∙ ap (λ n. n + fresh) h.counted ∙ omega arith ∙ ap (λ n. w.base + n) (sym count);
    }

-- a window satisfies it without its next entry
pub IsWindow-window_past : (w : WindowState) → IsWindow w → is_some (next_of w) ≡ true → IsWindow (window_past 1 w)
IsWindow-window_past w h ready = go w.slots refl
  where
    go : (slots : List (Option Entry)) → w.slots ≡ slots → IsWindow (window_past 1 w)
    go [] is = absurd (false≢true (ap (λ (s : List (Option Entry)). is_some (flat (slice_get s 0))) (sym is) ∙ ready))
    go (None ∷ slots) is = absurd (false≢true (ap (λ (s : List (Option Entry)). is_some (flat (slice_get s 0))) (sym is) ∙ ready))
    go (Some e ∷ slots) is =
        let placed = subst (ArePlaced (w.base + 1) w.announced) is h.placed in
        let next : w.base + 1 ≤ w.announced = placed.1 in
        let same : slots ++ None ∷ [] ≡ drop 1 w.slots ++ None ∷ [] = ap (λ (s : List (Option Entry)). drop 1 s ++ None ∷ []) (sym is) in
        let sizes : length w.slots ≡ suc (length slots) = ap length is in
        let size = h.size in
        let counted = h.counted in
        let counts : count_by is_some w.slots ≡ count_by is_some (Some e ∷ slots) = ap (count_by is_some) is in
        record {
          size = ap length (sym same) ∙ length_push slots None ∙ omega arith;
          placed = subst (ArePlaced (w.base + 1 + 1) w.announced) same (ArePlaced-push (w.base + 1 + 1) w.announced slots placed.2);
          reached = next;
          within = h.within;
          end = h.end;
          counted = counted ∙ ap (λ n. w.base + n) (counts ∙ count_full e slots) ∙ omega arith
              ∙ ap (λ n. (w.base + 1) + n) (sym (ap (count_by is_some) (sym same) ∙ count_push_no is_some slots None refl));
        }

-- the counts of a window fit a word
pub brought_fits : (w : WindowState) → IsWindow w → w.brought.a + w.brought.b + w.brought.r ≤ TAPE_MOST + REACH
brought_fits w h =
    let counted = h.counted in
    let within = h.within in
    let reached = h.reached in
    let size : length w.slots ≡ REACH = h.size in
    let count = count_by-le-length is_some w.slots in
    omega arith

-- a window has a slot
pub some_slots : (w : WindowState) → IsWindow w → 1 ≤ length w.slots
some_slots w h = omega (arith, h.size, REACH-some)

-- the slots with the first one emptied and put last
pub rotated : (slots : List (Option Entry)) → 1 ≤ length slots → drop 1 (set slots 0 None) ++ take 1 (set slots 0 None) ≡ drop 1 slots ++ None ∷ []
rotated [] some = absurd (omega arith)
rotated (slot ∷ slots) some = refl
