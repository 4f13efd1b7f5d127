-- How a journal grows beside what is published.
use Rattle.std.proofs.Common.{◌≡◌, ◌+◌, ◌++◌, ◌∷◌, ◌∙◌, [], ℕ, List, Option, Some, None, Result, Ok, Err, OnOk, IfOk, ap, append-nil, append_assoc, arith, length, refl, subst, sym}
use Rattle.std.specs.Io.KnownBytes.{Appends, Keeps}
use Rattle.std.proofs.lemmas.Grind.{flat_map-append}
use Rattle.std.proofs.lemmas.List.{nil_from_length}
use Rattle.day_journal.specs.Groups.{IsGroup, group_text}
use Rattle.day_journal.specs.Journals.{AreGroups, groups_text}
use Rattle.day_journal.specs.Writers.{WriterState, next_text, with_group}
use Rattle.tape_core.specs.declared.entry.Entry.{Entry}
use Rattle.live_feed.specs.Journals.{AllKept, Grows, GrowsAtMostOnce, GrowsBy, IsKept, JournalState, Steps, entries_of, with_groups}

-- ---- groups and more of them

-- the writer after groups and more of them
with_groups-append : (w : WriterState) (gs hs : List (List Entry)) → with_groups w (gs ++ hs) ≡ with_groups (with_groups w gs) hs
unfolding with_groups
with_groups-append w [] hs = refl
with_groups-append w (es ∷ gs) hs = with_groups-append (with_group w es) gs hs

-- their text
groups_text-append : (w : WriterState) (gs hs : List (List Entry)) → groups_text w.session w.digest (gs ++ hs)
    ≡ groups_text w.session w.digest gs ++ groups_text (with_groups w gs).session (with_groups w gs).digest hs
unfolding with_groups groups_text
groups_text-append w [] hs = refl
groups_text-append w (es ∷ gs) hs =
    ap (λ (l : List ℕ). group_text w.session w.digest es ++ l) (groups_text-append (with_group w es) gs hs)
    ∙ sym (append_assoc (group_text w.session w.digest es) _ _)

-- each follows those before it
AreGroups-append : (w : WriterState) (gs hs : List (List Entry)) → AreGroups w.session w.held gs
    → AreGroups (with_groups w gs).session (with_groups w gs).held hs → AreGroups w.session w.held (gs ++ hs)
unfolding with_groups AreGroups
AreGroups-append w [] hs first then = then
AreGroups-append w (es ∷ gs) hs first then = (first.0, AreGroups-append (with_group w es) gs hs first.1 then)

-- one alone
one_group : (w : WriterState) (es : List Entry) → IsGroup w.session w.held es → AreGroups w.session w.held (es ∷ [])
unfolding AreGroups
one_group w es is = (is, tt)

one_text : (w : WriterState) (es : List Entry) → groups_text w.session w.digest (es ∷ []) ≡ next_text w es
unfolding groups_text
one_text w es = append-nil (group_text w.session w.digest es)

one_writer : (w : WriterState) (es : List Entry) → with_groups w (es ∷ []) ≡ with_group w es
unfolding with_groups
one_writer w es = refl

-- none
no_group : (w : WriterState) → AreGroups w.session w.held []
unfolding AreGroups
no_group w = tt

no_text : (w : WriterState) → groups_text w.session w.digest [] ≡ []
unfolding groups_text
no_text w = refl

no_writer : (w : WriterState) → with_groups w [] ≡ w
unfolding with_groups
no_writer w = refl

-- ---- known bytes

-- they grow by nothing
appends_none : (known : Option (List ℕ)) → Appends known known []
appends_none None = tt
appends_none (Some xs) = sym (append-nil xs)

-- they grow twice
appends_twice : (a b c : Option (List ℕ)) (one other : List ℕ) → Appends a b one → Appends b c other → Appends a c (one ++ other)
appends_twice None b c one other first second = tt
appends_twice (Some xs) None c one other first second = absurd first
appends_twice (Some xs) (Some ys) None one other first second = absurd second
appends_twice (Some xs) (Some ys) (Some zs) one other first second =
    second ∙ ap (λ (l : List ℕ). l ++ other) first ∙ append_assoc xs one other

-- they grow, and then stay
pub appends_then_kept : (a b c : Option (List ℕ)) (text : List ℕ) → Appends a b text → Keeps b c → Appends a c text
appends_then_kept None b c text grows same = tt
appends_then_kept (Some xs) None c text grows same = absurd grows
appends_then_kept (Some xs) (Some ys) None text grows same = absurd same
appends_then_kept (Some xs) (Some ys) (Some zs) text grows same = same ∙ grows

-- ---- outcomes

-- what holds in any case holds if it went well
pub on_ok : {A E : Type 0} {P : Type 0} (r : Result A E) → P → OnOk r P
on_ok (Ok x) holds = holds
on_ok (Err e) holds = tt

-- what follows of a value
pub if_ok : {A E : Type 0} {P Q : A → Type 0} (r : Result A E) → ((x : A) → P x → Q x) → IfOk r P → IfOk r Q
if_ok (Ok x) follows holds = follows x holds
if_ok (Err e) follows holds = tt

-- what went well did not fail
pub ok_err : {A E : Type 0} {r : Result A E} {x : A} {e : E} → r ≡ Ok x → r ≡ Err e → ⊥
ok_err {A} {E} {r} {x} {e} one other = let h : ◌≡◌ {A = Result A E} (Ok x) (Err e) = sym one ∙ other in cc

-- ---- a journal

-- a journal that is kept grows by no group
by_none : (j : JournalState) (published : List Entry) → IsKept j published → GrowsBy [] j published j published
by_none j published is = record {
  are = no_group j.writer;
  writer = sym (no_writer j.writer);
  text = subst (λ l. Appends j.contents j.kept l) (sym (no_text j.writer)) (subst (λ k. Appends j.contents k []) (sym is.whole) (appends_none j.contents));
  entries = sym (append-nil (published ++ j.queue));
}

-- so it may stand
pub grows_none : (j : JournalState) (published : List Entry) → IsKept j published → GrowsAtMostOnce j published j published
grows_none j published is = ([], omega arith, by_none j published is)

-- what is to be published next was appended as a group
pub grows_one : (old new : JournalState) (published : List Entry) → old.queue ≡ [] → IsGroup old.writer.session old.writer.held new.queue
    → new.writer ≡ with_group old.writer new.queue → Appends old.contents new.kept (next_text old.writer new.queue)
    → GrowsAtMostOnce old published new published
grows_one old new published none group writer text = (
  new.queue ∷ [],
  omega arith,
  record {
    are = one_group old.writer new.queue group;
    writer = writer ∙ sym (one_writer old.writer new.queue);
    text = subst (λ l. Appends old.contents new.kept l) (sym (one_text old.writer new.queue)) text;
    entries = ap (λ (l : List Entry). published ++ l) (sym (append-nil new.queue))
        ∙ ap (λ (l : List Entry). l ++ (new.queue ++ [])) (sym (append-nil published) ∙ ap (λ (l : List Entry). published ++ l) (sym none));
  },
)

-- if nothing was gathered it stays
pub stays_empty : (old new : JournalState) (published next : List Entry) → IsKept old published → new ≡ record old { queue = next }
    → length old.queue ≡ 0 → length new.queue ≡ 0 → IsKept new published × GrowsAtMostOnce old published new published
stays_empty old new published next kept is before after =
    let none : next ≡ [] = nil_from_length next (ap (λ (j : JournalState). length j.queue) (sym is) ∙ after) in
    let same : new ≡ old = is ∙ ap (λ (q : List Entry). record old { queue = q }) (none ∙ sym (nil_from_length old.queue before)) in
    subst (λ j. IsKept j published × GrowsAtMostOnce old published j published) (sym same) (kept, grows_none old published kept)

-- what was gathered is kept once it was appended
pub appended : {A E : Type 0} (r : Result A E) (old mid new : JournalState) (published next : List Entry) → IsKept old published
    → mid ≡ record old { queue = next } → length old.queue ≡ 0 → new.queue ≡ mid.queue
    → OnOk r (IsGroup mid.writer.session mid.writer.held mid.queue) → OnOk r (Appends mid.contents new.contents (next_text mid.writer mid.queue))
    → OnOk r (new.writer ≡ with_group mid.writer mid.queue) → OnOk r ((new.kept ≡ new.contents) × (new.failed ≡ mid.failed))
    → OnOk r (IsKept new published × GrowsAtMostOnce old published new published)
appended (Err e) old mid new published next kept is empty queue group written writer whole = tt
appended (Ok x) old mid new published next kept is empty queue group written writer whole =
    let none : old.queue ≡ [] = nil_from_length old.queue empty in
    let w_is : mid.writer ≡ old.writer = ap (λ (j : JournalState). j.writer) is in
    let own : new.writer ≡ with_group old.writer new.queue =
    writer ∙ ap (λ (q : List Entry). with_group mid.writer q) (sym queue) ∙ ap (λ (w : WriterState). with_group w new.queue) w_is in
    let held : new.writer.held ≡ old.writer.held + length new.queue = ap (λ (w : WriterState). w.held) own in
    let is_group : IsGroup old.writer.session old.writer.held new.queue =
    subst (λ (w : WriterState). IsGroup w.session w.held new.queue) w_is
    (subst (λ (q : List Entry). IsGroup mid.writer.session mid.writer.held q) (sym queue) group) in
    let text : Appends old.contents new.contents (next_text old.writer new.queue) =
    subst (λ (j : JournalState). Appends j.contents new.contents (next_text j.writer new.queue)) is
    (subst (λ (q : List Entry). Appends mid.contents new.contents (next_text mid.writer q)) (sym queue) written) in (
      record { whole = whole.0; counted = omega (arith, held, kept.counted, empty) },
      grows_one old new published none is_group own (subst (λ k. Appends old.contents k (next_text old.writer new.queue)) (sym whole.0) text),
    )

-- it grew twice
grows_twice : (a b c : JournalState) (x y z : List Entry) (gs hs : List (List Entry)) → GrowsBy gs a x b y → IsKept b y → GrowsBy hs b y c z
    → GrowsBy (gs ++ hs) a x c z
grows_twice a b c x y z gs hs first is second = record {
  are = AreGroups-append a.writer gs hs first.are (subst (λ (w : WriterState). AreGroups w.session w.held hs) first.writer second.are);
  writer = second.writer ∙ ap (λ (w : WriterState). with_groups w hs) first.writer ∙ sym (with_groups-append a.writer gs hs);
  text = subst (λ l. Appends a.contents c.kept l)
      (ap (λ (w : WriterState). groups_text a.writer.session a.writer.digest gs ++ groups_text w.session w.digest hs) first.writer
      ∙ sym (groups_text-append a.writer gs hs))
      (appends_twice a.contents b.contents c.kept _ _
      (subst (λ k. Appends a.contents k (groups_text a.writer.session a.writer.digest gs)) is.whole first.text) second.text);
  entries = second.entries ∙ ap (λ (l : List Entry). l ++ entries_of hs) first.entries ∙ append_assoc (x ++ a.queue) (entries_of gs) (entries_of hs)
      ∙ ap (λ (l : List Entry). (x ++ a.queue) ++ l) (sym (flat_map-append (λ (es : List Entry). es) gs hs));
}

-- a journal that there may be grows by nothing
pub stands : (j : Option JournalState) (published : List Entry) → AllKept j published → Grows j published j published
stands None published is = tt
stands (Some j) published is = ([], by_none j published is)

-- and by one step more
pub steps_on : (a b c : Option JournalState) (x y z : List Entry) → Grows a x b y → AllKept b y → Steps b y c z → Grows a x c z
steps_on None None None x y z grows is step = tt
steps_on None None (Some c) x y z grows is step = absurd step
steps_on None (Some b) c x y z grows is step = absurd grows
steps_on (Some a) None c x y z grows is step = absurd grows
steps_on (Some a) (Some b) None x y z grows is step = absurd step
steps_on (Some a) (Some b) (Some c) x y z (gs, first) is (hs, few, second) = (gs ++ hs, grows_twice a b c x y z gs hs first is second)
