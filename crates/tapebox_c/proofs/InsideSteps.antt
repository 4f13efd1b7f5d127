-- The machine value of an `Inside`. Assumes `Logic`.
use Rattle.std.proofs.Common.{◌≡◌, List, [], ◌∷◌, ◌++◌, refl, subst}
use mathlib.Core.Bool.{Bool, true, false, not, ◌&&◌}
use lib.Dec.{T, lit<}
use seplogic.Ra.Ura.{Ura}
use mir.Syntax.{impl, tnil, dnil, ty_ptr}
use mir.Val.{Val, vstruct, vcons, vnil, of_list, has_ty, WT}
use types.Logic.{Logic}
use base.Logic.{id⊢}
use types.Kit.{Item, Goal, Seq, Step, step, ‵, ◌$◌, use1, move, drop, fsplit, fjoin, fpick, fpack, feq_i, feq_l}
use denote.RattleType.{Valss}
use denote.RawPtr.{Ptr, RawPtr, block_ptr, null_ptr, ptr_val}
use denote.Steps.{nothing}
use denote.Param.{layout}
use denote.Struct.Struct.{within}
use denote.Struct.Owning.{shape}
use Rattle.std.specs.Prelude.{Option, Some, None, is_some}
use Rattle.std.specs.contracts.alloc.Global as Heap
use Rattle.std.specs.contracts.impls.GlobalAllocator.TheImpl.{ghosts, dict}
use Rattle.std.proofs.alloc.Global.TheLaws as heap
use Rattle.std.proofs.alloc.Calls.{Al, Fits, handle_tells}
use Rattle.std.proofs.BoxSteps.Form.{P, owning}
use Rattle.tapebox_c.specs.Inside.{inside_owns}
use Rattle.tapebox_c.proofs.AsBox.{E}
use Rattle.tapebox_c.specs.contracts.held.Held as Held
use Rattle.tapebox_c.specs.contracts.inside.Inside as Inside

abbrev pub al : Al
al = record { row = Heap.the_row; laws = heap.the_row_laws; g = ghosts; d = dict; drops = impl [] tnil dnil }

-- a pointer and the allocator's handle
abbrev pub word : Ptr → Val → Val
word p h = vstruct (vcons (ptr_val p) (vcons h vnil))

pub ptr_good : (p : Ptr) → T (has_ty ty_ptr (ptr_val p)) × WT (ptr_val p)
ptr_good (block_ptr b o) = (tt, tt)
ptr_good null_ptr = (tt, record { fits = lit< tt })

both_tt : (x y : Bool) → T x → T y → T (x && (y && true))
both_tt true true s t = tt
both_tt true false s t = absurd t
both_tt false y s t = absurd s

pub word_good : (p : Ptr) (h : Val) → Fits al h → T (has_ty ty_ptr (ptr_val p) && (has_ty (layout Heap.the_row) h && true)) × WT (word p h)
word_good p h fits = (both_tt (has_ty ty_ptr (ptr_val p)) (has_ty (layout Heap.the_row) h) (ptr_good p).0 fits.0, ((ptr_good p).1, (fits.1, tt)))

-- what a full inside holds
pub held_of : (h : Option Held.the_row.Denot) → is_some h ≡ true → (x : Held.the_row.Denot) × (h ≡ Some x)
held_of None e = absurd (subst (λ (b : Bool). T (not b)) e tt)
held_of (Some x) e = (x, refl)

module _ {M : Type 1} {𝓤 : Ura M} {𝓛 : Logic 𝓤} {K : Type 0} {Γ : List (Item 𝓤)} {G : Goal 𝓤 𝓛.H} where
  pub inside_out : K → (d : Inside.the_row.Denot) (vs : List Val)
      → ((h : Val) → vs ≡ word d.at h ∷ [] → Fits al h → Seq K 𝓛 (‵ (inside_owns d.alloc d.at d.held) ∷ ‵ (Heap.the_row.own_val d.alloc (h ∷ [])) ∷ Γ) G)
      → Seq K 𝓛 (‵ (Inside.the_row.own_val d vs) ∷ Γ) G
  inside_out t d vs k =
      fsplit t $ fpick t (λ vss. fsplit t $ feq_l t (λ ev. fsplit t $ feq_l t (λ ep. fsplit t $ handle_tells al t d.alloc vss.1.0 (λ h ea fits. move t (1 ∷ []) $ drop t $ move t (1 ∷ []) $ k h
      (subst (λ (ws : List Val). vs ≡ vstruct (of_list (ptr_val d.at ∷ (ws ++ []))) ∷ []) ea (subst (λ (ps : List Val). vs ≡ vstruct (of_list (ps ++ (vss.1.0 ++ []))) ∷ []) ep ev)) fits))))

  pub inside_in : K → (p : Ptr) (h : Val) (a : Heap.the_row.Denot) (held : Option Held.the_row.Denot)
      → Step K 𝓛 (‵ (Inside.the_row.own_val (record { at = p; alloc = a; held = held }) (word p h ∷ [])) ∷ Γ) G (‵ (inside_owns a p held) ∷ ‵ (Heap.the_row.own_val a (h ∷ [])) ∷ Γ) G
  inside_in t p h a held = step (λ s.
      nothing t $ move t (2 ∷ 0 ∷ []) $ fjoin t $ feq_i t (List Val) (ptr_val p ∷ []) (ptr_val p ∷ []) refl $ fjoin t $ feq_i t (List Val) (word p h ∷ []) (word p h ∷ []) refl $ fjoin t $
      fpack t (Valss (RawPtr ∷ P E ∷ [])) (within (shape (owning E)) (p, (a, tt)) (word p h ∷ [])) (ptr_val p ∷ [], (h ∷ [], tt)) $ fjoin t $
      use1 𝓛 (‵ (Inside.the_row.own_val (record { at = p; alloc = a; held = held }) (word p h ∷ []))) (id⊢ 𝓤 _) $ s)
