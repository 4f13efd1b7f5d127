-- The machine value of a `Seen`, and what a `&` is made of. Assumes `Logic`.
use Rattle.std.proofs.Common.{ℕ, [], ◌∷◌, refl}
use seplogic.Ra.Ura.{Ura}
use mir.Val.{Val, vstruct, vcons, vnil}
use base.Logic.{ent, sep, emp, wand, apply∗}
use base.Fml.{Lft, Fml, fbor}
use base.Shift.{Keyless}
use types.Logic.{Logic, sem, lfts}
use types.Kit.{‵, raw, ◌⊛◌, later, ◌$◌, ◌∵◌, !, qed, move, drop, split, use1, use2, updating, await, now, done}
use denote.RattleType.{RattleType}
use denote.Shadow.{makes_shadow}
use denote.Sharing.{said}
use denote.Struct.Struct.{Struct}
use denote.Struct.Owning.{shape}
use denote.Struct.Lending.{Lends}
use Rattle.std.specs.declared.option.Option.{Option}
use Rattle.std.specs.declared.option.Option.TheVariants.{None, Some}
use Rattle.once_cell.specs.Once.{noted}
use Rattle.seen_cells.specs.contracts.Seen as seen

-- the machine value of a `Seen`: a struct with an empty struct as its one field
abbrev pub token : Val
token = vstruct (vcons (vstruct vnil) vnil)

-- what is noted is keyless, of a value or of none
pub noted_keyless : (R : RattleType) (γ : ℕ) (k : Option R.Denot) → Keyless (noted R γ k)
noted_keyless R γ None = tt
noted_keyless R γ (Some x) = tt

module _ {M : Type 1} {𝓤 : Ura M} (𝓛 : Logic 𝓤) (R : RattleType) where
  -- the type of a `Seen` of values of type R
  abbrev pub Seen : RattleType
  Seen = seen.the_row R

  -- the ownership of a `Seen`'s machine value
  abbrev pub Data : Fml
  Data = (Struct (shape (seen.the_type R))).own_val (tt, tt) (token ∷ [])

  -- a `Seen`'s machine value is owned out of nothing
  pub seen_made : ent 𝓤 (emp 𝓤) (sem 𝓛 Data)
  seen_made = makes_shadow 𝓛 Data (λ vss. (tt, ((λ uss. (tt, tt)), tt))) ((vstruct vnil ∷ [], tt), (refl, ((tt, (refl, tt)), tt)))

-- what can be had twice can be lent as something shared, for any lifetime
pub lends_twice : {M : Type 1} {𝓤 : Ura M} (𝓛 : Logic 𝓤) (P : Fml) → ent 𝓤 (sem 𝓛 P) (sep 𝓤 (sem 𝓛 P) (sem 𝓛 P)) → (l : Lft) → Lends 𝓛 P (said P) l
lends_twice {𝓤 = 𝓤} 𝓛 P twice l κ ts inc sp = let Back = 𝓛.H.⇛ (sep 𝓤 (𝓛.A.bor κ P) (lfts 𝓛 ts)) in
    qed 𝓛 (‵ (fbor κ P) ∷ raw (lfts 𝓛 ts) ∷ []) ∵ updating ! $ use2 𝓛 (later (‵ P ⊛ raw (wand 𝓤 (sem 𝓛 P) Back)))
    (𝓛.more.bor_acc_by κ ts P sp) $ await ! tt $ split ! $ use1 𝓛 (‵ P ⊛ ‵ P) twice $ split ! $ move ! (0 ∷ 2 ∷ []) $
    use2 𝓛 (later (‵ (fbor κ P) ⊛ raw (lfts 𝓛 ts))) (apply∗ 𝓤 (sem 𝓛 P) Back) $ await ! tt $ split ! $ drop ! $ move ! (1 ∷ 0 ∷ []) $ now ! $ done !
