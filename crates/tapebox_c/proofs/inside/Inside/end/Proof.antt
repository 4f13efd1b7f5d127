-- `end` takes apart an `Inside` that owns nothing.
use Rattle.std.proofs.Common.{◌≡◌, List, [], ◌∷◌, ◌++◌, refl, sym, subst}
use mir.Val.{Val, vunit}
use base.Logic.{SProp, ent, id⊢}
use base.Fml.{ftrue, fsep}
use prog.Wp.{WpFn}
use types.Kit.{‵, raw, ◌⊛◌, ◌$◌, ◌∵◌, !, qed, move, drop, split, join, fsplit, fjoin, suffices, feq_i, done}
use types.Run.{unit_lit, of_opd, returns, enter}
use types.ByLocal.{alloc_all, pass_all, free_all, look_at, sets}
use contract.Monad.{fact}
use contract.Running.{tables}
use denote.Exit.{yes}
use denote.Steps.{nothing, heard}
use denote.Triple.Walked.{says, Stays, stay_dropped, walk_of, Goes-dropped, ends_at}
use Rattle.std.proofs.raw_atomic.Walks.{proved_at}
use Rattle.std.specs.Prelude.{None}
use Rattle.tapebox_c.specs.contracts.inside.Inside as Inside
use Rattle.tapebox_c.proofs.AsBox.{FromInside as From}
use Rattle.tapebox_c.proofs.InsideSteps.{word, word_good, inside_out}
use Rattle.tapebox_c.specs.contracts.inside.Inside.end.{ended, clauses}
use Rattle.tapebox_c.specs.contracts.inside.Inside.end.Key.{name as #self}
use Rattle.tapebox_c.proofs.inside.Inside.end.Statement.{statement}
use Rattle.tapebox_c.proofs.inside.Inside.end.Code as code

pub end_spec : {M : Type 1} → statement M
end_spec 𝓤 𝓛 𝓜 𝓡 wired =
    let H = 𝓛.H in let 𝓣 = tables 𝓤 H 𝓜 𝓡 𝓡.env in let c = clauses 𝓛 𝓜.mem 𝓡.returns in let fn = code.function in
    let hs : Stays ended.signature.params ended.kept = (stay_dropped From yes, tt) in
    proved_at 𝓛 ended hs c 𝓜 𝓡 (Goes-dropped 𝓛 0 From yes (λ κs x f. refl), tt) #self fn (code.unfolded 𝓤 H 𝓜 𝓡 wired) (λ z are.
    let i = z.0.3.0 in let Post : Val → SProp 𝓤 = (walk_of 𝓛 ended hs c).post z in let Run : List Val → SProp 𝓤 = λ ws. WpFn 𝓤 H 𝓣.C 𝓣.Λ fn ws Post in
    qed 𝓛 ((‵ ftrue ⊛ ‵ (fsep (Inside.the_row.own_val i z.0.4.0) ftrue)) ∷ raw (fact 𝓤 (i.held ≡ None)) ∷ []) ∵ split ! $ drop ! $ move ! (1 ∷ []) $ heard ! (i.held ≡ None) (λ none. fsplit ! $ inside_out ! i z.0.4.0 (λ h ws fits.
    drop ! $ drop ! $ drop ! $
    suffices ! (Run (word i.at h ∷ [])) (subst (λ (us : List Val). ent 𝓤 (Run (word i.at h ∷ [])) (Run us)) (sym (λ j. ws j ++ [])) (id⊢ 𝓤 (Run (word i.at h ∷ [])))) $
    enter ! 𝓣.C 𝓣.Λ fn (word i.at h ∷ []) Post $ alloc_all ! (λ l. pass_all ! refl (word_good i.at h fits, tt) $
    sets ! (of_opd ! (unit_lit !)) refl (tt, tt) $ returns ! (look_at ! 0 refl) $ free_all ! refl $
    suffices ! _ (ends_at 𝓛 ended hs c z vunit tt (tt, tt) (tt, tt)) $ says ! none $
    feq_i ! _ (vunit ∷ []) _ refl $ nothing ! $ nothing ! $ fjoin ! $ join ! $ nothing ! $ join ! $ done !))))
