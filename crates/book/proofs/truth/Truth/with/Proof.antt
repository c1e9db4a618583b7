-- `with` makes a value without bytes.
use Rattle.std.proofs.Common.{[], ◌∷◌, ◌++◌, ◌≡◌, refl}
use mir.Syntax.{named}
use mir.Val.{Val, vptr, vstruct, vnil}
use base.Logic.{SProp, emp}
use types.Kit.{‵, raw, ◌⊛◌, ◌$◌, ◌∵◌, !, qed, by, keep, split, fjoin, use0}
use types.Run.{no_more, returns, enter}
use types.ByLocal.{alloc_all, pass_all, free_all, look_at, sets}
use types.Part.{agg}
use contract.Monad.{fact, fact_i}
use contract.Running.{tables}
use denote.Builtin.{RefOf}
use denote.Exit.{yes}
use denote.Ref.{shr_vals, shr_Tells}
use denote.RattleType.{owns}
use denote.Signature.{types_at, plain}
use denote.Shadow.{makes_shadow}
use denote.Steps.{nothing}
use denote.Triple.Entry.{alive}
use denote.Triple.Walked.{Stays, stay_dropped, walk_of, Goes-dropped}
use Rattle.std.proofs.raw_atomic.Walks.{proved, leaves}
use Rattle.history.specs.contracts.name.Name.{the_row as N}
use Rattle.sealed.specs.contracts.value.Sealed.{the_row as S}
use Rattle.book.specs.BlobBytes.{blob_bytes}
use Rattle.book.specs.contracts.truth.Truth.{the_row as T}
use Rattle.book.specs.contracts.truth.Truth.with as f
use Rattle.book.proofs.truth.Truth.with.Statement.{statement}
use Rattle.book.proofs.truth.Truth.with.Code as code

pub with_spec : {M : Type 1} → statement M
with_spec 𝓤 𝓛 𝓜 𝓡 wired =
    let H = 𝓛.H in let 𝓣 = tables 𝓤 H 𝓜 𝓡 𝓡.env in let En = f.ended in let c = f.clauses 𝓛 𝓜.mem 𝓡.returns in let fn = code.function in
    let B = RefOf (0 ∷ []) tt (plain (λ _. T)) (λ _. tt) in let L = RefOf (1 ∷ []) tt (plain (λ _. N)) (λ _. tt) in let K = RefOf (2 ∷ []) tt (plain (λ _. S)) (λ _. tt) in
    let hs : Stays En.signature.params En.kept = (stay_dropped B yes, (stay_dropped L yes, (stay_dropped K yes, tt))) in
    proved 𝓛 En hs c 𝓜 𝓡 (Goes-dropped 𝓛 3 B yes (λ κs x f. refl), (Goes-dropped 𝓛 3 L yes (λ κs x f. refl), (Goes-dropped 𝓛 3 K yes (λ κs x f. refl), tt))) f.Key.name fn (code.unfolded 𝓤 H 𝓜 𝓡 wired)
    (λ κs. (shr_vals, (shr_vals, (shr_vals, tt)))) (λ κs. (shr_Tells (named 0) κs.0 T, (shr_Tells (named 1) κs.1.0 N, (shr_Tells (named 2) κs.1.1.0 S, tt)))) (λ κs qs bounds a gh are.
    let p : Val = vptr a.0.ref_ptr.0 a.0.ref_ptr.1 in let q : Val = vptr a.1.0.ref_ptr.0 a.1.0.ref_ptr.1 in let r : Val = vptr a.1.1.0.ref_ptr.0 a.1.1.0.ref_ptr.1 in
    let y : (walk_of 𝓛 En hs c).Ghost = ((κs, qs, bounds, a, (p ∷ [], (q ∷ [], (r ∷ [], tt)))), gh) in let Post : Val → SProp 𝓤 = (walk_of 𝓛 En hs c).post y in
    let made : T.Denot = record { of = (a.1.0.now, blob_bytes a.1.1.0.now) ∷ a.0.now.of } in let Owned = T.own_val made (vstruct vnil ∷ []) in
    qed 𝓛 ((raw (alive 𝓛 En.signature κs qs) ⊛ ‵ (owns (types_at En.signature.params κs) a y.0.4)) ∷ raw ((c κs a).requires gh) ∷ []) ∵ split ! $ keep ! (0 ∷ []) $
    enter ! 𝓣.C 𝓣.Λ fn (p ∷ q ∷ r ∷ []) Post $ alloc_all ! (λ l. pass_all ! refl ((tt, tt), ((tt, tt), ((tt, tt), tt))) $
    sets ! (agg ! (no_more !)) refl (tt, tt) $
    use0 𝓛 (‵ Owned) (makes_shadow 𝓛 Owned ((λ vss. (tt, tt)), tt) ((tt, (refl, tt)), tt)) $
    use0 𝓛 (raw (fact 𝓤 (made.of ≡ made.of))) (fact_i 𝓤 (made.of ≡ made.of) (emp 𝓤) refl) $ nothing ! $ nothing ! $ fjoin ! $ nothing ! $ fjoin ! $ nothing ! $ fjoin ! $
    returns ! (look_at ! 0 refl) $ free_all ! refl $ keep ! (3 ∷ 0 ∷ 2 ∷ 1 ∷ []) $ by ! (leaves 𝓛 En hs c y (vstruct vnil) made (tt, (tt, (tt, tt))) (tt, (tt, (tt, tt))))))
