-- `get_mut` lends the value at the slot's address, and the slot follows it.
use Rattle.std.proofs.Common.{◌≡◌, ◌≢◌, ℕ, List, [], ◌∷◌, refl, sym, ap, ◌∙◌}
use mir.Raw.{raw as bare}
use mir.Syntax.{named}
use mir.Val.{Val, vptr}
use base.Fraction.{full_share}
use base.Logic.{SProp, ent, sep, emp, id⊢}
use base.Fml.{Lft, GName, Fml, ftrue, fsep, flft}
use types.Logic.{sem}
use types.Kit.{‵, raw, ◌⊛◌, some, later, at_ret, ◌$◌, ◌∵◌, !, qed, by, move, keep, drop, split, split3, join, fsplit, fsplit3, fjoin, fpack, pick, group, use0, use1, await, rewrite, done}
use types.Run.{stop, fld, load, addr, of_opd, first, blocks, exec, returns, enter}
use types.ByLocal.{alloc_all, pass_all, free_all, look_at, get, through, sets, sets_last, env}
use types.Part.{sub, whole, look_in}
use contract.Monad.{fact, fact_i}
use contract.Running.{tables}
use denote.Exit.{no}
use denote.Follow.{follows, Part, lends_Part}
use denote.Laws.{Is, shows}
use denote.Memory.{cell_at, part_at, part_of, mem, lone}
use denote.RawPtr.{Ptr, block_ptr}
use denote.Ref.{MutRef, mut_vals, mut_Tells}
use denote.Signature.{plain, mut_ref_to}
use denote.Steps.{nothing, peeks, heard, opens}
use denote.Triple.Walked.{Stays, stay_dropped, walk_of, Goes-spent_ref}
use Rattle.core.specs.declared.option.Option.TheVariants.{None}
use Rattle.core.proofs.atomic.Steps.{tail}
use Rattle.std.proofs.raw_atomic.Walks.{proved, leaves}
use Rattle.std.specs.contracts.impls.GlobalAllocator.TheImpl.{ghosts}
use Rattle.session.specs.Owned.{slot_owns}
use Rattle.session.specs.Holding.{holding}
use Rattle.session.proofs.Words.{word, word_of, points}
use Rattle.session.proofs.Slots.{R, X, S, Address, held_by_address}
use Rattle.session.specs.contracts.slot.Slot.get_mut as f
use Rattle.session.proofs.slot.Slot.get_mut.Statement.{statement}
use Rattle.session.proofs.slot.Slot.get_mut.Code as code

-- what remains of the slot while its box is lent: the right to free the box, and the slot's address
abbrev rest : (b o rb ro : ℕ) → Fml
rest b o rb ro = fsep (ghosts.dealloc_token _ (bare (lone X.mir)) (block_ptr b o)) (cell_at full_share S.mir (word (block_ptr b o) ∷ []) rb ro)

-- with whatever the box holds at last it is the slot again
again : {M : Type 1} {𝓤 : seplogic.Ra.Ura.Ura M} (𝓛 : types.Logic.Logic 𝓤) (d : S.Denot) (b o rb ro : ℕ) → d.at ≡ block_ptr b o → (h : X.Denot)
    → ent 𝓤 (sep 𝓤 (sem 𝓛 ((mem X).own_at h b o)) (sem 𝓛 (rest b o rb ro))) (sem 𝓛 ((mem S).own_at (holding d h) rb ro))
unfolding part_of
again 𝓛 d b o rb ro e h = let p : Ptr = block_ptr b o in
    qed 𝓛 (‵ (part_at X full_share h b o) ∷ ‵ (rest b o rb ro) ∷ []) ∵ move ! (1 ∷ []) $ fsplit ! $ move ! (2 ∷ 0 ∷ []) $ fjoin ! $
    rewrite ! 0 (λ (q : Ptr). ‵ (slot_owns R q h)) (sym e) refl $ use0 𝓛 (‵ (Address.own_val (p, tt) (word p ∷ []))) (points [] [] [] 𝓛 p) $
    rewrite ! 0 (λ (q : Ptr). ‵ (Address.own_val (q, tt) (word p ∷ []))) (sym e) refl $ fjoin ! $ move ! (1 ∷ 0 ∷ []) $ fjoin ! $
    fpack ! (List Val) (λ us. fsep (cell_at full_share S.mir us rb ro) (S.own_val (holding d h) us)) (word p ∷ []) $ done !

pub get_mut_spec : {M : Type 1} → statement M
get_mut_spec 𝓤 𝓛 𝓜 𝓡 wired =
    let H = 𝓛.H in let 𝓣 = tables 𝓤 H 𝓜 𝓡 𝓡.env in let En = f.ended in let c = f.clauses 𝓛 𝓜.mem 𝓡.returns in let fn = code.function in
    let hs : Stays En.signature.params En.kept = (stay_dropped (mut_ref_to (0 ∷ []) tt (plain (λ _. S))) no, tt) in
    proved 𝓛 En hs c 𝓜 𝓡 (Goes-spent_ref 𝓛 1 (0 ∷ []) tt (plain (λ _. S)), tt) f.Key.name fn (code.unfolded 𝓤 H 𝓜 𝓡 wired)
    (λ κs. (mut_vals, tt)) (λ κs. (mut_Tells (named 0) κs.0 S, tt)) (λ κs qs bounds a g are.
    let rb : ℕ = a.0.ref_ptr.0 in let ro : ℕ = a.0.ref_ptr.1 in let γ : GName = a.0.ghost_name in let κ : Lft = κs.0 in let d : S.Denot = a.0.now in
    let y : (walk_of 𝓛 En hs c).Ghost = ((κs, qs, bounds, a, (vptr rb ro ∷ [], tt)), g) in let Post : Val → SProp 𝓤 = (walk_of 𝓛 En hs c).post y in
    qed 𝓛 (((‵ (flft κ qs.0) ⊛ ‵ ftrue) ⊛ ‵ ((MutRef (named 0) κ S).own_val a.0 (vptr rb ro ∷ [])) ⊛ ‵ ftrue) ∷ raw (fact 𝓤 (d.held ≢ None)) ∷ []) ∵
    move ! (1 ∷ []) $ heard ! (d.held ≢ None) (λ holds. split ! $ split ! $ move ! (2 ∷ []) $ split ! $ keep ! (0 ∷ 2 ∷ []) $
    -- [the `&mut`; the token of its lifetime]
    enter ! 𝓣.C 𝓣.Λ fn (vptr rb ro ∷ []) Post $ alloc_all ! (λ l. pass_all ! refl ((tt, tt), tt) $ let Ev = env fn.locals l in
    fsplit3 ! $ move ! (1 ∷ 2 ∷ 3 ∷ []) $ opens ! tt S rb ro (λ us. move ! (1 ∷ []) $ fsplit ! $ peeks ! Address (Is Address) (shows 𝓛 Address) (d.at, tt) us (λ is. drop ! $
    held_by_address ! d.at d.held holds (λ b o e. fsplit ! $
    -- [what the box holds; the right to free it; the slot's address; the open borrow, in three entries]
    let words = word_of [] [] [] d.at us is ∙ ap (λ (p : Ptr). word p ∷ []) e in
    rewrite ! 2 (λ (ws : List Val). ‵ (cell_at full_share S.mir ws rb ro)) words refl $ first ! $ blocks ! $
    sets ! (of_opd ! (load ! (through ! refl (fld ! refl (stop !))) (look_in ! 2 (sub ! 0 refl (whole !))))) refl (tt, tt) $ sets ! (of_opd ! (get ! refl)) refl (tt, tt) $
    sets_last ! (addr ! (through ! refl (stop !))) refl (tt, tt) $ exec ! 𝓣.C 𝓣.Λ Ev (tail fn.body) (at_ret Ev Post) $ sets ! (of_opd ! (get ! refl)) refl (tt, tt) $
    move ! (1 ∷ 2 ∷ []) $ fjoin ! $ move ! (2 ∷ 3 ∷ 4 ∷ 1 ∷ 0 ∷ []) $ group ! 5 $
    let Rest : Fml = rest b o rb ro in let Lent : GName → Fml = λ γ'. (MutRef (named 0) κ X).own_val (record { ref_ptr = (b, o); ghost_name = γ'; now = d.held }) (vptr b o ∷ []) in
    use1 𝓛 (later (some (λ (γ' : GName). raw (Part 𝓛 S X (holding d) (named 0) κ qs.0 rb ro b o γ (sem 𝓛 Rest) (again 𝓛 d b o rb ro e) d.held γ'))))
    (lends_Part 𝓛 S X (holding d) (named 0) κ qs.0 rb ro b o γ (sem 𝓛 Rest) (again 𝓛 d b o rb ro e) (S.coded.code d) (S.coded.code d) d.held) $ await ! tt $ pick ! (λ γ'.
    use1 𝓛 (‵ (Lent γ') ⊛ ‵ (flft κ qs.0) ⊛ ‵ (follows S X γ γ' (holding d))) (id⊢ 𝓤 _) $ split3 ! $
    use0 𝓛 (raw (fact 𝓤 (d.held ≡ d.held))) (fact_i 𝓤 (d.held ≡ d.held) (emp 𝓤) refl) $ move ! (3 ∷ 0 ∷ []) $ join ! $
    nothing ! $ move ! (3 ∷ 0 ∷ []) $ join ! $ nothing ! $ nothing ! $ fjoin ! $
    returns ! (look_at ! 0 refl) $ free_all ! refl $ keep ! (1 ∷ 0 ∷ 3 ∷ 2 ∷ []) $
    by ! (leaves 𝓛 En hs c y (vptr b o) (record { ref_ptr = (b, o); ghost_name = γ'; now = d.held }) (tt, tt) (tt, tt)))))))))
