-- `into_parts` tells by the pointer whether there is a box. Assumes `Logic`.
use Rattle.std.proofs.Common.{◌≡◌, List, [], ◌∷◌, ◌++◌, refl, sym, subst, lit<}
use mir.Val.{Val, vcons, vnil}
use base.Logic.{SProp, ent, id⊢}
use base.Fml.{ftrue}
use prog.Wp.{WpFn}
use types.Kit.{‵, raw, ◌⊛◌, at_ret, ◌$◌, ◌∵◌, !, qed, done, keep, move, split, join, fsplit, fjoin, suffices, use0, use1}
use types.Run.{stop, fld, lit, of_opd, bin, no_more, and_then, first, branches, exec, returns, enter}
use types.ByLocal.{alloc_all, pass_all, free_all, look_at, get, get_in, sets, sets_last, env}
use types.Match.{live}
use types.Part.{agg, sub, whole}
use contract.Running.{tables}
use denote.Exit.{yes}
use denote.Param.{layout}
use denote.RattleType.{RattleType, owns}
use denote.RawPtr.{Ptr, block_ptr, null_ptr, tests_null}
use denote.Signature.{type_at, types_at, plain}
use denote.Steps.{nothing}
use denote.Triple.Walked.{says, Stays, stay_dropped, walk_of, Goes-dropped, ends_at}
use Rattle.core.proofs.alloc.Calls.{handle_tells}
use Rattle.core.proofs.alloc.Shapes.{after}
use Rattle.core.proofs.atomic.Steps.{Ptr-Good}
use Rattle.core.proofs.cell.Inside.{Good}
use Rattle.core.proofs.option.Made.{Some-of, none_of}
use Rattle.core.specs.declared.option.Option.TheVariants.{None, Some}
use Rattle.std.proofs.raw_atomic.Walks.{proved_at}
use Rattle.std_alloc.proofs.BoxSteps.Form.{D, word, box_typed}
use Rattle.std_alloc.proofs.BoxSteps.Steps.{box_in}
use Rattle.std_alloc.proofs.ResultValues.{and_tt}
use Rattle.std_heap.specs.contracts.Global as heap
use Rattle.std_heap.specs.contracts.GlobalAllocator.TheImpl.{ghosts}
use Rattle.gihandop_c.proofs.Pointers.{E, OpenRow, pointer_word, pointer_out, null_or_block}
use Rattle.gihandop_c.specs.contracts.box_parts.BoxParts as parts
use Rattle.gihandop_c.specs.contracts.host_pointer.HostPointer as pointer
use Rattle.gihandop_c.specs.contracts.host_pointer.HostPointer.into_parts as f
use Rattle.gihandop_c.specs.contracts.host_pointer.HostPointer.into_parts.Key.{name}
use Rattle.gihandop_c.proofs.host_pointer.HostPointer.into_parts.Statement.{statement}
use Rattle.gihandop_c.proofs.host_pointer.HostPointer.into_parts.Code as code

pub into_parts_spec : {M : Type 1} → statement M
into_parts_spec 𝓤 𝓛 𝓜 𝓡 wired =
    let H = 𝓛.H in let 𝓣 = tables 𝓤 H 𝓜 𝓡 𝓡.env in let c = f.clauses 𝓛 𝓜.mem 𝓡.returns in let fn = code.function in
    let Parts : RattleType = parts.the_row OpenRow heap.the_row ghosts in
    let stayed : Stays f.ended.signature.params f.ended.kept =
    (stay_dropped (plain (λ _. pointer.the_row)) yes, (stay_dropped (plain (λ _. heap.the_row)) yes, tt)) in
    proved_at 𝓛 f.ended stayed c 𝓜 𝓡 (
      Goes-dropped 𝓛 0 (plain (λ _. pointer.the_row)) yes (λ κs x v. refl),
      (Goes-dropped 𝓛 0 (plain (λ _. heap.the_row)) yes (λ κs x v. refl), tt),
    ) name fn (code.unfolded 𝓤 H 𝓜 𝓡 wired) (λ z are.
    let d = z.0.3.0 in let a = z.0.3.1.0 in let us = z.0.4.0 in let vs = z.0.4.1.0 in
    let Out : RattleType = type_at f.ended.signature.result z.0.0 in
    let Post : Val → SProp 𝓤 = (walk_of 𝓛 f.ended stayed c).post z in
    let Run : List Val → SProp 𝓤 = λ ws. WpFn 𝓤 H 𝓣.C 𝓣.Λ fn ws Post in
    qed 𝓛 ((‵ ftrue ⊛ ‵ (owns (types_at f.ended.signature.params z.0.0) z.0.3 z.0.4)) ∷ raw ((c z.0.0 z.0.3).requires z.1) ∷ []) ∵
    split ! $ move ! (1 ∷ []) $ fsplit ! $ move ! (1 ∷ []) $ fsplit ! $
    -- [the allocator; nothing; the pointer; the tokens; what is asked]
    handle_tells E.al ! a vs (λ hv ea fits. move ! (2 ∷ []) $ pointer_out ! d us (λ eu. null_or_block ! a d.at d.host
    (λ is so. let w : Val = pointer_word null_ptr in let none : Val = live 0 vnil in
    let is_w : us ≡ w ∷ [] = subst (λ (p : Ptr). us ≡ pointer_word p ∷ []) is eu in
    suffices ! (Run (w ∷ hv ∷ []))
    (subst (λ (xs : List Val). ent 𝓤 (Run (w ∷ hv ∷ [])) (Run xs)) (sym (λ i. is_w i ++ (ea i ++ []))) (id⊢ 𝓤 (Run (w ∷ hv ∷ [])))) $
    enter ! 𝓣.C 𝓣.Λ fn (w ∷ hv ∷ []) Post $ alloc_all ! (λ l. pass_all ! refl ((tt, (record { fits = lit< tt }, tt)), (fits, tt)) $
    let Locals = env fn.locals l in
    sets ! (of_opd ! (get_in ! (fld ! refl (stop !)) (sub ! 0 refl (whole !)))) refl (Ptr-Good null_ptr) $
    sets ! (of_opd ! (get ! refl)) refl (Ptr-Good null_ptr) $ sets ! (bin ! (get ! refl) (lit ! tt) tt) refl (tt, tt) $
    first ! $ branches ! (get ! refl)
    (λ _. sets_last ! (agg ! (and_then ! (lit ! tt) (no_more !))) refl (tt, (record { fits = lit< tt }, tt)) $
    exec ! 𝓣.C 𝓣.Λ Locals (after 4 fn.body) (at_ret Locals Post) $
    sets ! (of_opd ! (get ! refl)) refl (tt, (record { fits = lit< tt }, tt)) $
    returns ! (look_at ! 0 refl) $ free_all ! refl $ keep ! [] $ use0 𝓛 (‵ (Out.own_val None (none ∷ []))) (none_of 𝓛 Parts) $
    suffices ! _ (ends_at 𝓛 f.ended stayed c z none None (tt, (tt, tt)) (tt, (tt, tt))) $ says ! (sym so) $
    nothing ! $ nothing ! $ fjoin ! $ nothing ! $ fjoin ! $ join ! $ nothing ! $ join ! $ done !)
    (λ wrong. absurd wrong)))
    (λ b o x is so tested. let w : Val = pointer_word (block_ptr b o) in let made : Val = word E hv b o in
    let typed = box_typed E hv b o fits in let some : Val = live 1 (vcons made vnil) in
    let is_w : us ≡ w ∷ [] = subst (λ (p : Ptr). us ≡ pointer_word p ∷ []) is eu in
    let boxed : D E = record { ptr = block_ptr b o; alloc = a; value = x } in
    let taken : Parts.Denot = record { at = block_ptr b o; alloc = a; value = x } in
    let good : Good (layout Out) some = (and_tt _ typed.0, (record { fits = lit< tt }, (typed.1, tt))) in
    suffices ! (Run (w ∷ hv ∷ []))
    (subst (λ (xs : List Val). ent 𝓤 (Run (w ∷ hv ∷ [])) (Run xs)) (sym (λ i. is_w i ++ (ea i ++ []))) (id⊢ 𝓤 (Run (w ∷ hv ∷ [])))) $
    -- [what the box owns; the allocator; ..]
    fsplit ! $ move ! (0 ∷ 1 ∷ 2 ∷ []) $ box_in E ! boxed b o x refl refl $
    enter ! 𝓣.C 𝓣.Λ fn (w ∷ hv ∷ []) Post $ alloc_all ! (λ l. pass_all ! refl ((tt, (tt, tt)), (fits, tt)) $
    let Locals = env fn.locals l in
    sets ! (of_opd ! (get_in ! (fld ! refl (stop !)) (sub ! 0 refl (whole !)))) refl (tt, tt) $
    sets ! (of_opd ! (get ! refl)) refl (tt, tt) $
    sets ! (bin ! (get ! refl) (lit ! tt) (tests_null (block_ptr b o) tested)) refl (tt, tt) $
    first ! $ branches ! (get ! refl) (λ wrong. absurd wrong)
    (λ _. sets ! (agg ! (and_then ! (get ! refl) (and_then ! (get ! refl) (no_more !)))) refl typed $
    sets_last ! (agg ! (and_then ! (lit ! tt) (and_then ! (get ! refl) (no_more !)))) refl good $
    exec ! 𝓣.C 𝓣.Λ Locals (after 4 fn.body) (at_ret Locals Post) $
    sets ! (of_opd ! (get ! refl)) refl good $ returns ! (look_at ! 0 refl) $ free_all ! refl $ keep ! (0 ∷ []) $
    use1 𝓛 (‵ (Parts.own_val taken (made ∷ []))) (id⊢ 𝓤 _) $ use1 𝓛 (‵ (Out.own_val (Some taken) (some ∷ []))) (Some-of 𝓛 Parts taken made) $
    suffices ! _ (ends_at 𝓛 f.ended stayed c z some (Some taken) (tt, (tt, tt)) (tt, (tt, tt))) $ says ! (sym so) $
    nothing ! $ nothing ! $ fjoin ! $ nothing ! $ fjoin ! $ join ! $ nothing ! $ join ! $ done !))))))
