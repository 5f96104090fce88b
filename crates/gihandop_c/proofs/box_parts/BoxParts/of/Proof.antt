-- `of` takes a box apart: the parts own what the box owned. Assumes `Logic`.
use Rattle.std.proofs.Common.{◌≡◌, List, [], ◌∷◌, ◌++◌, refl, sym, ap, ◌∙◌, subst}
use mir.Syntax.{Args, a_type, dcons, dnil}
use mir.MapTy.{inst_fn}
use mir.Raw.{raw as bare}
use mir.Val.{Val, vstruct, of_list}
use base.Logic.{SProp, ent, id⊢, never, fst∗}
use base.Fml.{ftrue, fsep, flft}
use prog.Wp.{WpFn}
use types.Logic.{sem}
use types.Kit.{Item, ‵, raw, ◌⊛◌, some, later, ◌$◌, ◌∵◌, !, qed, done, move, drop, split, split3, join, fsplit, fjoin, fpick, feq_l, pick, await, rewrite, suffices, use1}
use types.Part.{agg, sub, whole}
use types.Run.{stop, fld, of_opd, no_more, and_then, returns, enter}
use types.ByLocal.{alloc_all, pass_all, free_all, look_at, get, get_in, sets, lands_as}
use contract.Monad.{fact}
use contract.Running.{tables}
use denote.Exit.{no}
use denote.Param.{bounded}
use denote.RattleType.{RattleType, owns}
use denote.RawPtr.{Ptr, RawPtr, block_ptr, null_ptr, ptr_val, in_a_block}
use denote.Signature.{types_at, plain}
use denote.Steps.{heard, nothing, only}
use denote.Struct.Tuple.{Tuple}
use denote.Triple.Call.{calls_at}
use denote.Triple.Spec.{triple_of}
use denote.Triple.Table.{framed}
use denote.Triple.Walked.{says, Stays, stay_dropped, walk_of, ends_at}
use Rattle.core.proofs.alloc.Calls.{token, handle_tells, Goes-blank}
use Rattle.std.proofs.raw_atomic.Walks.{proved_at}
use Rattle.std_alloc.specs.Box.Ownership.{box_owns}
use Rattle.std_alloc.proofs.BoxSteps.Form.{Bx, D, τ, R, P, B, word, box_typed}
use Rattle.std_alloc.proofs.BoxSteps.Steps.{box_out, box_in}
use Rattle.std_alloc.specs.contracts.boxed.Box.into_raw_with_allocator as apart
use Rattle.std_alloc.proofs.boxed.Box.into_raw_with_allocator.Met.{met}
use Rattle.gihandop_c.specs.contracts.box_parts.BoxParts as parts
use Rattle.gihandop_c.specs.contracts.box_parts.BoxParts.of as f
use Rattle.gihandop_c.specs.contracts.box_parts.BoxParts.of.Key.{name}
use Rattle.gihandop_c.proofs.box_parts.BoxParts.of.Statement.{statement}
use Rattle.gihandop_c.proofs.box_parts.BoxParts.of.Code as code

pub of_spec : {M : Type 1} → statement M
of_spec 𝓤 𝓛 𝓜 𝓡 wired T A LT LA g d dd dx allocator drops glue =
    let H = 𝓛.H in let 𝓣 = tables 𝓤 H 𝓜 𝓡 𝓡.env in
    let E : Bx = record { row = T; laws = LT; al = record { row = A; laws = LA; g = g; d = d; drops = dd } } in
    let args : Args = bounded (a_type ∷ a_type ∷ []) (T, (A, tt)) (dcons d (dcons dd (dcons dx dnil))) in
    let fn = inst_fn args code.function in
    let En = f.ended T A g d dd dx in let c = f.clauses T A g d dd dx 𝓛 𝓜.mem 𝓡.returns in
    let stayed : Stays En.signature.params En.kept = (stay_dropped (plain (λ _. B E)) no, tt) in
    let Parts : RattleType = parts.the_row (R E) (P E) g in
    let G = triple_of 𝓛 (apart.signature T A g d dd dx) (apart.spec T A g d dd dx 𝓛 𝓜.mem 𝓡.returns) in
    proved_at 𝓛 En stayed c 𝓜 𝓡 (Goes-blank 𝓛 2 (plain (λ _. B E)) no (λ κs x v. tt), tt) (name args) fn
    (code.unfolded 𝓤 H 𝓜 𝓡 wired (T, (A, tt)) d dd dx) (λ z are.
    let κs = z.0.0 in let qs = z.0.1 in let owned = z.0.3.0 in let a = owned.alloc in
    let Post : Val → SProp 𝓤 = (walk_of 𝓛 En stayed c).post z in
    let Run : List Val → SProp 𝓤 = λ vs. WpFn 𝓤 H 𝓣.C 𝓣.Λ fn vs Post in
    let tokens : Item 𝓤 = ‵ (flft κs.0 qs.0) ⊛ ‵ (flft κs.1.0 qs.1.0) ⊛ ‵ ftrue in
    qed 𝓛 ((tokens ⊛ ‵ (owns (types_at En.signature.params κs) z.0.3 z.0.4)) ∷ raw ((c κs z.0.3).requires z.1) ∷ []) ∵
    split ! $ move ! (1 ∷ []) $ fsplit ! $ box_out E ! owned z.0.4.0 (λ b o hv e vs fits. box_in E ! owned b o owned.value e refl $
    let w : Val = word E hv b o in let typed = box_typed E hv b o fits in
    let y : G.Ghost = ((κs, qs, tt, (owned, tt), (w ∷ [], tt)), tt) in
    -- [the box; nothing; the tokens; what is asked, which is nothing]
    fjoin ! $ move ! (1 ∷ 0 ∷ []) $ join ! $ join ! $ use1 𝓛 (raw (G.pre y)) (id⊢ 𝓤 _) $
    suffices ! (Run (w ∷ [])) (subst (λ (us : List Val). ent 𝓤 (Run (w ∷ [])) (Run us)) (sym (λ i. vs i ++ [])) (id⊢ 𝓤 (Run (w ∷ [])))) $
    enter ! 𝓣.C 𝓣.Λ fn (w ∷ []) Post $ alloc_all ! (λ l. pass_all ! refl (typed, tt) $
    sets ! (of_opd ! (get ! refl)) refl typed $
    calls_at ! (framed 𝓤 H 𝓜 𝓣) G
    (met 𝓤 𝓛 𝓜 𝓡 (code.calls-std_alloc::boxed::Box::into_raw_with_allocator 𝓡.env wired) T A LT LA g d dd dx allocator drops glue) y
    (and_then ! (get ! refl) (no_more !)) (λ u.
    use1 𝓛 (later (some (λ (r : Ptr × A.Denot). (tokens ⊛ ‵ ((Tuple (RawPtr ∷ P E ∷ [])).own_val r (u ∷ []))) ⊛
    some (λ (_ : (Unit {0} × (Unit {0} × Unit {0})) × Unit {0}). ‵ (fsep (fsep ftrue (fsep ftrue ftrue)) ftrue) ⊛
    (raw (fact 𝓤 (r.1 ≡ a)) ⊛ ‵ (box_owns (token E.al a) (R E) r.0 owned.value)))))) (id⊢ 𝓤 _) $
    await ! tt $ pick ! (λ r. split ! $ move ! (1 ∷ []) $ pick ! (λ _. split3 ! $ drop ! $ heard ! (r.1 ≡ a) (λ same.
    in_a_block ! r.0 (λ p. box_owns (token E.al a) (R E) p owned.value) (fst∗ 𝓤 (never 𝓤) (sem 𝓛 (token E.al a (bare (τ E)) null_ptr))) (λ b' o' e'.
    -- [what the box owned; the pair and the tokens]
    move ! (1 ∷ []) $ split ! $ move ! (1 ∷ []) $ fpick ! (λ vss. fsplit ! $ feq_l ! (λ eu. fsplit ! $ feq_l ! (λ ep. fsplit ! $
    rewrite ! 0 (λ (s : A.Denot). ‵ (A.own_val s vss.1.0)) same refl $ handle_tells E.al ! a vss.1.0 (λ hv' eh fits'.
    let typed' = box_typed E hv' b' o' fits' in
    let made : Parts.Denot = record { at = block_ptr b' o'; alloc = a; value = owned.value } in
    let boxed : D E = record { ptr = block_ptr b' o'; alloc = a; value = owned.value } in
    lands_as ! (ap only (eu ∙ (λ j. vstruct (of_list ((ep ∙ ap (λ (p : Ptr). ptr_val p ∷ []) e') j ++ (eh j ++ []))) ∷ []))) refl typed' $
    sets ! (of_opd ! (get_in ! (fld ! refl (stop !)) (sub ! 0 refl (whole !)))) refl (tt, tt) $
    sets ! (of_opd ! (get_in ! (fld ! refl (stop !)) (sub ! 1 refl (whole !)))) refl fits' $
    sets ! (of_opd ! (get ! refl)) refl fits' $
    sets ! (agg ! (and_then ! (get ! refl) (and_then ! (get ! refl) (no_more !)))) refl typed' $
    returns ! (look_at ! 0 refl) $ free_all ! refl $
    -- [the handle; nothing; the tokens; what the box owned]
    move ! (3 ∷ []) $ fsplit ! $ box_in E ! boxed b' o' owned.value refl refl $
    use1 𝓛 (‵ (Parts.own_val made (word E hv' b' o' ∷ []))) (id⊢ 𝓤 _) $ move ! (1 ∷ []) $ drop ! $
    suffices ! _ (ends_at 𝓛 En stayed c z (word E hv' b' o') made ((tt, (tt, tt)), tt) (tt, tt)) $ says ! refl $
    nothing ! $ nothing ! $ fjoin ! $ join ! $ move ! (1 ∷ 0 ∷ []) $ join ! $ done !))))))))))))
