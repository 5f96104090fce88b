-- `as_mut` tells by the pointer whether there is a host, and lends it. Assumes `Logic`.
use Rattle.std.proofs.Common.{Option, List, [], ◌∷◌, MutBor, ap, refl, sym, lit<}
use base.Fml.{GName, ftrue, flft, fres}
use base.Fraction.{full_share}
use mir.Syntax.{named}
use mir.Val.{Val, vptr, vcons, vnil}
use types.Kit.{‵, ◌⊛◌, some, later, at_ret, ◌$◌, ◌∵◌, !, qed, done, move, keep, drop, use0, use1, split, split3, join, group, pick, await, rewrite, fsplit, fsplit3, fjoin, feq_i, suffices, frame}
use types.Logic.{sem}
use types.Run.{enter, of_opd, lit, bin, addr, load, stop, fld, no_more, and_then, first, blocks, branches, skips, exec, returns, returns_within}
use types.ByLocal.{alloc_all, pass_all, free_all, look_at, get, through, sets, sets_last, is, env}
use types.Match.{live}
use types.Part.{agg, look_in, sub, whole}
use contract.Running.{tables}
use denote.Exit.{no}
use denote.Follow.{follows, follows_by, lends_Part}
use denote.Memory.{cell_at}
use denote.RattleType.{RattleType}
use denote.RawPtr.{Ptr, block_ptr, null_ptr, ptr_val, tests_null}
use denote.Ref.{MutRef, mut_vals, mut_Tells}
use denote.Signature.{type_at, plain, mut_ref_to}
use denote.Steps.{nothing, opens, closes}
use denote.Triple.Walked.{says, Stays, stay_dropped, walk_of, Goes-spent_ref, ends_at}
use Rattle.core.proofs.alloc.Shapes.{after}
use Rattle.core.proofs.atomic.Steps.{Ptr-Good}
use Rattle.core.proofs.option.Made.{Some-of, none_of}
use Rattle.core.specs.declared.option.Option.TheVariants.{None, Some}
use Rattle.std.proofs.raw_atomic.Walks.{proved}
use Rattle.std_heap.specs.contracts.Global as heap
use Rattle.gihandop_c.proofs.Pointers.{OpenRow, pointer_word, pointer_in, pointer_out, null_or_block, Beside, comes_back}
use Rattle.gihandop_c.specs.contracts.host_pointer.HostPointer as pointer
use Rattle.gihandop_c.specs.contracts.host_pointer.HostPointer.as_mut as f
use Rattle.gihandop_c.specs.Lending.{with_host}
use Rattle.gihandop_c.specs.Owned.{owns_the_host}
use Rattle.gihandop_c.proofs.host_pointer.HostPointer.as_mut.Statement.{statement}
use Rattle.gihandop_c.proofs.host_pointer.HostPointer.as_mut.Code as code

abbrev Self : RattleType
Self = pointer.the_row

abbrev stayed : Stays f.ended.signature.params f.ended.kept
stayed = (stay_dropped (mut_ref_to (0 ∷ []) tt (plain (λ _. Self))) no, tt)

-- the global allocator, which has no state
abbrev global : heap.the_row.Denot
global = record { memory = record { seal = tt } }

pub as_mut_spec : {M : Type 1} → statement M
unfolding follows_by
as_mut_spec 𝓤 𝓛 𝓜 𝓡 wired =
    let H = 𝓛.H in let 𝓣 = tables 𝓤 H 𝓜 𝓡 𝓡.env in let c = f.clauses 𝓛 𝓜.mem 𝓡.returns in let W = walk_of 𝓛 f.ended stayed c in let fn = code.function in
    proved 𝓛 f.ended stayed c 𝓜 𝓡 (Goes-spent_ref 𝓛 1 (0 ∷ []) tt (plain (λ _. Self)), tt)
    f.Key.name fn (code.unfolded 𝓤 H 𝓜 𝓡 wired)
    (λ κs. (mut_vals, tt)) (λ κs. (mut_Tells (named 0) κs.0 Self, tt)) (λ κs qs bounds a _ are.
    let κ = κs.0 in let q = qs.0 in let r = a.0 in let b = r.ref_ptr.0 in let o = r.ref_ptr.1 in let γ = r.ghost_name in let d = r.now in let vs = mut_vals r in
    let y : W.Ghost = ((κs, qs, bounds, a, (vs, tt)), tt) in
    let Out : RattleType = type_at f.ended.signature.result κs in
    let Lent : RattleType = MutRef (named 0) κ OpenRow in
    qed 𝓛 (((‵ (flft κ q) ⊛ ‵ ftrue) ⊛ ‵ ((MutRef (named 0) κ Self).own_val r vs) ⊛ ‵ ftrue) ∷ ‵ ftrue ∷ []) ∵
    split ! $ split ! $ move ! (2 ∷ []) $ split ! $ keep ! (0 ∷ 2 ∷ []) $
    enter ! _ _ _ _ _ $ alloc_all ! (λ l. pass_all ! refl ((tt, tt), tt) $
    let Locals = env fn.locals l in
    fsplit3 ! $ drop ! $ opens ! tt Self b o (λ us. move ! (1 ∷ []) $ pointer_out ! d us (λ eu.
    -- [what the pointer owns; its place; the open borrow, in three entries; the token]
    rewrite ! 1 (λ (ws : List Val). ‵ (cell_at full_share Self.mir ws b o)) eu refl $ null_or_block ! global d.at d.host
    (λ is_null so. let none : Val = live 0 vnil in
    sets ! (is ! (of_opd ! (load ! (through ! refl (fld ! refl (stop !))) (look_in ! 0 (sub ! 0 refl (whole !))))) (ap ptr_val is_null)) refl
    (Ptr-Good null_ptr) $
    sets ! (of_opd ! (get ! refl)) refl (Ptr-Good null_ptr) $ sets ! (bin ! (get ! refl) (lit ! tt) tt) refl (tt, tt) $
    first ! $ branches ! (get ! refl)
    (λ _. sets ! (agg ! (and_then ! (lit ! tt) (no_more !))) refl (tt, (record { fits = lit< tt }, tt)) $
    feq_i ! Ptr d.at null_ptr is_null $ rewrite ! 0 (λ (s : Option OpenRow.Denot). ‵ (owns_the_host OpenRow d.at s)) (sym so) refl $ pointer_in ! d.at d.host $
    move ! (1 ∷ 0 ∷ []) $ closes ! tt Self d (pointer_word d.at ∷ []) b o $
    use1 𝓛 (‵ (fres γ (Self.coded.code d))) (𝓛.names.obs-res γ (Self.coded.code d)) $ move ! (1 ∷ []) $ drop ! $
    returns_within ! (W.post y) refl (look_at ! 0 refl) $ free_all ! refl $ use0 𝓛 (‵ (Out.own_val None (none ∷ []))) (none_of 𝓛 Lent) $
    -- [the result; the last value of the pointer; the token]
    suffices ! _ (ends_at 𝓛 f.ended stayed c y none None (tt, tt) (tt, tt)) $ nothing ! $ nothing ! $ fjoin ! $ join ! $
    nothing ! $ move ! (3 ∷ 0 ∷ []) $ join ! $ join ! $ frame ! $ says ! (sym so) $ done !)
    (λ wrong. absurd wrong))
    (λ b' o' x is_block so tested. let at : Val = vptr b' o' in let some_at : Val = live 1 (vcons at vnil) in
    let back = comes_back 𝓛 d b' o' b o is_block in
    sets ! (is ! (of_opd ! (load ! (through ! refl (fld ! refl (stop !))) (look_in ! 1 (sub ! 0 refl (whole !))))) (ap ptr_val is_block)) refl (tt, tt) $
    sets ! (of_opd ! (get ! refl)) refl (tt, tt) $ sets ! (bin ! (get ! refl) (lit ! tt) (tests_null (block_ptr b' o') tested)) refl (tt, tt) $
    first ! $ branches ! (get ! refl) (λ wrong. absurd wrong)
    (λ _. skips ! $ exec ! 𝓣.C 𝓣.Λ Locals (after 4 fn.body) (at_ret Locals (W.post y)) $
    first ! $ blocks ! $ sets ! (addr ! (through ! refl (stop !))) refl (tt, tt) $
    sets_last ! (agg ! (and_then ! (lit ! tt) (and_then ! (get ! refl) (no_more !)))) refl (tt, (record { fits = lit< tt }, (tt, tt))) $
    exec ! 𝓣.C 𝓣.Λ Locals (after 5 fn.body) (at_ret Locals (W.post y)) $
    sets ! (of_opd ! (get ! refl)) refl (tt, (record { fits = lit< tt }, (tt, tt))) $
    fsplit ! $ move ! (1 ∷ 2 ∷ []) $ fjoin ! $ move ! (2 ∷ 3 ∷ 4 ∷ 1 ∷ 0 ∷ []) $ group ! 5 $
    use1 𝓛 (later
    (some (λ (γ' : GName). ‵ (Lent.own_val (record { ref_ptr = (b', o'); ghost_name = γ'; now = x }) (at ∷ [])) ⊛ ‵ (flft κ q) ⊛ ‵
    (follows Self OpenRow γ γ' (with_host d)))))
    (lends_Part 𝓛 Self OpenRow (with_host d) (named 0) κ q b o b' o' γ (sem 𝓛 (Beside 𝓛 d b' o' b o)) back (Self.coded.code d) (Self.coded.code d) x) $ await !
    tt $ pick ! (λ γ'.
    let lent : MutBor OpenRow.Denot = record { ref_ptr = (b', o'); ghost_name = γ'; now = x } in
    split3 ! $ use1 𝓛 (‵ (Out.own_val (Some lent) (some_at ∷ []))) (Some-of 𝓛 Lent lent at) $
    returns ! (look_at ! 0 refl) $ free_all ! refl $
    -- [the result; the token; what the pointer follows]
    suffices ! _ (ends_at 𝓛 f.ended stayed c y some_at (Some lent) (tt, tt) (tt, tt)) $ nothing ! $ nothing ! $ fjoin ! $ join ! $
    nothing ! $ move ! (2 ∷ 0 ∷ []) $ join ! $ join ! $ frame ! $ says ! (sym so) $ done !)))))))
