-- The machine value of a pointer to a host. Assumes `Logic`.
use Rattle.std.proofs.Common.{◌≡◌, ℕ, List, [], ◌∷◌, ◌++◌, refl, subst, sym}
use seplogic.Ra.Ura.{Ura}
use mir.Raw.{raw as bare}
use mir.Syntax.{impl, tnil, dnil}
use mir.Val.{Val, vstruct, vcons, vnil, of_list}
use base.Fml.{Fml, fsep}
use base.Fraction.{full_share}
use base.Logic.{SProp, ent, sep, guard, via, snd∗, never, fst∗, guard_i}
use types.Logic.{Logic, sem}
use types.Kit.{Item, Goal, Seq, Step, step, ‵, given, ◌$◌, ◌∵◌, !, qed, done, move, rewrite, drop, fsplit, fjoin, fpick, fpack, feq_i, feq_l, use1, learn}
use contract.Monad.{fact_use}
use denote.Builtin.{RawPtr}
use denote.Memory.{cell_at, lone, mem, part_at, part_of}
use denote.RattleType.{RattleType, Valss}
use denote.RawPtr.{Ptr, block_ptr, null_ptr, ptr_val, in_a_block, Testable}
use denote.Steps.{nothing}
use denote.Struct.Struct.{within}
use denote.Struct.Owning.{shape}
use Rattle.core.specs.Ptr.{points_to}
use Rattle.core.specs.declared.option.Option.{Option}
use Rattle.core.specs.declared.option.Option.TheVariants.{None, Some}
use Rattle.std.proofs.GlobalToken.{dealloc_token-Testable}
use Rattle.std_alloc.proofs.BoxSteps.Form.{Bx}
use Rattle.std_alloc.specs.Box.Ownership.{box_owns}
use Rattle.std_heap.specs.contracts.Global as heap
use Rattle.std_heap.specs.contracts.GlobalAllocator.TheImpl.{ghosts, dict}
use Rattle.std_heap.proofs.Global.TheLaws as heap_laws
use Rattle.gihandop_c.proofs.opened.Opened.TheLaws as opened_laws
use Rattle.gihandop_c.specs.contracts.host_pointer.HostPointer as pointer
use Rattle.gihandop_c.specs.contracts.opened.Opened as opened
use Rattle.gihandop_c.specs.Lending.{with_host}
use Rattle.gihandop_c.specs.Owned.{may_give_back, owns_the_host}

abbrev pub OpenRow : RattleType
OpenRow = opened.the_row

-- a box of it
abbrev pub E : Bx
E = record {
  row = OpenRow;
  laws = opened_laws.the_row_laws;
  al = record { row = heap.the_row; laws = heap_laws.the_row_laws; g = ghosts; d = dict; drops = impl [] tnil dnil };
}

abbrev pub pointer_word : Ptr → Val
pointer_word p = vstruct (vcons (ptr_val p) vnil)

module _ {M : Type 1} {𝓤 : Ura M} (𝓛 : Logic 𝓤) where
  -- whoever may give a block back may compare the pointer to it with null
  pub testable : (a : heap.the_row.Denot) (p : Ptr) (x : OpenRow.Denot)
      → ent 𝓤 (sem 𝓛 (box_owns may_give_back OpenRow p x)) (guard 𝓤 (Testable p) (sem 𝓛 (box_owns may_give_back OpenRow p x)))
  testable a p x = let Owns : SProp 𝓤 = sem 𝓛 (box_owns may_give_back OpenRow p x) in
      fact_use 𝓤 (Testable p) (via 𝓤 _ (snd∗ 𝓤 (sem 𝓛 (points_to OpenRow p x)) (sem 𝓛 (ghosts.dealloc_token a (bare (lone OpenRow.mir)) p)))
      (dealloc_token-Testable 𝓛 a (bare (lone OpenRow.mir)) p)) (guard_i 𝓤 (Testable p) Owns)

module _ {M : Type 1} {𝓤 : Ura M} {𝓛 : Logic 𝓤} {K : Type 0} {Γ : List (Item 𝓤)} {G : Goal 𝓤 𝓛.H} where
  -- a pointer is made of what it owns
  pub pointer_in : K → (p : Ptr) (s : Option OpenRow.Denot)
      → Step K 𝓛 (‵ (pointer.the_row.own_val (record { at = p; host = s }) (pointer_word p ∷ [])) ∷ Γ) G (‵ (owns_the_host OpenRow p s) ∷ Γ) G
  pointer_in t p s = step (λ k. let w : Val = pointer_word p in
      nothing t $ feq_i t (List Val) (ptr_val p ∷ []) (ptr_val p ∷ []) refl $ fjoin t $ feq_i t (List Val) (w ∷ []) (w ∷ []) refl $ fjoin t $
      fpack t (Valss (RawPtr ∷ [])) (within (shape pointer.the_type) (p, tt) (w ∷ [])) (ptr_val p ∷ [], tt) $ fjoin t $ k)

  -- and taken apart
  pub pointer_out : K → (d : pointer.the_row.Denot) (vs : List Val)
      → (vs ≡ pointer_word d.at ∷ [] → Seq K 𝓛 (‵ (owns_the_host OpenRow d.at d.host) ∷ Γ) G)
      → Seq K 𝓛 (‵ (pointer.the_row.own_val d vs) ∷ Γ) G
  pointer_out t d vs k = fsplit t $ fpick t (λ vss. fsplit t $ feq_l t (λ whole. fsplit t $ feq_l t (λ field. drop t $
      k (subst (λ (us : List Val). vs ≡ vstruct (of_list (us ++ [])) ∷ []) field whole))))

  -- it is null, or to a block
  pub null_or_block : K → (a : heap.the_row.Denot) (p : Ptr) (s : Option OpenRow.Denot) → (p ≡ null_ptr → s ≡ None → Seq K 𝓛 Γ G)
      → ((b o : ℕ) (x : OpenRow.Denot) → p ≡ block_ptr b o → s ≡ Some x → Testable (block_ptr b o)
      → Seq K 𝓛 (‵ (box_owns may_give_back OpenRow (block_ptr b o) x) ∷ Γ) G)
      → Seq K 𝓛 (‵ (owns_the_host OpenRow p s) ∷ Γ) G
  null_or_block t a p None null block = feq_l t (λ e. null e refl)
  null_or_block t a p (Some x) null block =
      in_a_block t p (λ q. box_owns may_give_back OpenRow q x) (fst∗ 𝓤 (never 𝓤) (sem 𝓛 (may_give_back (bare (lone OpenRow.mir)) null_ptr))) (λ b o e.
      use1 𝓛 (given (Testable (block_ptr b o)) (‵ (box_owns may_give_back OpenRow (block_ptr b o) x))) (testable 𝓛 a (block_ptr b o) x) $
      learn t (λ tested. block b o x e refl tested))

module _ {M : Type 1} {𝓤 : Ura M} (𝓛 : Logic 𝓤) (d : pointer.the_row.Denot) (b o rb ro : ℕ) where
  -- what a pointer keeps while its host is lent: the right to give the block back, and its own place
  abbrev pub Beside : Fml
  Beside = fsep (may_give_back (bare (lone OpenRow.mir)) (block_ptr b o)) (cell_at full_share pointer.the_row.mir (pointer_word d.at ∷ []) rb ro)

  -- with the host in its block again it leads to that
  pub comes_back : d.at ≡ block_ptr b o → (w : OpenRow.Denot)
      → ent 𝓤 (sep 𝓤 (sem 𝓛 ((mem OpenRow).own_at w b o)) (sem 𝓛 Beside)) (sem 𝓛 ((mem pointer.the_row).own_at (with_host d w) rb ro))
  unfolding part_of
  comes_back e w =
      qed 𝓛 (‵ (part_at OpenRow full_share w b o) ∷ ‵ Beside ∷ []) ∵ move ! (1 ∷ []) $ fsplit ! $ move ! (2 ∷ 0 ∷ []) $ fjoin ! $
      rewrite ! 0 (λ (p : Ptr). ‵ (owns_the_host OpenRow p (Some w))) (sym e) refl $ pointer_in ! d.at (Some w) $ move ! (1 ∷ 0 ∷ []) $ fjoin ! $
      fpack ! (List Val) (λ vs. fsep (cell_at full_share pointer.the_row.mir vs rb ro) (pointer.the_row.own_val (with_host d w) vs)) (pointer_word d.at ∷ []) $
      done !
