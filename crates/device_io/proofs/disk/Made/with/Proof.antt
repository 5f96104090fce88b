-- `with` makes one call more. Assumes `Logic`.
use Rattle.std.proofs.Common.{List, [], ◌∷◌, ◌++◌, refl, lit<}
use mir.Val.{Val, vptr}
use base.Logic.{SProp}
use prog.Wp.{WpFn}
use types.Kit.{‵, raw, prop, ◌⊛◌, ◌$◌, ◌∵◌, !, qed, done, drop, keep, move, split, fsplit, fjoin, feq_l, regoal, suffices}
use types.Run.{lit, and_then, no_more, returns, enter}
use types.ByLocal.{alloc_all, pass_all, free_all, look_at, sets}
use types.Part.{agg}
use contract.Running.{tables}
use denote.Builtin.{RefOf}
use denote.Exit.{yes}
use denote.RattleType.{owns}
use denote.Signature.{plain, types_at, named_lft}
use denote.Steps.{nothing}
use denote.Triple.Entry.{alive}
use denote.Triple.Walked.{says, Stays, stay_dropped, Goes-dropped, walk_of, ends_at}
use Rattle.std.proofs.raw_atomic.Walks.{proved_at}
use Rattle.device_io.proofs.Making.{word, made_in}
use Rattle.device_io.specs.DiskCalls.{call_noted}
use Rattle.device_io.specs.contracts.disk.Made as made
use Rattle.device_io.specs.contracts.disk.Noted as noted
use Rattle.device_io.specs.contracts.disk.Made.with as f
use Rattle.device_io.specs.contracts.disk.Made.with.Key.{name}
use Rattle.device_io.proofs.disk.Made.with.Statement.{statement}
use Rattle.device_io.proofs.disk.Made.with.Code as code

pub with_spec : {M : Type 1} → statement M
with_spec 𝓤 𝓛 𝓜 𝓡 wired =
    let H = 𝓛.H in let 𝓣 = tables 𝓤 H 𝓜 𝓡 𝓡.env in let c = f.clauses 𝓛 𝓜.mem 𝓡.returns in
    let stayed : Stays f.ended.signature.params f.ended.kept = (
      stay_dropped (RefOf (0 ∷ []) tt (plain (λ κs. made.the_row)) (λ κs. tt)) yes,
      (stay_dropped (RefOf (1 ∷ []) tt (plain (λ κs. noted.the_row (named_lft 3 2 tt κs))) (λ κs. tt)) yes, tt),
    ) in
    proved_at 𝓛 f.ended stayed c 𝓜 𝓡 (
      Goes-dropped 𝓛 3 (RefOf (0 ∷ []) tt (plain (λ κs. made.the_row)) (λ κs. tt)) yes (λ κs x w. refl),
      (Goes-dropped 𝓛 3 (RefOf (1 ∷ []) tt (plain (λ κs. noted.the_row (named_lft 3 2 tt κs))) (λ κs. tt)) yes (λ κs x w. refl), tt),
    ) name code.function (code.unfolded 𝓤 H 𝓜 𝓡 wired) (λ z are.
    let a = z.0.3 in let vss = z.0.4 in
    let Post : Val → SProp 𝓤 = (walk_of 𝓛 f.ended stayed c).post z in
    let p = vptr a.0.ref_ptr.0 a.0.ref_ptr.1 in
    let q = vptr a.1.0.ref_ptr.0 a.1.0.ref_ptr.1 in
    qed 𝓛 ((raw (alive 𝓛 f.ended.signature z.0.0 z.0.1) ⊛ ‵ (owns (types_at f.ended.signature.params z.0.0) a vss)) ∷ raw ((c z.0.0 a).requires z.1) ∷ []) ∵
    keep ! (0 ∷ []) $ split ! $ move ! (1 ∷ []) $
    fsplit ! $ fsplit ! $ feq_l ! (λ is₀. drop ! $ fsplit ! $ fsplit ! $ feq_l ! (λ is₁. drop ! $ drop ! $
    regoal ! (λ (us : List Val). prop (WpFn 𝓤 H 𝓣.C 𝓣.Λ code.function (us ++ (vss.1.0 ++ [])) Post)) is₀ refl $
    regoal ! (λ (us : List Val). prop (WpFn 𝓤 H 𝓣.C 𝓣.Λ code.function ((p ∷ []) ++ (us ++ [])) Post)) is₁ refl $
    enter ! 𝓣.C 𝓣.Λ code.function (p ∷ q ∷ []) Post $ alloc_all ! (λ l. pass_all ! refl ((tt, tt), ((tt, tt), tt)) $
    sets ! (agg ! (and_then ! (lit ! tt) (no_more !))) refl (tt, (record { fits = lit< tt }, tt)) $
    returns ! (look_at ! 0 refl) $ free_all ! refl $ made_in ! (a.0.now.calls ++ (call_noted a.1.0.now ∷ [])) $
    suffices ! _ (ends_at 𝓛 f.ended stayed c z word (record { kept = 0; calls = a.0.now.calls ++ (call_noted a.1.0.now ∷ []) }) (tt, (tt, tt)) (tt, (tt, tt))) $
    says ! refl $ nothing ! $ nothing ! $ fjoin ! $ nothing ! $ fjoin ! $ move ! (2 ∷ 0 ∷ 1 ∷ []) $ done !))))
