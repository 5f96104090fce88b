-- `none` makes no calls. Assumes `Logic`.
use Rattle.std.proofs.Common.{[], ◌∷◌, refl, lit<}
use base.Fml.{ftrue}
use types.Kit.{‵, raw, ◌⊛◌, ◌$◌, ◌∵◌, !, qed, done, keep, split, join, suffices}
use types.Run.{lit, and_then, no_more, returns, enter}
use types.ByLocal.{alloc_all, pass_all, free_all, look_at, sets}
use types.Part.{agg}
use contract.Running.{tables}
use denote.RattleType.{owns}
use denote.Signature.{types_at}
use denote.Steps.{nothing}
use denote.Triple.Walked.{says, Stays, walk_of, ends_at}
use Rattle.std.proofs.raw_atomic.Walks.{proved_at}
use Rattle.device_io.proofs.Making.{word, made_in}
use Rattle.device_io.specs.contracts.disk.Made.none as f
use Rattle.device_io.specs.contracts.disk.Made.none.Key.{name}
use Rattle.device_io.proofs.disk.Made.none.Statement.{statement}
use Rattle.device_io.proofs.disk.Made.none.Code as code

pub none_spec : {M : Type 1} → statement M
none_spec 𝓤 𝓛 𝓜 𝓡 wired =
    let 𝓣 = tables 𝓤 𝓛.H 𝓜 𝓡 𝓡.env in let c = f.clauses 𝓛 𝓜.mem 𝓡.returns in
    let stayed : Stays f.ended.signature.params f.ended.kept = tt in
    proved_at 𝓛 f.ended stayed c 𝓜 𝓡 tt name code.function (code.unfolded 𝓤 𝓛.H 𝓜 𝓡 wired) (λ z are.
    qed 𝓛 ((‵ ftrue ⊛ ‵ (owns (types_at f.ended.signature.params z.0.0) z.0.3 z.0.4)) ∷ raw ((c z.0.0 z.0.3).requires z.1) ∷ []) ∵
    split ! $ enter ! 𝓣.C 𝓣.Λ code.function [] ((walk_of 𝓛 f.ended stayed c).post z) $ alloc_all ! (λ l. pass_all ! refl tt $
    sets ! (agg ! (and_then ! (lit ! tt) (no_more !))) refl (tt, (record { fits = lit< tt }, tt)) $
    returns ! (look_at ! 0 refl) $ free_all ! refl $ made_in ! [] $
    keep ! (0 ∷ []) $
    suffices ! _ (ends_at 𝓛 f.ended stayed c z word (record { kept = 0; calls = [] }) tt tt) $ says ! refl $
    nothing ! $ join ! $ nothing ! $ join ! $ done !))
