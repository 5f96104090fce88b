use Rattle.std.proofs.Common.{◌≡◌, ℕ, List, ◌++◌, take, sym, ◌∙◌, ap, subst}
use Rattle.std.specs.Prelude.{Ok, Err}
use Rattle.le_h4.specs.Division.{before}
use Rattle.le_h4.specs.Deframer.{Deframing, still, marks}
use Rattle.le_h4.specs.Gathering.{Gathers}
use Rattle.le_h4.specs.Held.{deframing_of}
use Rattle.le_h4.proofs.Feeding.{fed_divided, fed_unfinished, fed_not_lost, lost_where}
use Rattle.le_h4.proofs.deframer.Deframer.feed.Goals as goal

pub returns-in-Ok-clause-divided : goal.returns-in-Ok-clause-divided
returns-in-Ok-clause-divided c =
    let H : List ℕ → Type 0 = λ xs. Gathers c.self.inside.skipping xs c.args.octets.now (Ok c.in-Ok.fed) c.gather.new.skipping c.gather.new.gathered in
    let gathers = subst H c.forget.ensures c.in-Ok.ensures.gathers in
    let after : Deframing = deframing_of c.gather.new.skipping c.gather.new.gathered c.in-Ok.fed.packet in
    let P : Deframing → Type 0 = λ d. (rest : List ℕ) → still d (take c.in-Ok.fed.used c.args.octets.now ++ rest)
    ≡ before (marks after) (still after rest) in
    subst P c.self.view_is (fed_divided _ _ _ _ _ c.in-Ok.fed gathers)

pub returns-in-Ok-clause-unfinished : goal.returns-in-Ok-clause-unfinished
returns-in-Ok-clause-unfinished c = fed_unfinished _ _ _ _ _ c.in-Ok.fed c.in-Ok.ensures.gathers

pub returns-in-Ok-clause-desync : goal.returns-in-Ok-clause-desync
returns-in-Ok-clause-desync c =
    let H : List ℕ → Type 0 = λ xs. Gathers c.self.inside.skipping xs c.args.octets.now (Ok c.in-Ok.fed) c.gather.new.skipping c.gather.new.gathered in
    let gathers = subst H c.forget.ensures c.in-Ok.ensures.gathers in
    λ indicator. (
      λ is. cc,
      λ is.
          absurd (fed_not_lost _ _ _ _ _ c.in-Ok.fed indicator gathers (ap (λ (d : Deframing). still d c.args.octets.now) c.self.view_is ∙ is)),
    )

pub returns-in-Err-clause-desync : goal.returns-in-Err-clause-desync
returns-in-Err-clause-desync c =
    let H : List ℕ → Type 0 = λ xs. Gathers c.self.inside.skipping xs c.args.octets.now (Err c.in-Err.fault) c.gather.new.skipping c.gather.new.gathered in
    let gathers = subst H c.forget.ensures c.in-Err.ensures.gathers in
    let same = ap (λ (d : Deframing). still d c.args.octets.now) c.self.view_is in
    λ indicator. (
      λ is. sym same ∙ (lost_where _ _ _ _ _ c.in-Err.fault indicator gathers).0 (cc is),
      λ is. ap Err ((lost_where _ _ _ _ _ c.in-Err.fault indicator gathers).1 (same ∙ is)),
    )
