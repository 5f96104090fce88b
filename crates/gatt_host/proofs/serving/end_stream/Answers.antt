use Rattle.std.proofs.Common.{◌≡◌, ◌∷◌, [], None, refl, sym, subst}
use Rattle.gatt_host.proofs.model.Items.{reached_by}
use Rattle.gatt_host.proofs.model.Serving.{takes_end}
use Rattle.gatt_host.specs.contracts.host.Host.{the_view}
use Rattle.gatt_host.specs.HostModel.{Takes, HostModel}
use Rattle.gatt_laws.specs.machine.Input.{TheEnd}
use Rattle.gatt_host.proofs.serving.end_stream.Goals as goal

pub invariant_of-host : goal.invariant_of-host
invariant_of-host c =
    let old : HostModel = the_view c.host.inside in
    let new : HostModel = record old { server = c.forget.new.self; stream = c.new-host-inside.result } in
    let none : old.fault ≡ None = subst (λ (host : HostModel). host.fault ≡ None) (sym c.host.view_is) c.requires.none in
    reached_by (TheEnd ∷ []) [] old new c.host.invariant (takes_end old new none none refl c.new-host-inside.ensures.at_start c.forget.ensures)

pub returns-clause-takes : goal.returns-clause-takes
returns-clause-takes c =
    let old : HostModel = the_view c.host.inside in
    let new : HostModel = record old { server = c.forget.new.self; stream = c.new-host-inside.result } in
    let none : old.fault ≡ None = subst (λ (host : HostModel). host.fault ≡ None) (sym c.host.view_is) c.requires.none in
    subst (λ (host : HostModel). Takes TheEnd host new) c.host.view_is (takes_end old new none none refl c.new-host-inside.ensures.at_start c.forget.ensures)
