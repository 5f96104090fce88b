use Rattle.std.proofs.Common.{◌≡◌, ◌<◌, ◌∷◌, [], IfSome, take, refl, sym, subst, ◌∙◌}
use Rattle.std.specs.Prelude.{is_some, not}
use Rattle.gatt_host.proofs.owing.Nexts.{is_none_where}
use Rattle.gatt_host.proofs.model.Fewer.{fewer_into}
use Rattle.gatt_host.proofs.model.Out.{goes_into, goes_where_not_out, reached_into}
use Rattle.gatt_host.proofs.model.Unchanged.{table_after_out, told_after_out}
use Rattle.gatt_host.specs.contracts.host.Host.{the_view}
use Rattle.gatt_host.specs.Credits.{most_out}
use Rattle.gatt_host.specs.ServerState.{ServerState}
use Rattle.gatt_host.specs.HostModel.{Refines, HostModel, all_out}
use Rattle.gatt_host.specs.Telling.{notices_told}
use Rattle.gatt_host.proofs.host.Host.next_into.Goals as goal

pub invariant_of-self : goal.invariant_of-self
invariant_of-self c =
    let old : HostModel = the_view c.self.inside in
    reached_into old (record old { server = c.next_into.new.server }) c.next_into.result c.next_into.new.out c.self.invariant c.next_into.ensures.octets
    c.next_into.ensures.after c.next_into.ensures.unchanged refl refl refl

pub returns-clause-some : goal.returns-clause-some
returns-clause-some c =
    let old : HostModel = the_view c.self.inside in
    subst (λ (host : HostModel). is_some c.next_into.result ≡ not (all_out host)) c.self.view_is
    (c.next_into.ensures.some ∙ goes_where_not_out old c.self.invariant (is_none_where old.fault (sym c.is_some.ensures ∙ c.if-is_some.false)))

pub returns-clause-refines : goal.returns-clause-refines
returns-clause-refines c =
    let old : HostModel = the_view c.self.inside in
    let new : HostModel = record old { server = c.next_into.new.server } in
    subst (λ (host : HostModel). IfSome c.next_into.result (λ count. Refines [] (take count c.next_into.new.out ∷ []) host new)) c.self.view_is
    (goes_into old new c.next_into.result c.next_into.new.out c.next_into.ensures.octets c.next_into.ensures.after refl refl refl)

pub returns-clause-fewer : goal.returns-clause-fewer
returns-clause-fewer c = λ some.
    let old : HostModel = the_view c.self.inside in
    subst (λ (host : HostModel). most_out c.next_into.new.server < most_out host.server) c.self.view_is
    (subst (λ (server : ServerState). most_out server < most_out old.server) (sym c.next_into.ensures.after)
    (fewer_into old.server c.next_into.result c.next_into.new.out c.next_into.ensures.octets some))

pub returns-clause-notices : goal.returns-clause-notices
returns-clause-notices c =
    let old : HostModel = the_view c.self.inside in
    subst (λ (host : HostModel). notices_told (record old { server = c.next_into.new.server }) ≡ notices_told host) c.self.view_is
    (told_after_out old c.next_into.new.server c.next_into.ensures.after)

pub returns-clause-table : goal.returns-clause-table
returns-clause-table c =
    subst (λ (host : HostModel). c.next_into.new.server.table ≡ host.server.table) c.self.view_is
    (table_after_out (the_view c.self.inside).server c.next_into.new.server c.next_into.ensures.after)
