use Rattle.std.proofs.Common.{◌≡◌, ◌<◌, ◌∷◌, [], refl, sym, subst, ◌∙◌}
use Rattle.std.specs.Prelude.{not}
use Rattle.std.proofs.lemmas.Bool.{OnTrue_at, OnTrue_from}
use Rattle.gatt_host.proofs.owing.Nexts.{is_none_where}
use Rattle.gatt_host.proofs.model.Fewer.{fewer_out}
use Rattle.gatt_host.proofs.model.Out.{goes_out, goes_where_not_out, reached_out}
use Rattle.gatt_host.proofs.model.Unchanged.{table_after_out, told_after_out}
use Rattle.gatt_host.specs.contracts.host.Host.{the_view}
use Rattle.gatt_host.specs.Credits.{most_out}
use Rattle.gatt_host.specs.ServerState.{ServerState}
use Rattle.gatt_host.specs.HostModel.{Refines, HostModel, all_out}
use Rattle.gatt_host.specs.Telling.{notices_told}
use Rattle.gatt_host.proofs.host.Host.next_out.Goals as goal

pub invariant_of-self : goal.invariant_of-self
invariant_of-self c =
    let old : HostModel = the_view c.self.inside in
    reached_out old (record old { server = c.copy_next.new.server }) c.copy_next.result c.copy_next.new.out.items c.self.invariant c.copy_next.ensures.octets
    c.copy_next.ensures.after
    c.copy_next.ensures.unchanged refl refl refl

pub returns-clause-some : goal.returns-clause-some
returns-clause-some c =
    let old : HostModel = the_view c.self.inside in
    subst (λ (host : HostModel). c.copy_next.result ≡ not (all_out host)) c.self.view_is
    (c.copy_next.ensures.some ∙ goes_where_not_out old c.self.invariant (is_none_where old.fault (sym c.is_some.ensures ∙ c.if-is_some.false)))

pub returns-clause-refines : goal.returns-clause-refines
returns-clause-refines c = OnTrue_from _ _ (λ goes.
    let old : HostModel = the_view c.self.inside in
    let new : HostModel = record old { server = c.copy_next.new.server } in
    subst (λ (host : HostModel). Refines [] (c.copy_next.new.out.items ∷ []) host new) c.self.view_is
    (goes_out old new c.copy_next.new.out.items (OnTrue_at goes c.copy_next.ensures.octets) c.copy_next.ensures.after refl refl refl))

pub returns-clause-fewer : goal.returns-clause-fewer
returns-clause-fewer c = OnTrue_from _ _ (λ goes.
    let old : HostModel = the_view c.self.inside in
    subst (λ (host : HostModel). most_out c.copy_next.new.server < most_out host.server) c.self.view_is
    (subst (λ (server : ServerState). most_out server < most_out old.server) (sym c.copy_next.ensures.after)
    (fewer_out old.server c.copy_next.new.out.items (OnTrue_at goes c.copy_next.ensures.octets))))

pub returns-clause-notices : goal.returns-clause-notices
returns-clause-notices c =
    let old : HostModel = the_view c.self.inside in
    subst (λ (host : HostModel). notices_told (record old { server = c.copy_next.new.server }) ≡ notices_told host) c.self.view_is
    (told_after_out old c.copy_next.new.server c.copy_next.ensures.after)

pub returns-clause-table : goal.returns-clause-table
returns-clause-table c =
    subst (λ (host : HostModel). c.copy_next.new.server.table ≡ host.server.table) c.self.view_is
    (table_after_out (the_view c.self.inside).server c.copy_next.new.server c.copy_next.ensures.after)
