use Rattle.std.proofs.Common.{Option, refl, ap}
use Rattle.gatt_host.proofs.model.Stands.{past_none, past_stop}
use Rattle.gatt_host.proofs.Promises.{writes_apart, writes_by_the_policy}
use Rattle.gatt_host.specs.contracts.host.Host.{the_view}
use Rattle.gatt_host.specs.Feeding.{octet_items}
use Rattle.octet_io.specs.Number.{Octets}
use Rattle.gatt_host.proofs.feeding.feed_to.Goals as goal

pub returns-in-Some-clause-processes : goal.returns-in-Some-clause-processes
returns-in-Some-clause-processes g c = past_stop (the_view c.host.inside) c.args.host.now c.host.view_is c.in-Some.fault c.in-Some.is

pub returns-in-Some-clause-heard : goal.returns-in-Some-clause-heard
returns-in-Some-clause-heard g c = past_stop (the_view c.host.inside) c.args.host.now c.host.view_is c.in-Some.fault c.in-Some.is

pub returns-in-Some-clause-policy : goal.returns-in-Some-clause-policy
returns-in-Some-clause-policy g c =
    let written : Option Octets = g.W.Sink.contents c.args.out.now in
    writes_by_the_policy (octet_items c.args.octets.now) c.args.host.now c.args.host.now (λ some. refl) written written (λ some. refl) (λ none.
    (returns-in-Some-clause-processes g c none).feeds)

pub returns-in-Some-clause-apart : goal.returns-in-Some-clause-apart
returns-in-Some-clause-apart g c =
    let written : Option Octets = g.W.Sink.contents c.args.out.now in
    writes_apart (octet_items c.args.octets.now) c.args.host.now c.args.host.now (λ some. refl) written written (λ some. refl) (λ none.
    (returns-in-Some-clause-processes g c none).feeds)

pub returns-clause-stopped : goal.returns-clause-stopped
returns-clause-stopped g c = past_none (the_view c.host.inside) c.args.host.now c.host.view_is c.in_default.is

pub returns-clause-sink_stopped : goal.returns-clause-sink_stopped
returns-clause-sink_stopped g c = past_none (the_view c.host.inside) c.args.host.now c.host.view_is c.in_default.is

pub returns-clause-listener_stopped : goal.returns-clause-listener_stopped
returns-clause-listener_stopped g c = past_none (the_view c.host.inside) c.args.host.now c.host.view_is c.in_default.is

pub returns-clause-policy : goal.returns-clause-policy
returns-clause-policy g c =
    writes_by_the_policy (octet_items c.args.octets.now) _ _ (returns-clause-stopped g c) _ _
    (λ some. ap g.W.Sink.contents (returns-clause-sink_stopped g c some)) (λ none. c.feed_all.ensures.processes.feeds)

pub returns-clause-apart : goal.returns-clause-apart
returns-clause-apart g c =
    writes_apart (octet_items c.args.octets.now) _ _ (returns-clause-stopped g c) _ _
    (λ some. ap g.W.Sink.contents (returns-clause-sink_stopped g c some)) (λ none. c.feed_all.ensures.processes.feeds)
