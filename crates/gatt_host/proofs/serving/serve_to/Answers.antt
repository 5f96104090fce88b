use Rattle.gatt_host.proofs.model.Stands.{past_none, past_stop}
use Rattle.gatt_host.specs.contracts.host.Host.{the_view}
use Rattle.gatt_host.proofs.serving.serve_to.Goals as goal

pub returns-in-Some-clause-serves : goal.returns-in-Some-clause-serves
returns-in-Some-clause-serves g c = past_stop (the_view c.host.inside) c.args.host.now c.host.view_is c.in-Some.fault c.in-Some.is

pub returns-in-Some-clause-heard : goal.returns-in-Some-clause-heard
returns-in-Some-clause-heard g c = past_stop (the_view c.host.inside) c.args.host.now c.host.view_is c.in-Some.fault c.in-Some.is

pub returns-in-Some-clause-settles : goal.returns-in-Some-clause-settles
returns-in-Some-clause-settles g c = past_stop (the_view c.host.inside) c.args.host.now c.host.view_is c.in-Some.fault c.in-Some.is

pub returns-in-Some-clause-reads : goal.returns-in-Some-clause-reads
returns-in-Some-clause-reads g c = past_stop (the_view c.host.inside) c.args.host.now c.host.view_is c.in-Some.fault c.in-Some.is

pub returns-in-None-clause-stopped : goal.returns-in-None-clause-stopped
returns-in-None-clause-stopped g c = past_none (the_view c.host.inside) c.args.host.now c.host.view_is c.in-None.is

pub returns-in-None-clause-reader_stopped : goal.returns-in-None-clause-reader_stopped
returns-in-None-clause-reader_stopped g c = past_none (the_view c.host.inside) c.args.host.now c.host.view_is c.in-None.is

pub returns-in-None-clause-writer_stopped : goal.returns-in-None-clause-writer_stopped
returns-in-None-clause-writer_stopped g c = past_none (the_view c.host.inside) c.args.host.now c.host.view_is c.in-None.is

pub returns-in-None-clause-listener_stopped : goal.returns-in-None-clause-listener_stopped
returns-in-None-clause-listener_stopped g c = past_none (the_view c.host.inside) c.args.host.now c.host.view_is c.in-None.is
