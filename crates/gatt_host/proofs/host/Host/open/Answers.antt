use Rattle.std.proofs.Common.{true, None, ap, refl, ◌∙◌}
use Rattle.gatt_host.proofs.Promises.{gives_what_is_due, keeps_its_promise}
use Rattle.gatt_host.proofs.host.Host.open.Goals as goal
use Rattle.gatt_host.proofs.model.Opened.{reached_when_opened, stands_when_opened, still_refused}
use Rattle.gatt_host.specs.declared.config.OpenFault.TheVariants.{BadConfig}
use Rattle.gatt_host.specs.HostModel.{HostModel}
use Rattle.gatt_host.specs.Opening.{held_at_first, start_of}
use Rattle.host_connections.specs.Slots.{SlotStates}

pub returns-clause-opened : goal.returns-clause-opened
returns-clause-opened c =
    let host : HostModel = record { server = c.held_at_first.result; frames = c.in-Ok-new.frames; stream = c.new-2.result; fault = None } in
    stands_when_opened c.args.table c.args.keys c.args.rows c.free_slots.new.rows c.args.config (c.in-Ok.ensures.bonds (refl {a = true}))
    (c.in-Ok.ensures.rows (refl {a = true})) host
    (c.in-Ok.ensures.configured (refl {a = true}))
    (c.held_at_first.ensures ∙ ap (λ (slots : SlotStates). held_at_first c.args.table c.args.keys c.free_slots.new.rows slots c.args.config)
    c.in-Ok.ensures.slots)
    c.in-Ok-new.ensures.assembled c.in-Ok-new.ensures.arrivals c.new-2.ensures.at_start (λ i. None)

pub invariant_of-result : goal.invariant_of-result
invariant_of-result c = reached_when_opened c.args.table c.args.keys c.args.rows c.args.config _ (returns-clause-opened c)

pub returns-clause-runs : goal.returns-clause-runs
returns-clause-runs c = gives_what_is_due (start_of c.args.table c.args.keys c.args.rows c.args.config) _ (returns-clause-opened c)

pub returns-clause-promise : goal.returns-clause-promise
returns-clause-promise c = keeps_its_promise

pub returns-in-Err-clause-config : goal.returns-in-Err-clause-config
returns-in-Err-clause-config c = (
  λ is. c.in-Err.ensures.config.0 (still_refused c.in-Err.fault BadConfig is),
  λ wrong. still_refused c.in-Err.fault BadConfig (c.in-Err.ensures.config.1 wrong),
)

pub returns-in-Err-clause-promise : goal.returns-in-Err-clause-promise
returns-in-Err-clause-promise c = keeps_its_promise
