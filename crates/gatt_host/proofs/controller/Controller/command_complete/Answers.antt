use Rattle.std.proofs.Common.{◌≡◌, Bool, Result, Ok, Err, Option, Some, None, true, refl, ap, sym, subst, ◌∙◌}
use Rattle.std.proofs.lemmas.Result.{err_from_is_err_and}
use Rattle.std.specs.Prelude.{IfErr, if◌then◌else◌}
use Rattle.gatt_host.proofs.places.Refusing.{stops_where_told}
use Rattle.gatt_host.specs.Answers.{stop_of}
use Rattle.gatt_host.specs.declared.host_fault.HostFault.{HostFault}
use Rattle.gatt_laws.specs.machine.Event.{Happening}
use Rattle.gatt_laws.specs.machine.Packets.{Fault, answered, completed_event, following_of, status_of}
use Rattle.host_connections.specs.Slots.{Place}
use Rattle.le_hci.specs.declared.init.Init.{Init}
use Rattle.le_hci.specs.Init.{init_outcome}
use Rattle.gatt_host.proofs.controller.Controller.command_complete.Goals as goal

pub returns-then-awaits-clause-event : goal.returns-then-awaits-clause-event
returns-then-awaits-clause-event c =
    let leads : Result (Option Init) Fault = following_of (init_outcome c.args.self.now.init c.args.returned.now) in
    ap (λ (awaits : Bool). answered {C = Place} c.args.allowed c.args.opcode (status_of c.args.returned.now) (if awaits then leads else Ok None))
    (sym c.awaits.ensures ∙ c.if-awaits.true)
    ∙ ap (λ (leads : Result (Option Init) Fault). answered {C = Place} c.args.allowed c.args.opcode (status_of c.args.returned.now) leads)
    (c.in_ok-advance.ensures.follows (refl {a = true}))

pub returns-then-awaits-clause-after : goal.returns-then-awaits-clause-after
returns-then-awaits-clause-after c = c.in_ok-advance.ensures.after (refl {a = true})

pub returns-clause-event : goal.returns-clause-event
returns-clause-event c =
    let leads : Result (Option Init) Fault = following_of (init_outcome c.args.self.now.init c.args.returned.now) in
    ap (λ (awaits : Bool). answered {C = Place} c.args.allowed c.args.opcode (status_of c.args.returned.now) (if awaits then leads else Ok None))
    (sym c.awaits.ensures ∙ c.if-awaits.false)

pub returns-in_err-advance-clause-stops : goal.returns-in_err-advance-clause-stops
returns-in_err-advance-clause-stops c =
    let event : Result (Happening Place) Fault = completed_event {C = Place} c.args.self.now c.args.allowed c.args.opcode c.args.returned.now in
    let leads : Result (Option Init) Fault = following_of (init_outcome c.args.self.now.init c.args.returned.now) in
    let stopped = err_from_is_err_and c.from_residual.result c.from_residual.ensures.1 in
    subst (λ (result : Result Bool HostFault). IfErr result (λ fault. stop_of event ≡ Some fault))
    (sym (stopped.1 ∙ ap (λ (why : HostFault). Err why) stopped.2))
    (ap (λ (awaits : Bool). stop_of (answered {C = Place} c.args.allowed c.args.opcode (status_of c.args.returned.now) (if awaits then leads else Ok None)))
    (sym c.awaits.ensures ∙ c.if-awaits.true)
    ∙ stops_where_told c.args.allowed c.args.opcode (status_of c.args.returned.now) leads
    ∙ c.in_err-advance.ensures.stops)

pub returns-in_err-advance-clause-unchanged : goal.returns-in_err-advance-clause-unchanged
returns-in_err-advance-clause-unchanged c =
    let stopped = err_from_is_err_and c.from_residual.result c.from_residual.ensures.1 in
    subst (λ (result : Result Bool HostFault). IfErr result (λ fault. c.advance.new.self ≡ c.args.self.now))
    (sym (stopped.1 ∙ ap (λ (why : HostFault). Err why) stopped.2))
    c.in_err-advance.ensures.unchanged
