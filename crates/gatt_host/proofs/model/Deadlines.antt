-- When an indication is late or an authorization ends, by what a host has in its slots.
use Rattle.std.proofs.Common.{◌≡◌, ℕ, ◌+◌, Bool, true, false, List, length, Some, None, refl, sym, ap, ◌∙◌}
use Rattle.std.specs.Prelude.{min, is_some, nat_lt, if◌then◌else◌}
use Rattle.std.specs.List.{reduce}
use Rattle.gatt_host.proofs.model.Slots.{slots_read}
use Rattle.gatt_host.specs.Owing.{Handed, slot_state_handed}
use Rattle.gatt_host.specs.HostModel.{RefinesRun, HostModel}
use Rattle.gatt_laws.proofs.notices.Deadline.{tells_from_the_deadline_on}
use Rattle.gatt_laws.specs.machine.Controller.{command_of_init, count_before}
use Rattle.gatt_laws.specs.laws.Deadline.{deadline, authorization_end, earlier_of, slot_deadline, TellsFromTheDeadlineOn}
use Rattle.gatt_laws.specs.machine.Event.{Ordinal}
use Rattle.gatt_laws.specs.machine.Input.{Run}
use Rattle.gatt_laws.specs.machine.ConnectionState.{ConnectionState, is_there}
use Rattle.gatt_laws.specs.machine.State.{State, with_commands_sent}
use Rattle.host_connections.specs.SlotState.{slot_state_of}
use Rattle.host_connections.specs.Slots.{slot_state_deadline, slots_deadline}
use Rattle.gatt_subs.specs.Deadline.{deadline_of}
use Rattle.octet_io.specs.Number.{Octets}

-- a command that is sent leaves what is to be told
sent-pending : (connection : ConnectionState) (sent reasoned : Bool)
    → (if sent then (if reasoned then record connection { reason = None } else record connection { reply = None }) else connection).pending ≡ connection.pending
sent-pending connection true true = refl
sent-pending connection true false = refl
sent-pending connection false reasoned = refl

-- and when its authorization ends
sent-end : (now : ℕ) (connection : ConnectionState) (sent reasoned : Bool)
    → authorization_end now (if sent then (if reasoned then record connection { reason = None }
    else record connection { reply = None }) else connection)
    ≡ authorization_end now connection
sent-end now connection true true = refl
sent-end now connection true false = refl
sent-end now connection false reasoned = refl

same-deadline : (now : ℕ) (state : State) (handed : Handed) (ordinal : Ordinal) → is_there (state.connections ordinal).mark ≡ true
    → slot_state_deadline now (slot_state_handed state handed (Some ordinal)) ≡ slot_deadline now (with_commands_sent state) (Some ordinal)
same-deadline now state handed ordinal there =
    let connection : ConnectionState = state.connections ordinal in
    let is_sent : Bool = nat_lt (length (command_of_init state.controller) + count_before ordinal state.connections state.slots) state.controller.credit in
    ap (λ (is : Bool). slot_state_deadline now (if is then Some (slot_state_of state.shared connection (handed ordinal)) else None)) there
    ∙ (λ i. earlier_of (deadline_of (sym (sent-pending connection is_sent (is_some connection.reason)) i))
    (sym (sent-end now connection is_sent (is_some connection.reason)) i))

pub deadline_where : (run : Run) (gone : List Octets) (host : HostModel) → RefinesRun run gone host
    → slots_deadline host.server.time host.server.slots ≡ deadline run.intake.state
deadline_where run gone host is =
    ap (λ (now : ℕ). slots_deadline now host.server.slots) is.refines.refines.time
    ∙ ap (λ (times : List ℕ). reduce min times)
    (slots_read (slot_state_deadline run.intake.state.shared.time) (slot_deadline run.intake.state.shared.time)
    (record { free = refl; none = λ state. refl; same = same-deadline run.intake.state.shared.time })
    run.intake.state is.refines.owed host.server is.refines.refines)

pub tells_from_the_deadline : TellsFromTheDeadlineOn
tells_from_the_deadline = tells_from_the_deadline_on
