-- The connections that the application can see, wherever a host stands.
use Rattle.std.proofs.Common.{◌≡◌, ℕ, Bool, true, false, ◌+◌, List, ◌∷◌, length, get_or, Option, Some, None, refl, sym, ap, ◌∙◌}
use Rattle.std.proofs.lemmas.Bool.{eq-eqb, ne_eqb}
use Rattle.std.specs.Prelude.{◌≢◌, not, is_some, nat_lt, if◌then◌else◌}
use Rattle.gatt_host.proofs.model.Placed.{placed_read}
use Rattle.gatt_host.specs.Connections.{connection_with, connections_in, connections_of, ordinal_seen, connection_seen}
use Rattle.gatt_host.specs.Owing.{Handed, slot_state_handed}
use Rattle.gatt_host.specs.HostModel.{RefinesRun, HostModel}
use Rattle.gatt_laws.specs.machine.Controller.{command_of_init, count_before}
use Rattle.gatt_laws.specs.machine.Event.{Ordinal}
use Rattle.gatt_laws.specs.machine.Input.{Run, Item, run}
use Rattle.gatt_laws.specs.machine.Packets.{Heard}
use Rattle.gatt_laws.specs.machine.ConnectionState.{ConnectionState, is_live, is_there, connection_mtu}
use Rattle.gatt_laws.specs.machine.SharedState.{SharedState}
use Rattle.gatt_laws.specs.machine.Start.{Start}
use Rattle.gatt_laws.specs.machine.State.{State, with_commands_sent}
use Rattle.host_connections.specs.Arrivals.{counted_on}
use Rattle.host_connections.specs.Connections.{slot_seen}
use Rattle.host_connections.specs.declared.arrivals.Arrivals.{Arrivals}
use Rattle.host_api.specs.declared.connection.Connection.{Connection}
use Rattle.host_connections.specs.SlotState.{slot_state_of}
use Rattle.le_security.proofs.Links.{key_of_steps}
use Rattle.octet_io.specs.Number.{Octets}

-- a command that is sent leaves what can be seen
module _ (ordinal : Ordinal) (place heard : ℕ) where
  sent-seen : (shared : SharedState) (part : ConnectionState) (sent reasoned : Bool)
      → connection_seen shared ordinal place heard (if sent then (if reasoned then record part { reason = None } else record part { reply = None }) else part)
      ≡ connection_seen shared ordinal place heard part
  sent-seen shared part true true = refl
  sent-seen shared part true false = refl
  sent-seen shared part false reasoned = refl

module _ (arrivals : Arrivals) (heard : Heard) where
  -- its number and its time are those of the run
  abbrev IsArrived : ℕ → Ordinal → Type 0
  IsArrived place ordinal = (get_or arrivals.ordinals place 0 ≡ counted_on ordinal) × (get_or arrivals.heard place 0 ≡ heard ordinal)

  same-seen : (state : State) (handed : Handed) (place : ℕ) (ordinal : Ordinal) → is_there (state.connections ordinal).mark ≡ true
      → IsArrived place ordinal
      → slot_seen arrivals place (slot_state_handed state handed (Some ordinal)) ≡ ordinal_seen heard (with_commands_sent state) place (Some ordinal)
  same-seen state handed place ordinal there arrived =
      let part : ConnectionState = state.connections ordinal in
      ap (λ (is : Bool). slot_seen arrivals place (if is then Some (slot_state_of state.shared part (handed ordinal)) else None)) there
      ∙ (λ i. Some (record {
        ordinal = arrived.0 i;
        slot = place;
        handle = part.handle;
        peer = part.peer;
        mtu = connection_mtu state.shared part;
        key = key_of_steps part.steps i;
        authorized_until = part.until;
        ending = not (is_live part.mark);
        heard = arrived.1 i;
      }))
      ∙ ap (λ (it : Connection). Some it) (sym (sent-seen ordinal place (heard ordinal) state.shared part
      (nat_lt (length (command_of_init state.controller) + count_before ordinal state.connections state.slots) state.controller.credit) (is_some part.reason)))

pub seen_where : (run : Run) (gone : List Octets) (host : HostModel) → RefinesRun run gone host
    → connections_in host ≡ connections_of run.intake.heard run.intake.state
seen_where run gone host is =
    let arrivals : Arrivals = host.frames.arrivals in
    placed_read (slot_seen arrivals) (ordinal_seen run.intake.heard) (IsArrived arrivals run.intake.heard)
    (record { free = λ place. refl; none = λ state place. refl; same = same-seen arrivals run.intake.heard })
    run.intake.state is.refines.owed host.server is.refines.refines
    (λ place ordinal there. (is.refines.together.numbered.there place ordinal there, is.refines.together.timed.there place ordinal there))

-- the one with a handle, and one without it
pub found_here : (handle : ℕ) (connection : Connection) (all rest : List Connection) → all ≡ connection ∷ rest → connection.handle ≡ handle
    → Some connection ≡ connection_with handle all
found_here handle connection all rest is same =
    sym (ap (connection_with handle) is ∙ ap (λ (found : Bool). if found then Some connection else connection_with handle rest)
    (eq-eqb connection.handle handle same))

pub found_later : (handle : ℕ) (connection : Connection) (all rest : List Connection) → all ≡ connection ∷ rest → connection.handle ≢ handle
    → connection_with handle all ≡ connection_with handle rest
found_later handle connection all rest is other =
    ap (connection_with handle) is ∙ ap (λ (found : Bool). if found then Some connection else connection_with handle rest)
    (ne_eqb connection.handle handle other)

-- as the run has it
pub found_where : (handle : ℕ) (host : HostModel) (found : Option Connection) → found ≡ connection_with handle (connections_in host)
    → (start : Start) (input : List Item) (gone : List Octets) → RefinesRun (run start input) gone host
    → found ≡ connection_with handle (connections_of (run start input).intake.heard (run start input).intake.state)
found_where handle host found is start input gone refines = is ∙ ap (connection_with handle) (seen_where (run start input) gone host refines)
