-- The pending output after an event: commands that the controller accepts, and packets that
-- connections were given.
use Rattle.std.specs.Prelude.{◌≡◌, ℕ, ◌≤◌, true, false, is_none, List, [], ◌∷◌, ◌++◌, map, drop, take, Option, Some, None}
use Rattle.std.specs.List.{flat_map}
use Rattle.gatt_host.specs.GoingOut.{next_out, is_drained, controller_then, slots_then}
use Rattle.gatt_laws.specs.machine.Controller.{Controller}
use Rattle.gatt_laws.specs.machine.Event.{Ordinal, Event}
use Rattle.gatt_laws.specs.machine.ConnectionState.{ConnectionState, is_live}
use Rattle.gatt_laws.specs.laws.Placed.{IsPlaced}
use Rattle.gatt_laws.specs.laws.Possible.{Possible}
use Rattle.gatt_laws.specs.laws.Queued.{HasBoundedQueues}
use Rattle.gatt_laws.specs.machine.SharedState.{SharedState, share_of, fragment_size_of}
use Rattle.gatt_laws.specs.laws.Settled.{has_slot, IsSettled}
use Rattle.gatt_laws.specs.machine.Start.{Start, new_controller, state_at, first_out}
use Rattle.gatt_laws.specs.machine.State.{State, with_commands_sent, commands_out, before_commands, step, out}
use Rattle.host_connections.specs.SlotState.{SlotState, slot_state_if_there}
use Rattle.le_acl.specs.History.{packets_allowed}
use Rattle.le_acl.specs.Outgoing.{acl_octets}
use Rattle.le_acl.specs.Packets.{packets_of}
use Rattle.octet_io.specs.Number.{Octets}

-- The number of packets of each connection that were sent.
abbrev pub Handed : Type 0
Handed = Ordinal → ℕ

abbrev pub all_given : State → Handed
all_given state ordinal = (state.connections ordinal).given

abbrev pub slot_state_handed : State → Handed → Option Ordinal → Option SlotState
slot_state_handed state handed None = None
slot_state_handed state handed (Some ordinal) =
    slot_state_if_there state.shared (state.connections ordinal) (handed ordinal)

abbrev pub slot_states_handed : State → Handed → List (Option SlotState)
slot_states_handed state handed = map (slot_state_handed state handed) state.slots

-- The packets that a connection was given and has not sent.
abbrev pub packets_left : SharedState → ConnectionState → ℕ → List Octets
packets_left shared connection handed =
    map (acl_octets connection.handle)
    (drop handed
    (take connection.given (packets_of (fragment_size_of shared.buffers) connection.pdus)))

abbrev pub slot_left : State → Handed → Option Ordinal → List Octets
slot_left state handed None = []
slot_left state handed (Some ordinal) =
    packets_left state.shared (state.connections ordinal) (handed ordinal)

-- The pending output before a command of the state is sent.
abbrev pub left_of : State → Handed → List Octets
left_of state handed = commands_out state ++ flat_map (slot_left state handed) state.slots

-- A serving connection is given all that is allowed and has sent some; another has sent all that it
-- was given.
pub record IsPartway (shared : SharedState) (connection : ConnectionState)
    (handed : ℕ) : Type 0 where
  pub serving : is_live connection.mark ≡ true
      → connection.given ≡ packets_allowed (share_of shared.slots shared.buffers)
      (fragment_size_of shared.buffers) connection.pdus connection.done
  pub most : is_live connection.mark ≡ true → handed ≤ connection.given
  pub done : connection.done ≤ handed
  pub others : is_live connection.mark ≡ false → handed ≡ connection.given

-- These octets are pending on the way to a final state.
pub record IsOwing (final : State) (owed : List Octets) (controller : Controller)
    (slots : List (Option SlotState)) : Type 0 where
  pub state : State
  pub handed : Handed
  pub settled : IsSettled state
  pub placed : IsPlaced state
  pub partway : (ordinal : Ordinal) → has_slot ordinal state.slots ≡ true
      → IsPartway state.shared (state.connections ordinal) (handed ordinal)
  pub arrives : with_commands_sent state ≡ final
  pub owes : owed ≡ left_of state handed
  pub controller_is : controller ≡ state.controller
  pub slots_are : slots ≡ slot_states_handed state handed

pub record IsAllSent (final : State) (owed : List Octets) (controller : Controller)
    (slots : List (Option SlotState)) : Type 0 where
  pub none : owed ≡ []
  pub controller_is : controller ≡ final.controller
  pub slots_are : slots ≡ slot_states_handed final (all_given final)

-- These octets are the first pending output; the others are still pending.
pub record OwesTheRest (final : State) (owed : List Octets) (octets : Octets)
    (controller : Controller) (slots : List (Option SlotState)) : Type 0 where
  pub others : List Octets
  pub first : owed ≡ octets ∷ others
  pub owing : IsOwing final others controller slots

-- The next output is the first pending one; if there is none, none is pending.
abbrev pub SendsTheFirst : State → List Octets → Controller → List (Option SlotState) → Octets
    → Type 0
SendsTheFirst final owed controller slots octets =
    OwesTheRest final owed octets (controller_then controller slots) (slots_then controller slots)

abbrev pub SendsTheNext : State → List Octets → Controller → List (Option SlotState) → Option Octets
    → Type 0
SendsTheNext final owed controller slots None = IsAllSent final owed controller slots
SendsTheNext final owed controller slots (Some octets) =
    SendsTheFirst final owed controller slots octets

abbrev pub HandsOutWhatIsOwed : Type 0
HandsOutWhatIsOwed =
    (final : State) (owed : List Octets) (controller : Controller) (slots : List (Option SlotState))
    →
    IsOwing final owed controller slots
    → SendsTheNext final owed controller slots (next_out controller slots)

abbrev pub IsDrainedWhereNothingGoesOut : Type 0
IsDrainedWhereNothingGoesOut =
    (final : State) (owed : List Octets) (controller : Controller) (slots : List (Option SlotState))
    →
    IsOwing final owed controller slots → is_drained controller slots
    ≡ is_none (next_out controller slots)

-- An event's output is pending until its commands are sent.
abbrev pub OwesWhatAnEventBrings : Type 0
OwesWhatAnEventBrings = (state : State) (event : Event) → Possible (λ table. Unit) state event →
    IsSettled state → HasBoundedQueues state → IsPlaced state →
    IsOwing (step state event) (out state event) (before_commands state event).controller
    (slot_states_handed (before_commands state event) (all_given state))

abbrev pub OwesTheFirstCommand : Type 0
OwesTheFirstCommand =
    (start : Start) → IsOwing (state_at start) (first_out start) (new_controller start) []
