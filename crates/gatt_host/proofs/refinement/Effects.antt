-- What happens to one connection that serves leaves a host that holds the state with its turn.
use Rattle.std.proofs.Common.{◌≡◌, ℕ, zero, suc, Bool, true, false, List, [], ◌∷◌, length, set, slice_get, Option, Some, None, refl, sym, ap, ◌∙◌}
use Rattle.std.specs.Prelude.{if◌then◌else◌, ◌==◌}
use Rattle.std.specs.Option.{option_map, option_map_or}
use Rattle.std.proofs.lemmas.Bool.{eq-eqb}
use Rattle.std.proofs.lemmas.Option.{slice_get-map}
use Rattle.att_table.specs.Table.{Contents}
use Rattle.gatt_host.proofs.owing.Nexts.{clash}
use Rattle.gatt_host.proofs.refinement.Holding.{Holds}
use Rattle.gatt_host.proofs.refinement.OneSlot.{ready_where, changed_one}
use Rattle.gatt_host.specs.ServerState.{ServerState, server_slot_at}
use Rattle.host_connections.specs.Slots.{slots_at}
use Rattle.gatt_host.specs.Owing.{all_given, slot_state_handed, slot_states_handed}
use Rattle.gatt_host.specs.StateRefinement.{HoldsBonds, HasKeysOfItsPeer}
use Rattle.gatt_laws.specs.machine.Controller.{is_ready}
use Rattle.gatt_laws.specs.machine.Event.{Ordinal}
use Rattle.gatt_laws.specs.machine.ConnectionState.{ConnectionState, is_live, is_there}
use Rattle.gatt_laws.specs.machine.SharedState.{Bonds, ServiceChangedPending}
use Rattle.gatt_laws.specs.laws.Settled.{IsSettled}
use Rattle.gatt_laws.specs.machine.State.{State, at_ordinal, at_peer, with_values}
use Rattle.gatt_laws.specs.machine.Effect.{Effect}
use Rattle.host_connections.proofs.states.SlotStates.{kept_there, live_there}
use Rattle.host_connections.specs.SlotState.{SlotState, slot_state_of, slot_state_if_there}
use Rattle.gatt_subs.specs.Rows.{Subscriptions}
use Rattle.le_hci.specs.declared.peer.Peer.{Peer}
use Rattle.le_security.proofs.Peers.{equal_peers}
use Rattle.le_security.specs.Entry.{same_peer}
use Rattle.le_security.specs.Keys.{is_known}
use Rattle.le_security.specs.declared.entry.Entry.{Entry}

-- bonds that are the same peer by peer
pub bonds_alike : (keys : List Entry) (rows : Subscriptions) (bonds bonds' : Bonds) (owed owed' : ServiceChangedPending)
    → ((peer : Peer) → bonds peer ≡ bonds' peer)
    → ((peer : Peer) → owed peer ≡ owed' peer) → HoldsBonds keys rows bonds owed → HoldsBonds keys rows bonds' owed'
bonds_alike keys rows bonds bonds' owed owed' same same' holds = record {
  known = λ peer. holds.known peer ∙ λ i. if is_known keys peer then Some (record { row = same peer i; owed = same' peer i }) else None;
  row = λ peer unknown. sym (same peer) ∙ holds.row peer unknown;
  owing = λ peer unknown. sym (same' peer) ∙ holds.owing peer unknown;
  listed = holds.listed;
}

pub at_own_peer : {A : Type 0} (peer other : Peer) (new : A) (old : Peer → A) → new ≡ old peer → old other ≡ at_peer peer new old other
at_own_peer {A = A} peer other new old is =
    elim (same_peer other peer) as (λ (same : Bool). same_peer other peer ≡ same → old other ≡ (if same then new else old other)) [
      | true ↦ λ same. ap old (equal_peers other peer same) ∙ sym is
      | false ↦ λ differs. refl
    ] refl

-- the state with a turn
abbrev pub turned : State → Ordinal → Effect → State
turned state ordinal effect = record state {
  shared = with_values state.shared effect.values;
  bonds = at_peer (state.connections ordinal).peer effect.bond state.bonds;
  owed = at_peer (state.connections ordinal).peer effect.owed state.owed;
  connections = at_ordinal ordinal effect.connection state.connections;
}

-- a host that holds the state before it, and what it changes
module _ (state : State) (server : ServerState) (is : Holds state (all_given state) server) (settled : IsSettled state) (place : ℕ) (ordinal : Ordinal)
    (there : slice_get state.slots place ≡ Some (Some ordinal)) (effect : Effect) (change : SlotState → SlotState) where
  abbrev connection : ConnectionState
  connection = state.connections ordinal

  abbrev new : State
  new = turned state ordinal effect

  abbrev becoming : Option SlotState → Option SlotState
  becoming slot = option_map change slot

  others-stay : (other : Ordinal) → (other == ordinal) ≡ false → slot_state_handed state (all_given state) (Some other)
      ≡ slot_state_handed new (all_given state) (Some other)
  others-stay other differs =
      ap (λ (same : Bool). slot_state_if_there state.shared (if same then effect.connection else state.connections other) (state.connections other).given)
      (sym differs)

  itself : slot_state_if_there state.shared effect.connection connection.given ≡ slot_state_handed new (all_given state) (Some ordinal)
  itself =
      ap (λ (same : Bool). slot_state_if_there state.shared (if same then effect.connection else connection) connection.given)
      (sym (eq-eqb ordinal ordinal refl))

  slots-turned : slot_state_if_there state.shared effect.connection connection.given ≡ becoming (slot_state_if_there state.shared connection connection.given)
      → slots_at place change (slot_states_handed state (all_given state)) ≡ slot_states_handed new (all_given state)
  slots-turned same =
      changed_one (slot_state_handed state (all_given state)) (slot_state_handed new (all_given state)) ordinal refl others-stay state.next state.slots place
      becoming settled.slots there
      (sym same ∙ itself)

  ready-turned : is_ready server.controller ≡ true
  ready-turned = ap is_ready is.controller ∙ ready_where state settled place ordinal there

  were-open : server.slots ≡ slot_states_handed state (all_given state)
  were-open = sym (ap (λ (ready : Bool). if ready then server.slots else []) ready-turned) ∙ is.slots

  at-length : (xs : List (Option SlotState)) (found : Option (Option SlotState)) → length (option_map_or (λ slot. set xs place (becoming slot)) found xs)
      ≡ length xs
  at-length xs None = refl
  at-length xs (Some slot) = length-set xs place (becoming slot)
    where
      length-set : (xs : List (Option SlotState)) (place : ℕ) (slot : Option SlotState) → length (set xs place slot) ≡ length xs
      length-set [] place slot = refl
      length-set (x ∷ xs) zero slot = refl
      length-set (x ∷ xs) (suc place) slot = ap (λ (count : ℕ). suc count) (length-set xs place slot)

  keyed-turned : HasKeysOfItsPeer state.shared.keys effect.connection → (other : Ordinal)
      → HasKeysOfItsPeer state.shared.keys (at_ordinal ordinal effect.connection state.connections other)
  keyed-turned keyed other =
      elim (other == ordinal) as (λ (same : Bool). HasKeysOfItsPeer state.shared.keys (if same then effect.connection else state.connections other)) [
        | true ↦ keyed
        | false ↦ is.keyed other
      ]

  pub holds_turned : (table : Contents) (rows : Subscriptions) → table ≡ record state.shared.table { values = effect.values }
      → HoldsBonds state.shared.keys rows new.bonds new.owed → HasKeysOfItsPeer state.shared.keys effect.connection
      → slot_state_if_there state.shared effect.connection connection.given ≡ option_map change (slot_state_if_there state.shared connection connection.given)
      → Holds new (all_given state) (record server { table = table; rows = rows; slots = slots_at place change server.slots })
  holds_turned table rows table_is rows_are keyed same = record {
    table = table_is;
    changer = is.changer;
    keys = is.keys;
    rx_mtu = is.rx_mtu;
    time = is.time;
    buffers = is.buffers;
    rows = rows_are;
    keyed = keyed-turned keyed;
    controller = is.controller;
    free = λ early. absurd (clash (sym early ∙ ready_where state settled place ordinal there));
    ready = λ ready. at-length server.slots (slice_get server.slots place) ∙ is.ready ready;
    slots = ap (λ (ready : Bool). if ready then slots_at place change server.slots else []) ready-turned
        ∙ ap (λ slots. slots_at place change slots) were-open ∙ slots-turned same;
  }

  -- where nothing is changed but the connection
  pub holds_alone : effect.values ≡ state.shared.table.values → effect.bond ≡ state.bonds connection.peer → effect.owed ≡ state.owed connection.peer
      → HasKeysOfItsPeer state.shared.keys effect.connection
      → slot_state_if_there state.shared effect.connection connection.given ≡ option_map change (slot_state_if_there state.shared connection connection.given)
      → Holds new (all_given state) (record server { slots = slots_at place change server.slots })
  holds_alone values bond owed keyed same =
      holds_turned server.table server.rows
      (is.table ∙ ap (λ values. record state.shared.table { values = values }) (sym values))
      (bonds_alike state.shared.keys server.rows state.bonds new.bonds state.owed new.owed
      (λ peer. at_own_peer connection.peer peer effect.bond state.bonds bond) (λ peer. at_own_peer connection.peer peer effect.owed state.owed owed) is.rows)
      keyed same

  -- what is kept at its place
  pub kept_at_place : is_there connection.mark ≡ true → server_slot_at server place ≡ Some (slot_state_of state.shared connection connection.given)
  kept_at_place is_there =
      let read : slice_get (slot_states_handed state (all_given state)) place ≡ Some (slot_state_if_there state.shared connection connection.given) =
      slice_get-map (slot_state_handed state (all_given state)) state.slots place ∙ ap (λ found. option_map (slot_state_handed state (all_given state)) found)
      there in
      ap (λ (slots : List (Option SlotState)). option_map_or (λ (slot : Option SlotState). slot) (slice_get slots place) None) were-open
      ∙ ap (λ found. option_map_or (λ (slot : Option SlotState). slot) found None) read
      ∙ kept_there state.shared connection connection.given is_there

  pub kept_here : is_live connection.mark ≡ true → server_slot_at server place ≡ Some (slot_state_of state.shared connection connection.given)
  kept_here live = kept_at_place (live_there connection.mark live)
