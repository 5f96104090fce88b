-- A table that replaces another leads a host on.
use Rattle.std.proofs.Common.{◌≡◌, Bool, true, false, List, [], ◌∷◌, map, Option, Some, None, refl, sym, ap, subst, ◌∙◌}
use Rattle.std.specs.Prelude.{if◌then◌else◌}
use Rattle.std.proofs.lemmas.List.{length-map}
use Rattle.std.specs.Option.{option_map, option_to_list}
use Rattle.att_numbers.specs.Types.{Handle, Row}
use Rattle.att_table.specs.Changer.{changer_of}
use Rattle.att_table.specs.ConfigRow.{kept_row}
use Rattle.att_table.specs.Table.{Contents}
use Rattle.gatt_conn.specs.Transcript.{Dropped}
use Rattle.gatt_host.proofs.refinement.ForAll.{slots_each, open_each, free_each, each_length}
use Rattle.gatt_host.proofs.refinement.Holding.{Holds, SameLink, ends, holds, keyed_alike}
use Rattle.gatt_host.specs.ServerState.{ServerState, after_replacing}
use Rattle.gatt_host.specs.Owing.{all_given}
use Rattle.gatt_host.specs.StateRefinement.{bond_in, HoldsBonds, RefinesStep, RefinesState, IsSound}
use Rattle.gatt_laws.specs.machine.Controller.{is_ready}
use Rattle.gatt_laws.specs.machine.Event.{Replaced}
use Rattle.gatt_laws.specs.machine.Notice.{event_told}
use Rattle.gatt_laws.specs.machine.ConnectionState.{ConnectionState, is_live}
use Rattle.gatt_laws.specs.machine.SharedState.{Bonds, ServiceChangedPending}
use Rattle.gatt_laws.specs.machine.State.{State, announced, bonds_replaced, owed_by, connection_after_replacement, change_of}
use Rattle.host_connections.proofs.states.Events.{replaced_kept}
use Rattle.host_connections.specs.SlotState.{SlotState}
use Rattle.host_connections.specs.SlotEffects.{after_table}
use Rattle.gatt_subs.proofs.Fitted.{kept_each}
use Rattle.gatt_subs.specs.declared.bond.Bond.{Bond}
use Rattle.gatt_subs.specs.Changes.{with_changes_owed}
use Rattle.gatt_subs.specs.Fit.{wants_changes}
use Rattle.gatt_subs.specs.Indications.{after_replacement}
use Rattle.gatt_subs.specs.Rows.{Subscriptions, kept_bond}
use Rattle.le_hci.specs.declared.peer.Peer.{Peer}
use Rattle.le_security.specs.Keys.{is_known}
use Rattle.le_security.specs.declared.entry.Entry.{Entry}

-- the bonds of the rows
abbrev rows_replaced : Contents → Contents → Subscriptions → Subscriptions
rows_replaced old new rows = record rows { bonds = map (with_changes_owed (changer_of new)) (map (kept_bond old.attributes new.attributes) rows.bonds) }

mapped-twice : (known : Bool) (f g : Bond → Bond) (bond : Bond) → option_map g (option_map f (if known then Some bond else None))
    ≡ (if known then Some (g (f bond)) else None)
mapped-twice true f g bond = refl
mapped-twice false f g bond = refl

wants-none : (changer : Option Handle) → wants_changes changer [] ≡ false
wants-none None = refl
wants-none (Some handle) = refl

bonds-replaced : (keys : List Entry) (rows : Subscriptions) (bonds : Bonds) (owed : ServiceChangedPending) (old new : Contents)
    → HoldsBonds keys rows bonds owed
    → HoldsBonds keys (rows_replaced old new rows) (bonds_replaced old new bonds) (owed_by (changer_of new) (bonds_replaced old new bonds))
bonds-replaced keys rows bonds owed old new holds =
    let keep : Bond → Bond = kept_bond old.attributes new.attributes in
    let owe : Bond → Bond = with_changes_owed (changer_of new) in
    let slot_state : Subscriptions = record rows { bonds = map keep rows.bonds } in
    let none : (peer : Peer) → is_known keys peer ≡ false → bonds_replaced old new bonds peer ≡ [] =
    λ peer unknown. ap (kept_row old.attributes new.attributes) (holds.row peer unknown) in
    record {
      known = λ peer.
          kept_each owe slot_state rows.peers (map keep rows.bonds) (map owe (map keep rows.bonds)) rows.unfitted peer refl refl
          ∙ ap (λ found. option_map owe found) (kept_each keep rows rows.peers rows.bonds (map keep rows.bonds) rows.unfitted peer refl refl
          ∙ ap (λ found. option_map keep found) (holds.known peer))
          ∙ mapped-twice (is_known keys peer) keep owe (bond_in bonds owed peer);
      row = none;
      owing = λ peer unknown. ap (wants_changes (changer_of new)) (none peer unknown) ∙ wants-none (changer_of new);
      listed = record {
        peers = holds.listed.peers;
        count = length-map (map keep rows.bonds) owe ∙ length-map rows.bonds keep ∙ holds.listed.count;
        unfitted = holds.listed.unfitted;
      };
    }

-- the link of a connection
replaced-link : (old new : Contents) (connection : ConnectionState) → SameLink connection (connection_after_replacement old new connection)
replaced-link old new connection =
    let row : Row = kept_row old.attributes new.attributes connection.row in
    elim (is_live connection.mark) as (λ (live : Bool). SameLink connection
    (record (if live then record connection { said = Dropped ∷ connection.said; pending = after_replacement connection.pending } else connection) {
      row = row;
    })) [
      | true ↦ (refl, refl)
      | false ↦ (refl, refl)
    ]

module _ (state : State) (server : ServerState) (table : Contents) (sound : IsSound state) (refines : RefinesState state [] server) where
  is : Holds state (all_given state) server
  is = holds state server refines

  abbrev becoming : Contents → Option SlotState → Option SlotState
  becoming old slot = option_map (after_table old.attributes table.attributes) slot

  abbrev with_table : ServerState
  with_table = record server {
    table = announced table;
    changer = changer_of table;
    rows = rows_replaced server.table table server.rows;
    slots = map (becoming server.table) server.slots;
  }

  replacement-holds : Holds (change_of state (Replaced table)).state (all_given state) with_table
  unfolding change_of
  replacement-holds =
      let new : State = (change_of state (Replaced table)).state in
      record {
        table = refl;
        changer = refl;
        keys = is.keys;
        rx_mtu = is.rx_mtu;
        time = is.time;
        buffers = is.buffers;
        rows = subst (λ (old : Contents). HoldsBonds state.shared.keys (rows_replaced old table server.rows) new.bonds new.owed) (sym is.table)
            (bonds-replaced state.shared.keys server.rows state.bonds state.owed state.shared.table table is.rows);
        keyed = λ ordinal.
            keyed_alike state.shared.keys (state.connections ordinal) (new.connections ordinal)
            (replaced-link state.shared.table table (state.connections ordinal)) (is.keyed ordinal);
        controller = is.controller;
        free = λ early. ap (λ slots. map (becoming server.table) slots) (is.free early) ∙ free_each (becoming server.table) refl state.shared.slots;
        ready = λ ready. each_length (becoming server.table) server.slots ∙ is.ready ready;
        slots = open_each (becoming server.table) (is_ready server.controller) server.slots
            ∙ (λ i. map (becoming (is.table i)) (is.slots i))
            ∙ slots_each state new (all_given state) (becoming state.shared.table) refl
            (λ ordinal. sym (replaced_kept state.shared (state.connections ordinal) state.shared.table table (state.connections ordinal).given)) state.slots;
      }

  pub replacement_leads : RefinesStep state (Replaced table) (after_replacing table server)
  unfolding change_of event_told
  replacement_leads =
      ends state (Replaced table) sound tt with_table replacement-holds None [] (option_to_list (changer_of table))
      (λ place ordinal there found slot_state. refl) refl
