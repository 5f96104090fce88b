-- A slot that is changed in its place, and then all that is heard.
use Rattle.std.proofs.Common.{◌≡◌, ℕ, Bool, List, [], set, Option, Some, None, refl, sym, ap, subst, ◌∙◌}
use Rattle.std.specs.Prelude.{IfSome, slice_get}
use Rattle.std.specs.Option.{option_map, option_map_or}
use Rattle.att_numbers.specs.Types.{Handle}
use Rattle.att_table.specs.Table.{Contents}
use Rattle.gatt_host.specs.declared.last_event.LastEvent.TheVariants as last
use Rattle.gatt_host.specs.ServerState.{ServerState, ServesRequest, brought_by, after_connection_complete, after_no_change, server_slot_at, row_at, share_in, fragment_size_in, with_last}
use Rattle.gatt_laws.specs.machine.Controller.{Controller}
use Rattle.gatt_laws.specs.machine.Event.{Connected}
use Rattle.gatt_laws.specs.machine.State.{advertising_after}
use Rattle.host_connections.specs.declared.request.Brought.{Brought}
use Rattle.host_connections.specs.SlotState.{SlotState}
use Rattle.host_connections.specs.Request.{bond_served, confirmed_of, handles_written_by, overflows, slot_after_request, table_after}
use Rattle.host_connections.specs.declared.skipped.Skipped.{Skipped}
use Rattle.host_connections.specs.Skips.{all_skipped}
use Rattle.host_connections.specs.Slots.{all_heard, at_place, slots_at}
use Rattle.host_connections.specs.SlotEffects.{new_slot_state}
use Rattle.gatt_subs.specs.Rows.{Subscriptions, ChangesBond}
use Rattle.le_hci.specs.declared.peer.Peer.{Peer}
use Rattle.le_security.specs.Keys.{is_known}
use Rattle.octet_io.specs.Number.{Octets}

-- a PDU of the Attribute Protocol is served, and then all hear
module _ (old : ServerState) (place : ℕ) (pdu : Octets) (table : Contents) (rows : Subscriptions) (written : List Handle) (handle : ℕ) (brought : Brought)
    (changed slots : List (Option SlotState)) (skipped : List Skipped)
    (changes : changed ≡ slots_at place (λ slot_state. slot_after_request old.table old.time (row_at old slot_state) pdu slot_state) old.slots)
    (heard : slots ≡ all_heard table old.time rows (Some place) [] written changed)
    (skips : skipped ≡ all_skipped table old.time rows (Some place) [] written changed) where
  abbrev then_held : ServerState → ServerState
  then_held server = record server { table = table; rows = rows; slots = slots; last = last.Served place handle brought; written = written; skipped = skipped }

  abbrev ServesThen : Option SlotState → Type 0
  ServesThen found = IfSome found (λ slot_state. table ≡ table_after old.table old.time (row_at old slot_state) pdu slot_state)
      → IfSome found
      (λ slot_state. ChangesBond (bond_served old.table old.time old.changer (row_at old slot_state) pdu slot_state) slot_state.peer old.rows rows)
      → IfSome found (λ slot_state. written ≡ handles_written_by old.table old.time (row_at old slot_state) pdu slot_state)
      → IfSome found (λ slot_state. handle ≡ slot_state.handle)
      → IfSome found (λ slot_state. brought ≡ brought_by pdu slot_state)
      → IfSome found (λ slot_state. ServesRequest place pdu slot_state old (then_held old))

  served-there : (found : Option (Option SlotState)) → slice_get old.slots place ≡ found
      → ServesThen (option_map_or (λ (slot : Option SlotState). slot) found None)
  served-there None at table-is bond writes own brings = tt
  served-there (Some None) at table-is bond writes own brings = tt
  served-there (Some (Some slot_state)) at table-is bond writes own brings =
      let at-row = λ (it : SlotState). slot_after_request old.table old.time (row_at old slot_state) pdu it in
      let by-row = λ (it : SlotState). slot_after_request old.table old.time (row_at old it) pdu it in
      let same : changed ≡ slots_at place at-row old.slots =
      changes
      ∙ ap (λ (found : Option (Option SlotState)). option_map_or (λ (it : Option SlotState). set old.slots place (option_map by-row it)) found old.slots) at
      ∙ sym (ap (λ (found : Option (Option SlotState)). option_map_or (λ (it : Option SlotState). set old.slots place (option_map at-row it)) found old.slots)
      at) in
      record {
        server = λ i. record old {
          table = table-is i;
          rows = rows;
          slots = (heard ∙ (λ j. all_heard (table-is j) old.time rows (Some place) [] (writes j) (same j))) i;
          last = last.Served place (own i) (brings i);
          written = writes i;
          skipped = (skips ∙ (λ j. all_skipped (table-is j) old.time rows (Some place) [] (writes j) (same j))) i;
        };
        bond = bond;
      }

  pub asked_then_heard : (self : ServerState) → old ≡ self
      → IfSome (server_slot_at old place) (λ slot_state. table ≡ table_after old.table old.time (row_at old slot_state) pdu slot_state)
      → IfSome (server_slot_at old place)
      (λ slot_state. ChangesBond (bond_served old.table old.time old.changer (row_at old slot_state) pdu slot_state) slot_state.peer old.rows rows)
      → IfSome (server_slot_at old place) (λ slot_state. written ≡ handles_written_by old.table old.time (row_at old slot_state) pdu slot_state)
      → IfSome (server_slot_at old place) (λ slot_state. handle ≡ slot_state.handle)
      → IfSome (server_slot_at old place) (λ slot_state. brought ≡ brought_by pdu slot_state)
      → IfSome (server_slot_at self place) (λ slot_state. ServesRequest place pdu slot_state self (then_held old))
  asked_then_heard self view table-is bond writes own brings =
      subst (λ (self : ServerState). IfSome (server_slot_at self place) (λ slot_state. ServesRequest place pdu slot_state self (then_held old))) view
      (served-there (slice_get old.slots place) refl table-is bond writes own brings)

-- what serving it brings, fact by fact
pub both_brought : (pdu : Octets) (brought : Brought) (found : Option SlotState) → IfSome found (λ slot_state. brought.ended ≡ overflows pdu slot_state)
    → IfSome found (λ slot_state. brought.confirmed ≡ confirmed_of pdu slot_state) → IfSome found (λ slot_state. brought ≡ brought_by pdu slot_state)
both_brought pdu brought None ends confirms = tt
both_brought pdu brought (Some slot_state) ends confirms = λ i. record { confirmed = confirms i; ended = ends i }

-- a connection that takes a slot
pub come_then_heard : (old self : ServerState) → old ≡ self → (place handle : ℕ) (peer : Peer) (share size : ℕ) (known : Bool) (controller : Controller)
    (slots : List (Option SlotState)) → share ≡ share_in old → size ≡ fragment_size_in old → known ≡ is_known old.keys peer
    → slots ≡ at_place place (λ slot. Some (new_slot_state handle peer known old.rx_mtu share size)) old.slots
    → controller ≡ advertising_after (Connected handle peer) old.controller
    → with_last (last.Connected handle peer) (after_no_change (record old { controller = controller; slots = slots }))
    ≡ after_connection_complete place handle peer self
come_then_heard old self view place handle peer share size known controller slots share-is size-is known-is changes told =
    (λ i. with_last (last.Connected handle peer) (after_no_change (record old {
      controller = told i;
      slots = (changes ∙ (λ j. at_place place (λ slot. Some (new_slot_state handle peer (known-is j) old.rx_mtu (share-is j) (size-is j))) old.slots)) i;
    })))
    ∙ ap (λ (server : ServerState). after_connection_complete place handle peer server) view
