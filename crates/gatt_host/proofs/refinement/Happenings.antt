-- What happens to a state, by the places of connections, leads a host on.
use Rattle.std.proofs.Common.{◌≡◌, ℕ, Bool, true, [], Option, Some, None, sym, ap, subst}
use Rattle.std.proofs.Common.{◌∙◌}
use Rattle.std.specs.Prelude.{if◌then◌else◌, IfSome}
use Rattle.std.specs.Option.{option_map}
use Rattle.gatt_host.proofs.refinement.Answered.{answer_leads}
use Rattle.gatt_host.proofs.refinement.Connecting.{coming_leads, going_leads, ready_where_free}
use Rattle.gatt_host.proofs.refinement.Completions.{completion_leads}
use Rattle.gatt_host.proofs.refinement.ForAll.{nothing_leads, time_leads, update_leads}
use Rattle.gatt_host.proofs.refinement.Holding.{Holds, holds}
use Rattle.gatt_host.proofs.refinement.Links.{encryption_leads, refresh_leads}
use Rattle.gatt_host.proofs.refinement.Names.{knows_the_same, place_there}
use Rattle.gatt_host.proofs.refinement.OwnEvents.{authorized_leads, disconnected_leads, key_asked_leads}
use Rattle.gatt_host.proofs.refinement.OwnEvents.{other_channel_leads}
use Rattle.gatt_host.proofs.refinement.Replacements.{replacement_leads}
use Rattle.gatt_host.proofs.refinement.Requests.{request_leads}
use Rattle.gatt_host.proofs.refinement.Effects.{kept_here}
use Rattle.gatt_host.specs.ServerState.{ServerState, ServesRequest, after_connection_complete, server_slot_at}
use Rattle.gatt_host.specs.EventRefinement.{EventsAreRefined}
use Rattle.gatt_host.specs.Meaning.{IsAfter}
use Rattle.gatt_host.specs.Owing.{all_given}
use Rattle.gatt_host.specs.StateRefinement.{IsServing, IsSound, RefinesStep, RefinesState, place_of_connection}
use Rattle.gatt_laws.specs.laws.Possible.{IsMeant, ServesInASlot}
use Rattle.gatt_laws.specs.laws.Renaming.{renamed}
use Rattle.gatt_laws.specs.machine.Controller.{has_free}
use Rattle.gatt_laws.specs.machine.Event.{Ordinal, Event, Of, Connected, Disconnected, KeyAsked, Encrypted}
use Rattle.gatt_laws.specs.machine.Event.{Refreshed, Asks, OtherChannel, Authorized, Ended, Completed}
use Rattle.gatt_laws.specs.machine.Event.{Credit, Update, Tick, Replaced, Nothing}
use Rattle.gatt_laws.specs.machine.ConnectionState.{ConnectionState}
use Rattle.gatt_laws.specs.machine.State.{State}
use Rattle.gatt_laws.specs.machine.Effect.{effect_of}
use Rattle.host_connections.specs.SlotState.{SlotState, slot_state_of}
use Rattle.host_connections.specs.Slots.{place_free}
use Rattle.le_hci.specs.declared.peer.Peer.{Peer}
use Rattle.octet_io.specs.Number.{Octets}

module _ (state : State) (server : ServerState) (sound : IsSound state) (refines : RefinesState state [] server) where
  is : Holds state (all_given state) server
  is = holds state server refines

  serves-there : (ordinal : Ordinal) → ServesInASlot state ordinal
      → IsServing state (place_of_connection state ordinal) ordinal
  serves-there ordinal serves =
      record { there = place_there state server sound refines ordinal serves.has; live = serves.live }

  -- a PDU of the connection of a slot
  asked-leads : (place : ℕ) (ordinal : Ordinal) (pdu : Octets) (new : ServerState)
      → IsServing state place ordinal
      → IfSome (server_slot_at server place) (λ slot_state. ServesRequest place pdu slot_state server new)
      → RefinesStep state (Of ordinal (Asks pdu)) new
  asked-leads place ordinal pdu new serves after =
      let connection : ConnectionState = state.connections ordinal in
      let slot_state : SlotState = slot_state_of state.shared connection connection.given in
      let at : server_slot_at server place ≡ Some slot_state =
      kept_here state server is sound.settled place ordinal serves.there
      (effect_of state.shared (state.bonds connection.peer) (state.owed connection.peer) connection (Asks pdu))
      (λ slot_state. slot_state) serves.live in
      request_leads state server new place ordinal pdu slot_state sound refines serves at
      (subst (λ (found : Option SlotState). IfSome found (λ slot_state. ServesRequest place pdu slot_state server new)) at
      after)

  -- one comes to the place where the next one is found
  came-leads : (ordinal : Ordinal) (handle : ℕ) (peer : Peer) → ordinal ≡ state.next
      → has_free state.slots ≡ true
      → RefinesStep state (Of ordinal (Connected handle peer))
      (after_connection_complete (place_of_connection state ordinal) handle peer server)
  came-leads ordinal handle peer next free =
      let found : place_free server.slots ≡ Some (place_of_connection state state.next) =
      (knows_the_same state server sound refines).next_free (ready_where_free state sound free)
      ∙ ap (λ (free : Bool). option_map (place_of_connection state) (if free then Some state.next else None))
      free in
      subst (λ (one : Ordinal). RefinesStep state (Of one (Connected handle peer))
      (after_connection_complete (place_of_connection state one) handle peer server)) (sym next)
      (coming_leads state server (place_of_connection state state.next) handle peer sound refines free found)

  leads-by : {event : Event} {new after : ServerState} → new ≡ after → RefinesStep state event after
      → RefinesStep state event new
  leads-by {event = event} is leads =
      subst (λ (server : ServerState). RefinesStep state event server) (sym is) leads

  event-leads : (event : Event) (new : ServerState) → IsMeant (λ table. Unit) state event
      → IsAfter (renamed (place_of_connection state) event) server new → RefinesStep state event new
  event-leads (Of ordinal (Connected handle peer)) new meant after =
      leads-by after (came-leads ordinal handle peer meant.may.next meant.may.free)
  event-leads (Of ordinal Disconnected) new meant after =
      leads-by after (going_leads state server (place_of_connection state ordinal) ordinal sound refines
      (place_there state server sound refines ordinal meant))
  event-leads (Of ordinal (KeyAsked random_number diversifier)) new meant after =
      leads-by after (key_asked_leads state server (place_of_connection state ordinal) ordinal sound refines
      (serves-there ordinal meant) random_number diversifier)
  event-leads (Of ordinal (Encrypted status enabled)) new meant after =
      leads-by after (encryption_leads state server (place_of_connection state ordinal) ordinal sound refines
      (serves-there ordinal meant) status enabled)
  event-leads (Of ordinal (Refreshed status)) new meant after =
      leads-by after (refresh_leads state server (place_of_connection state ordinal) ordinal sound refines
      (serves-there ordinal meant) status)
  event-leads (Of ordinal (Asks pdu)) new meant after =
      asked-leads (place_of_connection state ordinal) ordinal pdu new (serves-there ordinal meant) after
  event-leads (Of ordinal (OtherChannel channel payload)) new meant after =
      leads-by after (other_channel_leads state server (place_of_connection state ordinal) ordinal sound refines
      (serves-there ordinal meant) channel payload)
  event-leads (Of ordinal (Authorized until)) new meant after =
      leads-by after (authorized_leads state server (place_of_connection state ordinal) ordinal sound refines
      (serves-there ordinal meant) until)
  event-leads (Of ordinal Ended) new meant after =
      leads-by after (disconnected_leads state server (place_of_connection state ordinal) ordinal sound refines
      (serves-there ordinal meant))
  event-leads (Completed entries) new meant after =
      leads-by after (completion_leads state server entries sound refines meant.0 meant.1)
  event-leads (Credit allowed opcode status following) new meant after =
      leads-by after (answer_leads state server allowed opcode status following sound refines meant)
  event-leads (Update handle value) new meant after =
      leads-by after (update_leads state server handle value sound refines meant)
  event-leads (Tick time) new meant after =
      leads-by after (time_leads state server time sound refines meant)
  event-leads (Replaced table) new meant after =
      leads-by after (replacement_leads state server table sound refines)
  event-leads Nothing new meant after = leads-by after (nothing_leads state server sound refines)

pub events_lead_on : EventsAreRefined
events_lead_on state server new event sound refines meant after =
    event-leads state server sound refines event new meant after
