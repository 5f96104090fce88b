-- What a packet, a call or a table means may come in the state in which it means it.
use Rattle.std.proofs.Common.{◌≡◌, ℕ, Bool, true, false, List, [], ◌∷◌, ◌++◌, length, Option, Some}
use Rattle.std.proofs.Common.{None, refl, sym, ap, ◌∙◌, arith}
use Rattle.std.specs.Prelude.{Result, Ok, Err, is_none, nat_le, nat_lt, ◌==◌, ◌&&◌, ◌||◌, not}
use Rattle.std.specs.Prelude.{if◌then◌else◌}
use Rattle.std.specs.Option.{option_map, option_map_or, option_to_list}
use Rattle.std.proofs.lemmas.Bool.{eq-eqb, ltb-false, or_right}
use Rattle.att_numbers.specs.Types.{Handle}
use Rattle.att_attributes.specs.declared.attr.Attr.{Attr}
use Rattle.att_attributes.specs.Attributes.{attribute_at, is_value}
use Rattle.att_table.specs.Changer.{changer_of}
use Rattle.att_table.specs.Table.{Contents}
use Rattle.gatt_laws.specs.laws.Possible.{ServesInASlot, OwnIsMeant, HaveSlots, IsMeant, Possible}
use Rattle.gatt_laws.specs.laws.Present.{ConnectsUnused}
use Rattle.gatt_laws.specs.laws.Settled.{has_slot}
use Rattle.gatt_laws.specs.machine.Calls.{Call, UpdateCall, AuthorizeCall, DisconnectCall, TickCall}
use Rattle.gatt_laws.specs.machine.Calls.{NotAValue, BadLength, TimeWentBack, NoServiceChanged}
use Rattle.gatt_laws.specs.machine.Calls.{has_length, update_event, authorize_event}
use Rattle.gatt_laws.specs.machine.Calls.{disconnect_event, call_event, same_changer}
use Rattle.gatt_laws.specs.machine.Calls.{replacement_event}
use Rattle.gatt_laws.specs.machine.Context.{context_of, holding, ordinal_where, serving}
use Rattle.gatt_laws.specs.machine.Controller.{Controller, Slots, has_free, is_ready}
use Rattle.gatt_laws.specs.machine.Event.{Ordinal, Own, Event, Connected, Disconnected, KeyAsked, Encrypted}
use Rattle.gatt_laws.specs.machine.Event.{Refreshed, Asks, OtherChannel, Of}
use Rattle.gatt_laws.specs.machine.Event.{Credit, Update, Tick, Replaced, Nothing}
use Rattle.gatt_laws.specs.machine.Packets.{Fault, following_of, is_awaited, answered, own_event}
use Rattle.gatt_laws.specs.machine.Packets.{peripheral, last_connection_handle, entries_of_connections}
use Rattle.gatt_laws.specs.machine.Packets.{connection_event, connection_event_if_ready}
use Rattle.gatt_laws.specs.machine.Packets.{reported_event, event_or_bad, of_frame, of_octets}
use Rattle.gatt_laws.specs.machine.Packets.{frame_event, Recombination, data_event}
use Rattle.gatt_laws.specs.machine.Packets.{Fragments, recombinations_of, packet_event}
use Rattle.gatt_laws.specs.machine.ConnectionState.{is_live}
use Rattle.gatt_laws.specs.machine.State.{State}
use Rattle.le_acl.specs.Fragment.{Fragment, fragment_of}
use Rattle.le_h4.specs.Packet.{Packet, AclPacket, EventPacket, ScoPacket}
use Rattle.le_hci.specs.Command.{Commanded, opcode_of}
use Rattle.le_hci.specs.declared.event.BadEvent.{BadEvent}
use Rattle.le_hci.specs.declared.event.CompletedPackets.{CompletedPackets}
use Rattle.le_hci.specs.declared.init.Init.{Init}
use Rattle.le_hci.specs.declared.peer.Peer.{Peer}
use Rattle.le_hci.specs.Event as event
use Rattle.le_hci.specs.Event.{Reported, event_of}
use Rattle.le_hci.specs.Init.{command_awaited, init_outcome}
use Rattle.le_l2cap.specs.declared.channel.TheConstants.{ATT, LE_SIGNALLING, SECURITY_MANAGER}
use Rattle.le_l2cap.specs.declared.frame.Skip.{Skip}
use Rattle.le_l2cap.specs.Frame.{BasicFrame, frame_of}
use Rattle.octet_io.proofs.Choices.{and_true_right, and_true_left}
use Rattle.octet_io.specs.Number.{Octets}

-- a command that is awaited is one of initialisation
awaits-some : (awaiting : Bool) (command : Option Commanded) (opcode : ℕ)
    → (awaiting && option_map_or (λ awaited. opcode == awaited) (option_map opcode_of command)
    false) ≡ true → is_none command ≡ false
awaits-some awaiting (Some command) opcode is = refl
awaits-some true None opcode is = cc is
awaits-some false None opcode is = cc is

none-there : {A : Type 0} (found : Option A) → is_none found ≡ true → found ≡ None
none-there None is = refl
none-there (Some one) is = cc is

-- who is found has a slot, and passes the test
record IsFound (test : Ordinal → Bool) (slots : Slots) (ordinal : Ordinal) : Type 0 where
  has : has_slot ordinal slots ≡ true
  passes : test ordinal ≡ true

is-found : (test : Ordinal → Bool) (slots : Slots) (ordinal : Ordinal)
    → ordinal_where test slots ≡ Some ordinal → IsFound test slots ordinal
is-found test [] ordinal is = cc is
is-found test (None ∷ slots) ordinal is = let later = is-found test slots ordinal is in
    record { has = later.has; passes = later.passes }
is-found test (Some other ∷ slots) ordinal is =
    elim (test other) as (λ (passes : Bool). test other ≡ passes
    → (if passes then Some other else ordinal_where test slots) ≡ Some ordinal
    → IsFound test (Some other ∷ slots) ordinal) [
      | true ↦ λ passes same.
          let equal : other ≡ ordinal = cc same in
          record {
            has =
                ap (λ (own : Bool). own || has_slot ordinal slots) (eq-eqb other ordinal equal);
            passes =
                ap test (sym equal) ∙ passes;
          }
      | false ↦ λ fails later.
          let found = is-found test slots ordinal later in
          record {
            has = or_right (other == ordinal) (has_slot ordinal slots) found.has;
            passes =
                found.passes;
          }
    ] refl is

holds-a-slot : (state : State) (handle : ℕ) (ordinal : Ordinal)
    → holding state handle ≡ Some ordinal → has_slot ordinal state.slots ≡ true
holds-a-slot state handle ordinal is =
    (is-found (λ ordinal. (state.connections ordinal).handle == handle) state.slots ordinal is).has

pub serves_in_a_slot : (state : State) (handle : ℕ) (ordinal : Ordinal)
    → serving state handle ≡ Some ordinal → ServesInASlot state ordinal
serves_in_a_slot state handle ordinal is =
    let found =
    is-found (λ ordinal. is_live (state.connections ordinal).mark && (state.connections ordinal).handle == handle) state.slots ordinal is in
    record {
      has = found.has;
      live =
          and_true_left (is_live (state.connections ordinal).mark) ((state.connections ordinal).handle == handle) found.passes;
    }

module _ (Fine : Contents → Type 0) where
  abbrev pub MeantIfAny : {E : Type 0} → State → Result Event E → Type 0
  MeantIfAny state (Ok event) = IsMeant Fine state event
  MeantIfAny state (Err refused) = Unit

  either-meant : (state : State) (test : Bool) (one other : Event)
      → (test ≡ true → IsMeant Fine state one) → IsMeant Fine state other
      → IsMeant Fine state (if test then one else other)
  either-meant state true one other first second = first refl
  either-meant state false one other first second = second

  answered-meant : (state : State) (allowed opcode : ℕ) (status : Option ℕ)
      (following : Result (Option Init) Fault)
      → ((init : Init) → following ≡ Ok (Some init) → is_ready state.controller ≡ false)
      → MeantIfAny state (answered allowed opcode status following)
  answered-meant state allowed opcode status (Ok (Some init)) early = early init refl
  answered-meant state allowed opcode status (Ok None) early = tt
  answered-meant state allowed opcode status (Err fault) early = tt

  -- a state follows only where a command was awaited
  awaited-early : (controller : Controller) (opcode : ℕ) (test : Bool)
      (following : Result (Option Init) Fault) (init : Init)
      → (test ≡ true → is_awaited controller opcode ≡ true)
      → (if test then following else Ok None) ≡ Ok (Some init) → is_ready controller ≡ false
  awaited-early controller opcode true following init awaited is =
      awaits-some controller.awaiting (command_awaited controller.init) opcode (awaited refl)
  awaited-early controller opcode false following init awaited is = cc is

  own-meant : (state : State) (found : Option Ordinal) (own : Own)
      → ((ordinal : Ordinal) → found ≡ Some ordinal → OwnIsMeant state ordinal own)
      → IsMeant Fine state (own_event found own)
  own-meant state None own may = tt
  own-meant state (Some ordinal) own may = may ordinal refl

  coming-meant : (state : State) (handle : ℕ) (peer : Peer) → holding state handle ≡ None
      → IsMeant Fine state (own_event (context_of state).next_free (Connected handle peer))
  coming-meant state handle peer unused =
      elim (has_free state.slots) as (λ (free : Bool). has_free state.slots ≡ free
      → IsMeant Fine state
      (own_event (if free then Some state.next else None) (Connected handle peer))) [
        | true ↦ λ free. record { may = record { next = refl; free = free }; unused = unused }
        | false ↦ λ full. tt
      ] refl

  one-more : (slots : Slots) (packets : ℕ) (found : Option Ordinal) (entries : List (Ordinal × ℕ))
      → ((ordinal : Ordinal) → found ≡ Some ordinal → has_slot ordinal slots ≡ true)
      → HaveSlots slots entries
      → HaveSlots slots (option_to_list (option_map (λ connection. (connection, packets)) found) ++
      entries)
  one-more slots packets None entries has others = others
  one-more slots packets (Some ordinal) entries has others = (has ordinal refl, others)

  have-slots : (slots : Slots) (found : ℕ → Option Ordinal)
      → ((handle : ℕ) (ordinal : Ordinal) → found handle ≡ Some ordinal
      → has_slot ordinal slots ≡ true)
      → (entries : List CompletedPackets) → HaveSlots slots (entries_of_connections found entries)
  have-slots slots found has [] = tt
  have-slots slots found has (entry ∷ entries) =
      one-more slots entry.packets (found entry.handle) (entries_of_connections found entries)
      (has entry.handle) (have-slots slots found has entries)

  connection-meant : (state : State) (reported : Reported) → is_ready state.controller ≡ true
      → IsMeant Fine state (connection_event (context_of state) reported)
  connection-meant state (event.DisconnectionComplete status handle reason) ready =
      either-meant state (status == 0) (own_event (holding state handle) Disconnected) Nothing
      (λ is. own-meant state (holding state handle) Disconnected (holds-a-slot state handle)) tt
  connection-meant state (event.EncryptionChange status handle enabled) ready =
      own-meant state (serving state handle) (Encrypted status enabled)
      (serves_in_a_slot state handle)
  connection-meant state (event.NumberOfCompletedPackets entries) ready =
      (ready, have-slots state.slots (holding state) (holds-a-slot state) entries)
  connection-meant state (event.EncryptionKeyRefreshComplete status handle) ready =
      own-meant state (serving state handle) (Refreshed status) (serves_in_a_slot state handle)
  connection-meant state (event.ConnectionComplete status handle role peer interval latency timeout
      clock_accuracy) ready =
      let made : Bool =
      (status == 0) && (role == peripheral) && nat_le handle last_connection_handle in
      either-meant state (made && is_none (holding state handle))
      (own_event (context_of state).next_free (Connected handle peer)) Nothing
      (λ is. coming-meant state handle peer
      (none-there (holding state handle) (and_true_right made (is_none (holding state handle)) is))) tt
  connection-meant state (event.LongTermKeyRequest handle random_number diversifier) ready =
      own-meant state (serving state handle) (KeyAsked random_number diversifier)
      (serves_in_a_slot state handle)
  connection-meant state reported ready = tt

  if-ready : (state : State) (reported : Reported)
      → IsMeant Fine state (connection_event_if_ready (context_of state) reported)
  if-ready state reported =
      either-meant state (is_ready state.controller) (connection_event (context_of state) reported)
      Nothing (λ is. connection-meant state reported is) tt

  reported-meant : (state : State) (reported : Reported)
      → MeantIfAny state (reported_event (context_of state) reported)
  reported-meant state (event.CommandComplete allowed opcode returned) =
      answered-meant state allowed opcode _ _
      (λ init is. awaited-early state.controller opcode (is_awaited state.controller opcode)
      (following_of (init_outcome state.controller.init returned)) init (λ so. so) is)
  reported-meant state (event.CommandStatus status allowed opcode) =
      answered-meant state allowed opcode _ _
      (λ init is. awaited-early state.controller opcode
      (is_awaited state.controller opcode && not (status == 0))
      (following_of (init_outcome state.controller.init (status ∷ []))) init
      (λ so. and_true_left (is_awaited state.controller opcode) (not (status == 0)) so) is)
  reported-meant state (event.HardwareError code) = tt
  reported-meant state reported = if-ready state reported

  bad-or-meant : (state : State) (read : Result Reported BadEvent)
      → MeantIfAny state (event_or_bad (context_of state) read)
  bad-or-meant state (Ok reported) = reported-meant state reported
  bad-or-meant state (Err bad) = tt

  -- a frame asks or signals
  if-frame : (state : State) (ordinal : Ordinal) (test : Bool) (own : Own) (rest : Option Own)
      → OwnIsMeant state ordinal own → IsMeant Fine state (frame_event ordinal rest)
      → IsMeant Fine state (frame_event ordinal (if test then Some own else rest))
  if-frame state ordinal true own rest first second = first
  if-frame state ordinal false own rest first second = second

  frame-meant : (state : State) (ordinal : Ordinal) (frame : Result BasicFrame Skip)
      → ServesInASlot state ordinal → IsMeant Fine state (frame_event ordinal (of_frame frame))
  frame-meant state ordinal (Ok frame) serves =
      let signals : Bool = frame.cid == LE_SIGNALLING || frame.cid == SECURITY_MANAGER in
      if-frame state ordinal (frame.cid == ATT) (Asks frame.payload) (if signals then Some (OtherChannel frame.cid frame.payload) else None)
      serves
      (if-frame state ordinal signals (OtherChannel frame.cid frame.payload) None serves tt)
  frame-meant state ordinal (Err skip) serves = tt

  octets-meant : (state : State) (ordinal : Ordinal) (octets : Option Octets)
      → ServesInASlot state ordinal → IsMeant Fine state (frame_event ordinal (of_octets octets))
  octets-meant state ordinal None serves = tt
  octets-meant state ordinal (Some octets) serves =
      frame-meant state ordinal (frame_of octets) serves

  data-meant : (state : State) (recombinations : Ordinal → Recombination) (found : Option Ordinal)
      (fragment : Option Fragment)
      → ((ordinal : Ordinal) → found ≡ Some ordinal → ServesInASlot state ordinal)
      → IsMeant Fine state (data_event recombinations found fragment)
  data-meant state recombinations None fragment serves = tt
  data-meant state recombinations (Some ordinal) None serves = tt
  data-meant state recombinations (Some ordinal) (Some fragment) serves =
      octets-meant state ordinal (recombinations ordinal fragment) (serves ordinal refl)

  pub packet_meant : (state : State) (fragments : Fragments) (packet : Packet)
      → MeantIfAny state (packet_event state fragments packet)
  unfolding packet_event
  packet_meant state fragments (EventPacket octets) = bad-or-meant state (event_of octets)
  packet_meant state fragments (AclPacket handle boundary broadcast octets) =
      data-meant state (recombinations_of fragments) (serving state handle)
      (fragment_of boundary broadcast octets) (serves_in_a_slot state handle)
  packet_meant state fragments ScoPacket = tt

  update-meant : (state : State) (handle : Handle) (value : Octets) (found : Option Attr)
      → attribute_at state.shared.table.attributes handle ≡ found
      → MeantIfAny state (update_event handle value found)
  update-meant state handle value None at = tt
  update-meant state handle value (Some attr) at =
      elim (is_value attr.role) as
      (λ is. MeantIfAny state
      (if not is then Err NotAValue else if not (has_length attr (length value)) then Err BadLength
      else Ok (Update handle value))) [
        | false ↦ tt
        | true ↦
            elim (has_length attr (length value)) as (λ has. has_length attr (length value) ≡ has
            → MeantIfAny state (if not has then Err BadLength else Ok (Update handle value))) [
              | false ↦ λ is. tt
              | true ↦ λ is. record { attr = attr; there = at; fits = is }
            ] refl
      ]

  authorize-meant : (state : State) (until : ℕ) (found : Option Ordinal)
      → ((ordinal : Ordinal) → found ≡ Some ordinal → ServesInASlot state ordinal)
      → MeantIfAny state (authorize_event until found)
  authorize-meant state until None serves = tt
  authorize-meant state until (Some ordinal) serves = serves ordinal refl

  disconnect-meant : (state : State) (found : Option Ordinal)
      → ((ordinal : Ordinal) → found ≡ Some ordinal → ServesInASlot state ordinal)
      → MeantIfAny state (disconnect_event found)
  disconnect-meant state None serves = tt
  disconnect-meant state (Some ordinal) serves = serves ordinal refl

  pub call_meant : (state : State) (call : Call) → MeantIfAny state (call_event state call)
  call_meant state (UpdateCall handle value) =
      update-meant state handle value (attribute_at state.shared.table.attributes handle) refl
  call_meant state (AuthorizeCall handle until) =
      authorize-meant state until (serving state handle) (serves_in_a_slot state handle)
  call_meant state (DisconnectCall handle) =
      disconnect-meant state (serving state handle) (serves_in_a_slot state handle)
  call_meant state (TickCall time) =
      elim (nat_lt time state.shared.time) as (λ back. nat_lt time state.shared.time ≡ back
      → MeantIfAny state (if back then Err TimeWentBack else Ok (Tick time))) [
        | true ↦ λ is. tt
        | false ↦ λ is. omega (arith, ltb-false time state.shared.time is)
      ] refl

  pub replacement_meant : (state : State) (table : Contents) → Fine table
      → MeantIfAny state (replacement_event state table)
  replacement_meant state table is =
      elim (same_changer state.shared.changer (changer_of table)) as
      (λ same. MeantIfAny state (if same then Ok (Replaced table) else Err NoServiceChanged))
      [ true ↦ is | false ↦ tt ]

  -- so it is possible, and comes unused
  pub possible_where_meant : (state : State) (event : Event) → IsMeant Fine state event
      → Possible Fine state event
  possible_where_meant state (Of ordinal (Connected handle peer)) is = is.may
  possible_where_meant state (Credit allowed opcode status following) is = is
  possible_where_meant state (Update handle value) is = is
  possible_where_meant state (Tick time) is = is
  possible_where_meant state (Replaced table) is = is
  possible_where_meant state event is = tt

  pub unused_where_meant : (state : State) (event : Event) → IsMeant Fine state event
      → ConnectsUnused state event
  unused_where_meant state (Of ordinal (Connected handle peer)) is = is.unused
  unused_where_meant state event is = tt
