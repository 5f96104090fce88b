-- What a packet and a call mean is the same whatever the names of connections are.
use Rattle.std.proofs.Common.{◌≡◌, ℕ, Bool, true, false, List, [], ◌∷◌, ◌++◌, length, map, Option}
use Rattle.std.proofs.Common.{Some, None, refl, ap, ◌∙◌}
use Rattle.std.specs.Prelude.{Result, Ok, Err, is_none, nat_le, nat_lt, ◌==◌, ◌&&◌, not}
use Rattle.std.specs.Prelude.{if◌then◌else◌}
use Rattle.std.specs.Option.{option_map, option_to_list}
use Rattle.att_numbers.specs.Types.{Handle}
use Rattle.att_attributes.specs.declared.attr.Attr.{Attr}
use Rattle.att_attributes.specs.Attributes.{attribute_at, is_value}
use Rattle.att_table.specs.Changer.{changer_of}
use Rattle.gatt_laws.specs.laws.Renaming.{renamed_entry, renamed, renamed_if, AreAlike}
use Rattle.gatt_laws.specs.laws.Renaming.{RecombineAlike, CallsMeanTheSame, ReplacementsMeanTheSame}
use Rattle.gatt_laws.specs.laws.Renaming.{PacketsMeanTheSame}
use Rattle.gatt_laws.specs.machine.Calls.{Call, UpdateCall, AuthorizeCall, DisconnectCall, TickCall}
use Rattle.gatt_laws.specs.machine.Calls.{NotAValue, BadLength, TimeWentBack}
use Rattle.gatt_laws.specs.machine.Calls.{NoServiceChanged, has_length, update_event}
use Rattle.gatt_laws.specs.machine.Calls.{authorize_event, disconnect_event, call_meaning}
use Rattle.gatt_laws.specs.machine.Calls.{same_changer}
use Rattle.gatt_laws.specs.machine.Context.{Context}
use Rattle.gatt_laws.specs.machine.Controller.{Controller, is_ready}
use Rattle.gatt_laws.specs.machine.Event.{Own, Connected, Disconnected, KeyAsked, Encrypted, Refreshed}
use Rattle.gatt_laws.specs.machine.Event.{Happening, Completed, Update, Tick, Replaced}
use Rattle.gatt_laws.specs.machine.Event.{Nothing}
use Rattle.gatt_laws.specs.machine.Packets.{Fault, following_of, is_awaited, answered, status_of}
use Rattle.gatt_laws.specs.machine.Packets.{completed_event, status_event, own_event, peripheral}
use Rattle.gatt_laws.specs.machine.Packets.{last_connection_handle, connection_complete_event, entries_of_connections}
use Rattle.gatt_laws.specs.machine.Packets.{connection_event, connection_event_if_ready}
use Rattle.gatt_laws.specs.machine.Packets.{reported_event, event_or_bad, of_octets, frame_event}
use Rattle.gatt_laws.specs.machine.Packets.{Recombination, data_event, packet_meaning}
use Rattle.le_acl.specs.Fragment.{Fragment, fragment_of}
use Rattle.le_h4.specs.Packet.{Packet, AclPacket, EventPacket, ScoPacket}
use Rattle.le_hci.specs.declared.event.BadEvent.{BadEvent}
use Rattle.le_hci.specs.declared.event.CompletedPackets.{CompletedPackets}
use Rattle.le_hci.specs.declared.init.Init.{Init}
use Rattle.le_hci.specs.declared.peer.Peer.{Peer}
use Rattle.le_hci.specs.Event as event
use Rattle.le_hci.specs.Event.{Reported, event_of}
use Rattle.le_hci.specs.Init.{init_outcome}
use Rattle.octet_io.specs.Number.{Octets}

module _ (C D : Type 0) (names : C → D) where
  abbrev other_name : Happening C → Happening D
  other_name happening = renamed names happening

  abbrev other_names : {E : Type 0} → Result (Happening C) E → Result (Happening D) E
  other_names result = renamed_if names result

  if-renamed : (test : Bool) (x y : Happening D) (x' y' : Happening C) → x ≡ other_name x'
      → y ≡ other_name y'
      → (if test then x else y) ≡ other_name (if test then x' else y')
  if-renamed true x y x' y' first second = first
  if-renamed false x y x' y' first second = second

  own-renamed : (found : Option C) (own : Own) → own_event (option_map names found) own
      ≡ other_name (own_event found own)
  own-renamed None own = refl
  own-renamed (Some connection) own = refl

  answered-renamed : (allowed opcode : ℕ) (status : Option ℕ)
      (following : Result (Option Init) Fault)
      → answered allowed opcode status following
      ≡ other_names (answered allowed opcode status following)
  answered-renamed allowed opcode status (Ok following) = refl
  answered-renamed allowed opcode status (Err fault) = refl

  frame-renamed : (connection : C) (own : Option Own) → frame_event (names connection) own
      ≡ other_name (frame_event connection own)
  frame-renamed connection None = refl
  frame-renamed connection (Some own) = refl

  entry-renamed : (found : Option C) (packets : ℕ) (entries : List (C × ℕ)) (others : List (D × ℕ))
      → others ≡ map (renamed_entry names) entries
      → option_to_list (option_map (λ connection. (connection, packets)) (option_map names found))
      ++ others
      ≡ map (renamed_entry names)
      (option_to_list (option_map (λ connection. (connection, packets)) found) ++ entries)
  entry-renamed None packets entries others same = same
  entry-renamed (Some connection) packets entries others same =
      ap (λ (more : List (D × ℕ)). (names connection, packets) ∷ more) same

  -- calls
  fitting-renamed : (is_one has : Bool) (handle : Handle) (value : Octets)
      → (if not is_one then Err NotAValue else if not has then Err BadLength else Ok
      (Update handle value))
      ≡ other_names (if not is_one then Err NotAValue else if not has then Err BadLength else Ok
      (Update handle value))
  fitting-renamed false has handle value = refl
  fitting-renamed true false handle value = refl
  fitting-renamed true true handle value = refl

  update-renamed : (handle : Handle) (value : Octets) (found : Option Attr)
      → update_event handle value found ≡ other_names (update_event handle value found)
  update-renamed handle value None = refl
  update-renamed handle value (Some attr) =
      fitting-renamed (is_value attr.role) (has_length attr (length value)) handle value

  authorize-renamed : (until : ℕ) (found : Option C)
      → authorize_event until (option_map names found) ≡ other_names (authorize_event until found)
  authorize-renamed until None = refl
  authorize-renamed until (Some connection) = refl

  disconnect-renamed : (found : Option C) → disconnect_event (option_map names found)
      ≡ other_names (disconnect_event found)
  disconnect-renamed None = refl
  disconnect-renamed (Some connection) = refl

  tick-renamed : (time : ℕ) (back : Bool) → (if back then Err TimeWentBack else Ok (Tick time))
      ≡ other_names (if back then Err TimeWentBack else Ok (Tick time))
  tick-renamed time true = refl
  tick-renamed time false = refl

  replacement-renamed : (same : Bool) (happening : Happening D) (its : Happening C)
      → happening ≡ other_name its
      → (if same then Ok happening else Err NoServiceChanged)
      ≡ other_names (if same then Ok its else Err NoServiceChanged)
  replacement-renamed true happening its is = ap Ok is
  replacement-renamed false happening its is = refl

  module _ (one : Context C) (other : Context D) (alike : AreAlike C D names one other) where
    call-renamed : (call : Call) → call_meaning other call ≡ other_names (call_meaning one call)
    call-renamed (UpdateCall handle value) =
        ap (λ (attributes : List Attr). update_event handle value (attribute_at attributes handle))
        alike.attributes
        ∙ update-renamed handle value (attribute_at one.attributes handle)
    call-renamed (AuthorizeCall handle until) =
        ap (λ (found : Option D). authorize_event until found) (alike.serving handle)
        ∙ authorize-renamed until (one.serving handle)
    call-renamed (DisconnectCall handle) =
        ap (λ (found : Option D). disconnect_event found) (alike.serving handle)
        ∙ disconnect-renamed (one.serving handle)
    call-renamed (TickCall time) =
        ap (λ (now : ℕ). if nat_lt time now then Err TimeWentBack else Ok (Tick time)) alike.time
        ∙ tick-renamed time (nat_lt time one.time)

    -- what is reported of connections, once the controller is initialised
    module _ (ready : is_ready one.controller ≡ true) where
      entries-renamed : (entries : List CompletedPackets) → entries_of_connections other.holding entries
          ≡ map (renamed_entry names) (entries_of_connections one.holding entries)
      entries-renamed [] = refl
      entries-renamed (entry ∷ entries) =
          ap (λ (found : Option D). option_to_list
          (option_map (λ connection. (connection, entry.packets)) found) ++ entries_of_connections
          other.holding entries)
          (alike.holding ready entry.handle)
          ∙ entry-renamed (one.holding entry.handle) entry.packets
          (entries_of_connections one.holding entries) (entries_of_connections other.holding entries)
          (entries-renamed entries)

      serving-renamed : (handle : ℕ) (own : Own) → own_event (other.serving handle) own
          ≡ other_name (own_event (one.serving handle) own)
      serving-renamed handle own =
          ap (λ (found : Option D). own_event found own) (alike.serving handle)
          ∙ own-renamed (one.serving handle) own

      holding-renamed : (handle : ℕ) (own : Own) → own_event (other.holding handle) own
          ≡ other_name (own_event (one.holding handle) own)
      holding-renamed handle own =
          ap (λ (found : Option D). own_event found own) (alike.holding ready handle)
          ∙ own-renamed (one.holding handle) own

      unused-same : (found : Option C) → is_none (option_map names found) ≡ is_none found
      unused-same None = refl
      unused-same (Some connection) = refl

      coming-renamed : (status handle role : ℕ) (peer : Peer)
          → connection_complete_event other status handle role peer
          ≡ other_name (connection_complete_event one status handle role peer)
      coming-renamed status handle role peer =
          let made : Bool =
          (status == 0) && (role == peripheral) && nat_le handle last_connection_handle in
          let came : Own = Connected handle peer in
          ap (λ (unused : Bool). if made && unused then own_event other.next_free came else Nothing)
          (ap (λ (found : Option D). is_none found) (alike.holding ready handle)
          ∙ unused-same (one.holding handle))
          ∙ if-renamed (made && is_none (one.holding handle)) (own_event other.next_free came) Nothing
          (own_event one.next_free came) Nothing
          (ap (λ (found : Option D). own_event found came) (alike.next_free ready)
          ∙ own-renamed one.next_free came) refl

      connection-renamed : (reported : Reported) → connection_event other reported
          ≡ other_name (connection_event one reported)
      connection-renamed (event.DisconnectionComplete status handle reason) =
          if-renamed (status == 0) (own_event (other.holding handle) Disconnected) Nothing
          (own_event (one.holding handle) Disconnected) Nothing (holding-renamed handle Disconnected) refl
      connection-renamed (event.EncryptionChange status handle enabled) =
          serving-renamed handle (Encrypted status enabled)
      connection-renamed (event.NumberOfCompletedPackets entries) =
          ap Completed (entries-renamed entries)
      connection-renamed (event.EncryptionKeyRefreshComplete status handle) =
          serving-renamed handle (Refreshed status)
      connection-renamed (event.ConnectionComplete status handle role peer interval latency timeout
          clock_accuracy) = coming-renamed status handle role peer
      connection-renamed (event.LongTermKeyRequest handle random_number diversifier) =
          serving-renamed handle (KeyAsked random_number diversifier)
      connection-renamed reported = refl

    by-ready : (reported : Reported) (ready : Bool) → is_ready one.controller ≡ ready
        → (if ready then connection_event other reported else Nothing)
        ≡ other_name (if ready then connection_event one reported else Nothing)
    by-ready reported true ready = connection-renamed ready reported
    by-ready reported false early = refl

    initialised-renamed : (reported : Reported) → connection_event_if_ready other reported
        ≡ other_name (connection_event_if_ready one reported)
    initialised-renamed reported =
        ap (λ (controller : Controller). if is_ready controller then connection_event other reported
        else Nothing) alike.controller
        ∙ by-ready reported (is_ready one.controller) refl

    abbrev Alike : Reported → Type 0
    Alike reported = reported_event other reported ≡ other_names (reported_event one reported)

    reported-renamed : (reported : Reported) → Alike reported
    reported-renamed (event.CommandComplete allowed opcode returned) =
        ap (λ (controller : Controller). completed_event controller allowed opcode returned)
        alike.controller
        ∙ answered-renamed allowed opcode (status_of returned)
        (if is_awaited one.controller opcode then following_of
        (init_outcome one.controller.init returned) else Ok None)
    reported-renamed (event.CommandStatus status allowed opcode) =
        ap (λ (controller : Controller). status_event controller status allowed opcode)
        alike.controller
        ∙ answered-renamed allowed opcode (Some status)
        (if is_awaited one.controller opcode && not (status == 0) then following_of (init_outcome one.controller.init (status ∷ [])) else Ok None)
    reported-renamed (event.HardwareError code) = refl
    reported-renamed reported = ap Ok (initialised-renamed reported)

    read-renamed : (read : Result Reported BadEvent)
        → event_or_bad other read ≡ other_names (event_or_bad one read)
    read-renamed (Ok reported) = reported-renamed reported
    read-renamed (Err bad) = refl

    module _ (recombinations : C → Recombination) (others : D → Recombination) where
      data-renamed : (found : Option C) (fragment : Option Fragment)
          → ((connection : C) → found ≡ Some connection → (fragment : Fragment)
          → others (names connection) fragment ≡ recombinations connection fragment)
          → data_event others (option_map names found) fragment
          ≡ other_name (data_event recombinations found fragment)
      data-renamed None fragment same = refl
      data-renamed (Some connection) None same = refl
      data-renamed (Some connection) (Some fragment) same =
          ap (λ (octets : Option Octets). frame_event (names connection) (of_octets octets))
          (same connection refl fragment)
          ∙ frame-renamed connection (of_octets (recombinations connection fragment))

      packet-renamed : RecombineAlike C D names one recombinations others → (packet : Packet)
          → packet_meaning other others packet
          ≡ other_names (packet_meaning one recombinations packet)
      packet-renamed same (EventPacket octets) = read-renamed (event_of octets)
      packet-renamed same (AclPacket handle boundary broadcast octets) =
          let fragment : Option Fragment = fragment_of boundary broadcast octets in
          ap (λ (found : Option D). Ok (data_event others found fragment)) (alike.serving handle)
          ∙ ap Ok (data-renamed (one.serving handle) fragment (same handle))
      packet-renamed same ScoPacket = refl

pub calls_mean_the_same : CallsMeanTheSame
calls_mean_the_same C D names one other alike call = call-renamed C D names one other alike call

pub replacements_mean_the_same : ReplacementsMeanTheSame
replacements_mean_the_same C D names one other alike table =
    ap (λ (changer : Option Handle). if same_changer changer (changer_of table) then Ok
    (Replaced table) else Err NoServiceChanged) alike.changer
    ∙ replacement-renamed C D names (same_changer one.changer (changer_of table)) (Replaced table)
    (Replaced table) refl

pub packets_mean_the_same : PacketsMeanTheSame
packets_mean_the_same C D names one other alike recombinations others same packet =
    packet-renamed C D names one other alike recombinations others same packet
