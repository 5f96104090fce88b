-- What happens to a state in its run leads a host on in it, whatever means it: by the places of
-- connections the host understands the same.
use Rattle.std.proofs.Common.{◌≡◌, ℕ, ◌≤◌, Bool, true, false, [], ◌∷◌, length, Option, Some, None}
use Rattle.std.proofs.Common.{Result, Ok, Err, refl, sym, ap, subst, ◌∙◌, arith}
use Rattle.std.specs.Prelude.{IsOkAnd, ◌==◌, ◌||◌, if◌then◌else◌}
use Rattle.std.proofs.lemmas.List.{length-set}
use Rattle.gatt_host.proofs.meaning.Staying.{stays_sound}
use Rattle.gatt_host.proofs.meaning.Together.{few_slots, next_place, together_coming, together_then}
use Rattle.gatt_host.proofs.refinement.Arrivals.{frames_follow, recombine_alike, times_follow}
use Rattle.gatt_host.proofs.refinement.Happenings.{events_lead_on}
use Rattle.gatt_host.proofs.refinement.Holding.{has_slot_there, some-is}
use Rattle.gatt_host.proofs.refinement.Names.{finds, knows_the_same}
use Rattle.gatt_host.proofs.refinement.OneSlot.{apart}
use Rattle.gatt_host.specs.Answers.{stop_of}
use Rattle.gatt_host.specs.declared.host_fault.HostFault.{HostFault}
use Rattle.gatt_host.specs.ServerState.{ServerState}
use Rattle.gatt_host.specs.Meaning.{Assemblies, IncomingFrames, context_in, frames_after, IsAfter, recombinations_in}
use Rattle.gatt_host.specs.Notices.{last_notices}
use Rattle.gatt_host.specs.Packet.{TakesPacket, frames_after_acl, frames_after_event}
use Rattle.gatt_host.specs.Packet.{arrivals_with, assembled_with, frames_after_packet, packet_happening, packet_stop}
use Rattle.gatt_host.specs.RunRefinement.{AreNumbered, IsDrainedIn, IsPutTogether, ServerRefinesRun}
use Rattle.gatt_host.specs.RunRefinement.{PacketStops, StopsForFault}
use Rattle.gatt_host.specs.StateRefinement.{IsSound, RefinesStep, RefinesState, place_of_connection}
use Rattle.gatt_host.specs.Telling.{noticed_in}
use Rattle.gatt_laws.proofs.runs.Meant.{MeantIfAny, packet_meant, possible_where_meant}
use Rattle.gatt_laws.proofs.isolation.Renaming.{packets_mean_the_same}
use Rattle.gatt_laws.proofs.invariants.Settled.{none_next}
use Rattle.gatt_laws.specs.laws.Possible.{IsMeant}
use Rattle.gatt_laws.specs.laws.Renaming.{renamed, renamed_if}
use Rattle.gatt_laws.specs.machine.Context.{context_of, serving}
use Rattle.gatt_laws.specs.machine.Controller.{is_ready}
use Rattle.gatt_laws.specs.machine.Event.{Ordinal, Event, Connected}
use Rattle.gatt_laws.specs.machine.Event.{Asks, OtherChannel, Happening}
use Rattle.gatt_laws.specs.machine.Event.{Of, Nothing}
use Rattle.gatt_laws.specs.machine.Input.{Run, packet_taken}
use Rattle.gatt_laws.specs.machine.Notice.{noticed}
use Rattle.gatt_laws.specs.machine.Packets.{Fault, Fragments, Heard, answered, arrival, arrival_of, connection_heard}
use Rattle.gatt_laws.specs.machine.Packets.{data_event, event_or_bad, following_of, frame_event}
use Rattle.gatt_laws.specs.machine.Packets.{is_awaited}
use Rattle.gatt_laws.specs.machine.Packets.{Recombination, recombinations_of, of_frame, of_octets}
use Rattle.gatt_laws.specs.machine.Packets.{packet_event, status_of, with_arrival, with_heard}
use Rattle.gatt_laws.specs.machine.State.{State, out, step}
use Rattle.host_connections.proofs.states.Places.{Finds}
use Rattle.host_connections.specs.declared.arrivals.Arrivals.{Arrivals}
use Rattle.host_connections.specs.Slots.{Place, place_serving}
use Rattle.le_acl.specs.Fragment.{Fragment, fragment_of}
use Rattle.le_h4.specs.Packet.{Packet, AclPacket, EventPacket, ScoPacket}
use Rattle.le_hci.specs.declared.event.BadEvent.{BadEvent}
use Rattle.le_hci.specs.declared.init.Init.{Init}
use Rattle.le_hci.specs.declared.peer.Peer.{Peer}
use Rattle.le_hci.specs.Event as event
use Rattle.le_hci.specs.Event.{Reported, event_of}
use Rattle.le_hci.specs.Init.{init_outcome}
use Rattle.le_l2cap.specs.declared.channel.TheConstants.{ATT, LE_SIGNALLING, SECURITY_MANAGER}
use Rattle.le_l2cap.specs.declared.frame.Skip.{Skip}
use Rattle.le_l2cap.specs.Frame.{BasicFrame, frame_of}
use Rattle.octet_io.specs.Number.{Octets}

abbrev pub IsAny : {A : Type 0} → A → Type 0
IsAny x = Unit

ok-is : {A E : Type 0} {x y : A} → ◌≡◌ {A = Result A E} (Ok x) (Ok y) → x ≡ y
ok-is e = cc e

-- what an event leaves of the times: only a connection that comes is heard by it
abbrev pub heard_coming : ℕ → Heard → Event → Heard
heard_coming time heard (Of ordinal (Connected handle peer)) = with_heard time heard (Some ordinal)
heard_coming time heard event = heard

-- An event leads on, with what is put together.
module _ (state : State) (server : ServerState) (sound : IsSound state) (refines : RefinesState state [] server)
    (fragments : Fragments) (heard : Heard) (frames : IncomingFrames)
    (is : IsPutTogether state fragments heard frames) where
  abbrev JoinsAt : Event → Type 0
  JoinsAt event =
      IsPutTogether (step state event) fragments (heard_coming server.time heard event)
      (frames_after server.time (renamed (place_of_connection state) event) frames)

  came-joined : (ordinal : Ordinal) (handle : ℕ) (peer : Peer)
      → IsMeant IsAny state (Of ordinal (Connected handle peer))
      → JoinsAt (Of ordinal (Connected handle peer))
  came-joined ordinal handle peer meant =
      subst (λ (one : Ordinal). JoinsAt (Of one (Connected handle peer))) (sym meant.may.next)
      (subst (λ (place : Place). IsPutTogether (step state (Of state.next (Connected handle peer)))
      fragments (with_heard server.time heard (Some state.next)) (frames_after server.time (Of place (Connected handle peer)) frames))
      (sym (next_place state.next state.slots meant.may.free
      (none_next state.next state.next state.slots (omega arith) sound.settled.slots)))
      (together_coming state server fragments heard frames server.time handle peer sound refines meant.may.free is))

  pub joined : (event : Event) → IsMeant IsAny state event → JoinsAt event
  joined (Of ordinal (Connected handle peer)) meant = came-joined ordinal handle peer meant
  joined event meant = together_then state event fragments heard frames refl is

-- where an event leads a host, and what is told of it
pub record EventLed (state : State) (event : Event) (fragments : Fragments) (heard : Heard)
    (new : ServerState) (after : IncomingFrames) : Type 0 where
  pub sound : IsSound (step state event)
  pub refines : RefinesState (step state event) (out state event) new
  pub together : IsPutTogether (step state event) fragments heard after
  pub told : last_notices new ≡ noticed state event

pub event_led : (state : State) (server new : ServerState) (fragments : Fragments) (heard : Heard) (frames after : IncomingFrames)
    (event : Event) → IsSound state → RefinesState state [] server
    → IsPutTogether state fragments heard frames → IsMeant IsAny state event
    → IsAfter (renamed (place_of_connection state) event) server new
    → after ≡ frames_after server.time (renamed (place_of_connection state) event) frames
    → EventLed state event fragments (heard_coming server.time heard event) new after
event_led state server new fragments heard frames after event sound refines together meant then_held
    then_frames =
    let leads : RefinesStep state event new =
    events_lead_on state server new event sound refines meant then_held in
    record {
      sound = stays_sound state event (possible_where_meant IsAny state event meant) sound;
      refines = leads.refines;
      together =
          subst (λ (after : IncomingFrames). IsPutTogether (step state event) fragments (heard_coming server.time heard event) after)
          (sym then_frames)
          (joined state server sound refines fragments heard frames together event meant);
      told = leads.told;
    }

-- No data of a connection means that one comes: what holds of nothing and of data holds of what a fragment means.
module _ {C : Type 0} (Holds : Happening C → Type 0) (nothing : Holds Nothing) (asks : (connection : C) (pdu : Octets) → Holds (Of connection (Asks pdu)))
    (signals : (connection : C) (channel : ℕ) (payload : Octets) → Holds (Of connection (OtherChannel channel payload))) where
  of-frame : (connection : C) (frame : Result BasicFrame Skip) → Holds (frame_event connection (of_frame frame))
  of-frame connection (Ok frame) =
      elim (frame.cid == ATT) as (λ (is : Bool). Holds
      (frame_event connection (if is then Some (Asks frame.payload)
      else if frame.cid == LE_SIGNALLING || frame.cid == SECURITY_MANAGER then Some (OtherChannel frame.cid frame.payload) else None))) [
        | true ↦ asks connection frame.payload
        | false ↦
            elim (frame.cid == LE_SIGNALLING || frame.cid == SECURITY_MANAGER) as
            (λ (is : Bool). Holds (frame_event connection (if is then Some (OtherChannel frame.cid frame.payload) else None))) [
              | true ↦ signals connection frame.cid frame.payload
              | false ↦ nothing
            ]
      ]
  of-frame connection (Err skip) = nothing

  of-octets : (connection : C) (octets : Option Octets) → Holds (frame_event connection (of_octets octets))
  of-octets connection None = nothing
  of-octets connection (Some octets) = of-frame connection (frame_of octets)

  of-data : (recombinations : C → Recombination) (found : Option C) (fragment : Option Fragment) → Holds (data_event recombinations found fragment)
  of-data recombinations None fragment = nothing
  of-data recombinations (Some connection) None = nothing
  of-data recombinations (Some connection) (Some fragment) = of-octets connection (recombinations connection fragment)

data-frames : (time : ℕ) (recombinations : Place → Recombination) (found : Option Place)
    (fragment : Option Fragment) (frames : IncomingFrames)
    → frames ≡ frames_after time (data_event recombinations found fragment) frames
data-frames time recombinations found fragment frames =
    of-data (λ (happening : Happening Place). frames ≡ frames_after time happening frames) refl (λ place pdu. refl) (λ place channel payload. refl)
    recombinations found fragment

data-heard : (time : ℕ) (heard : Heard) (recombinations : Ordinal → Recombination) (found : Option Ordinal) (fragment : Option Fragment)
    → heard_coming time heard (data_event recombinations found fragment) ≡ heard
data-heard time heard recombinations found fragment =
    of-data (λ (event : Event). heard_coming time heard event ≡ heard) refl (λ ordinal pdu. refl) (λ ordinal channel payload. refl)
    recombinations found fragment

-- What an event leaves of the frames.
answered-frames : (time allowed opcode : ℕ) (status : Option ℕ) (following : Result (Option Init) Fault)
    (happening : Happening Place) (frames : IncomingFrames)
    → answered allowed opcode status following ≡ Ok happening
    → frames ≡ frames_after time happening frames
answered-frames time allowed opcode status (Ok following) happening frames is =
    ap (λ (happening : Happening Place). frames_after time happening frames) (ok-is is)
answered-frames time allowed opcode status (Err fault) happening frames is = cc is

either-way : (time : ℕ) (ready : Bool) (frames : IncomingFrames)
    → frames_after time (if ready then Nothing else Nothing) frames ≡ frames
either-way time true frames = refl
either-way time false frames = refl

event-frames : (server : ServerState) (read : Result Reported BadEvent) (happening : Happening Place)
    (frames : IncomingFrames) → event_or_bad (context_in server) read ≡ Ok happening
    → frames_after_event server read frames ≡ frames_after server.time happening frames
event-frames server (Err bad) happening frames is = cc is
event-frames server (Ok (event.CommandComplete allowed opcode returned)) happening frames is =
    either-way server.time (is_ready server.controller) frames
    ∙ answered-frames server.time allowed opcode (status_of returned)
    (if is_awaited server.controller opcode then following_of
    (init_outcome server.controller.init returned) else Ok None) happening frames is
event-frames server (Ok (event.CommandStatus status allowed opcode)) happening frames is =
    either-way server.time (is_ready server.controller) frames
    ∙ answered-frames server.time allowed opcode (Some status) _ happening frames is
event-frames server (Ok (event.HardwareError code)) happening frames is = cc is
event-frames server (Ok reported) happening frames is =
    ap (λ (happening : Happening Place). frames_after server.time happening frames) (ok-is is)

-- as many frames as before
as-many : (place : Option Place) (fragment : Option Fragment) (assembled : Assemblies)
    → length (assembled_with place fragment assembled) ≡ length assembled
as-many None fragment assembled = refl
as-many (Some place) fragment assembled = length-set assembled place _

-- who is heard keeps its ordinal
numbered-still : (state : State) (time : ℕ) (place : Option Place) (arrivals : Arrivals)
    → AreNumbered state arrivals → AreNumbered state (arrivals_with time place arrivals)
numbered-still state time None arrivals is = is
numbered-still state time (Some place) arrivals is =
    record { there = is.there; accepted = is.accepted; enough = is.enough }

-- who has not come has no fragment
still-fresh : (state : State) (fragments : Fragments) (found : Option Ordinal)
    (place : Option Place) (fragment : Option Fragment)
    (ordinal : Ordinal) → IsSound state → Finds state.slots found place → state.next ≤ ordinal
    → fragments ordinal ≡ []
    → with_arrival fragments (arrival_of found fragment) ordinal ≡ []
still-fresh state fragments None place fragment ordinal sound finds later none = none
still-fresh state fragments (Some own) place None ordinal sound finds later none = none
still-fresh state fragments (Some own) place (Some fragment) ordinal sound finds later none =
    let lacks =
    none_next state.next ordinal state.slots (omega (arith, later)) sound.settled.slots in
    let differs : (ordinal == own) ≡ false =
    apart ordinal own state.slots lacks (has_slot_there own state.slots finds.at finds.has) in
    ap (λ (same : Bool). if same then fragment ∷ fragments ordinal else fragments ordinal) differs
    ∙ none

-- the frames with what a packet brings, before what happens by it
abbrev pub frames_joined : ServerState → Packet → IncomingFrames → IncomingFrames
frames_joined server (AclPacket handle boundary broadcast octets) frames =
    frames_after_acl server handle boundary broadcast octets frames
frames_joined server (EventPacket octets) frames = frames
frames_joined server ScoPacket frames = frames

-- so with the times
abbrev pub heard_joined : State → ℕ → Heard → Packet → Heard
heard_joined state time heard (AclPacket handle boundary broadcast octets) = with_heard time heard (serving state handle)
heard_joined state time heard (EventPacket octets) = heard
heard_joined state time heard ScoPacket = heard

event-heard : (state : State) (time : ℕ) (heard : Heard) (octets : Octets) (event : Event)
    → heard_coming time heard event ≡ with_heard time heard (connection_heard state (EventPacket octets) event)
event-heard state time heard octets (Of ordinal (Connected handle peer)) = refl
event-heard state time heard octets event = refl

packet-heard : (state : State) (fragments : Fragments) (time : ℕ) (heard : Heard) (packet : Packet) (event : Event)
    → packet_event state fragments packet ≡ Ok event
    → heard_coming time (heard_joined state time heard packet) event ≡ with_heard time heard (connection_heard state packet event)
unfolding packet_event
packet-heard state fragments time heard (AclPacket handle boundary broadcast octets) event is =
    let joined : Heard = with_heard time heard (serving state handle) in
    ap (λ (event : Event). heard_coming time joined event) (sym (ok-is is))
    ∙ data-heard time joined (recombinations_of fragments) (serving state handle) (fragment_of boundary broadcast octets)
packet-heard state fragments time heard (EventPacket octets) event is = event-heard state time heard octets event
packet-heard state fragments time heard ScoPacket event is = ap (λ (event : Event). heard_coming time heard event) (sym (ok-is is))
    ∙ ap (λ (event : Event). with_heard time heard (connection_heard state ScoPacket event)) (ok-is is)

packet-frames : (server : ServerState) (frames : IncomingFrames) (packet : Packet) (happening : Happening Place)
    → packet_happening server frames packet ≡ Ok happening
    → frames_after_packet server packet frames
    ≡ frames_after server.time happening (frames_joined server packet frames)
packet-frames server frames (AclPacket handle boundary broadcast octets) happening is =
    let joined : IncomingFrames = frames_after_acl server handle boundary broadcast octets frames in
    data-frames server.time (recombinations_in frames) (place_serving server.slots handle)
    (fragment_of boundary broadcast octets) joined
    ∙ ap (λ (happening : Happening Place). frames_after server.time happening joined) (ok-is is)
packet-frames server frames (EventPacket octets) happening is =
    event-frames server (event_of octets) happening frames is
packet-frames server frames ScoPacket happening is =
    ap (λ (happening : Happening Place). frames_after server.time happening frames) (ok-is is)

module _ (run : Run) (server : ServerState) (frames : IncomingFrames) (is : IsDrainedIn run server frames)
  where
    abbrev state : State
    state = run.intake.state

    abbrev fragments : Fragments
    fragments = run.intake.fragments

    abbrev heard : Heard
    heard = run.intake.heard

    same-packet : (packet : Packet) → packet_happening server frames packet
        ≡ renamed_if (place_of_connection state) (packet_event state fragments packet)
    unfolding packet_event
    same-packet packet =
        packets_mean_the_same Ordinal Place (place_of_connection state) (context_of state) (context_in server)
        (knows_the_same state server is.sound is.refines)
        (recombinations_of fragments) (recombinations_in frames)
        (recombine_alike state server is.sound is.refines fragments frames.assembled is.together.there) packet

    packet-joined : (packet : Packet)
        → IsPutTogether state (with_arrival fragments (arrival state packet)) (heard_joined state server.time heard packet)
        (frames_joined server packet frames)
    packet-joined (AclPacket handle boundary broadcast octets) =
        let found : Finds state.slots (serving state handle) (place_serving server.slots handle) =
        finds state server is.sound is.refines handle in
        let shared : length state.slots ≤ length frames.assembled =
        omega (arith, few_slots state server is.sound is.refines, is.together.enough) in
        record {
          there = frames_follow state server fragments frames.assembled handle boundary broadcast octets is.sound
              is.refines shared is.together.there;
          fresh = λ ordinal later.
              still-fresh state fragments (serving state handle) (place_serving server.slots handle)
              (fragment_of boundary broadcast octets)
              ordinal is.sound found later (is.together.fresh ordinal later);
          enough = subst (λ (count : ℕ). state.shared.slots ≤ count)
              (sym (as-many (place_serving server.slots handle) (fragment_of boundary broadcast octets)
              frames.assembled)) is.together.enough;
          numbered = numbered-still state server.time (place_serving server.slots handle)
              frames.arrivals is.together.numbered;
          timed = times_follow state is.sound server.time heard (serving state handle) (place_serving server.slots handle) frames.arrivals
              (omega (arith, few_slots state server is.sound is.refines, is.together.timed.enough)) found is.together.timed;
        }
    packet-joined (EventPacket octets) = is.together
    packet-joined ScoPacket = is.together

    module _ (new : ServerState) (after : IncomingFrames) (packet : Packet) where
      -- where a packet leads, and what is told of it
      pub record PacketLed (result : Result Event Fault) : Type 0 where
        pub refines : ServerRefinesRun (packet_taken run packet result) run.sent new after
        pub told : last_notices new ≡ noticed_in state result
        pub goes : (packet_taken run packet result).intake.fault ≡ run.intake.fault

      by-result : (result : Result Event Fault) → MeantIfAny IsAny state result
          → IsOkAnd (renamed_if (place_of_connection state) result) (λ happening. IsAfter happening server new)
          → ((event : Event) → result ≡ Ok event
          → after ≡ frames_after server.time (renamed (place_of_connection state) event) (frames_joined server packet frames))
          → ((event : Event) → result ≡ Ok event
          → heard_coming server.time (heard_joined state server.time heard packet) event
          ≡ with_heard server.time heard (connection_heard state packet event))
          → PacketLed result
      by-result (Ok event) meant takes then_frames then_heard =
          let led =
          event_led state server new (with_arrival fragments (arrival state packet)) (heard_joined state server.time heard packet)
          (frames_joined server packet frames) after event is.sound is.refines
          (packet-joined packet) meant takes (then_frames event refl) in
          record {
            refines = record {
              owed = out state event;
              all = refl;
              sound = led.sound;
              refines =
                  led.refines;
              together = subst (λ (heard : Heard). IsPutTogether (step state event) (with_arrival fragments (arrival state packet)) heard after)
                  (then_heard event refl ∙ ap (λ (time : ℕ). with_heard time heard (connection_heard state packet event)) is.refines.time)
                  led.together;
            };
            told = led.told;
            goes = refl;
          }
      by-result (Err why) meant takes then_frames then_heard = absurd takes

      pub packet_led : TakesPacket packet server frames new after
          → PacketLed (packet_event state fragments packet)
      packet_led takes =
          let same = same-packet packet in
          by-result (packet_event state fragments packet) (packet_meant IsAny state fragments packet)
          (subst (λ (result : Result (Happening Place) Fault). IsOkAnd result
          (λ happening. IsAfter happening server new)) same takes.server)
          (λ event means. takes.frames_then
          ∙ packet-frames server frames packet (renamed (place_of_connection state) event) (same
          ∙ ap (λ (result : Result Event Fault). renamed_if (place_of_connection state) result) means))
          (packet-heard state fragments server.time heard packet)

-- or the host stops
stops-where : (names : Ordinal → Place) (result : Result Event Fault) (fault : HostFault)
    → stop_of (renamed_if names result) ≡ Some fault
    → (why : Fault) × (result ≡ Err why) × StopsForFault why fault
stops-where names (Ok event) fault is = cc is
stops-where names (Err why) fault is = (why, refl, record { same = some-is is })

-- only an event of the controller stops it
packet-stop : (server : ServerState) (frames : IncomingFrames) (packet : Packet)
    → packet_stop packet server ≡ stop_of (packet_happening server frames packet)
packet-stop server frames (AclPacket handle boundary broadcast octets) = refl
packet-stop server frames (EventPacket octets) = refl
packet-stop server frames ScoPacket = refl

pub packet_stops : PacketStops
packet_stops run server frames packet fault is stops =
    stops-where (place_of_connection run.intake.state)
    (packet_event run.intake.state run.intake.fragments packet) fault
    (sym (ap stop_of (same-packet run server frames is packet))
    ∙ sym (packet-stop server frames packet) ∙ stops)
