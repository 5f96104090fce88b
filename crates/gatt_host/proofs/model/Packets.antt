-- A packet leads a host on in its run, or stops it there.
use Rattle.std.proofs.Common.{◌≡◌, Bool, true, false, List, Option, Some, None, Result, Ok, Err, refl, sym, ap, subst, ◌∙◌}
use Rattle.std.specs.Prelude.{if◌then◌else◌, IsOk, IfErr, OnErr}
use Rattle.std.specs.Result.{result_err}
use Rattle.gatt_host.proofs.meaning.Drained.{all_sent, drained_in}
use Rattle.gatt_host.proofs.meaning.Refining.{packet_led, packet_stops}
use Rattle.gatt_host.proofs.model.Items.{takes_item}
use Rattle.gatt_host.proofs.model.Silence.{stands_at_in_silence}
use Rattle.gatt_host.proofs.refinement.Holding.{some-is}
use Rattle.gatt_host.specs.Answers.{stop_of, told_fault}
use Rattle.gatt_host.specs.declared.host_fault.HostFault.{HostFault}
use Rattle.gatt_host.specs.GoingOut.{is_drained}
use Rattle.gatt_host.specs.ServerState.{ServerState, open_slots, without_notices}
use Rattle.gatt_host.specs.Meaning.{IncomingFrames, context_in}
use Rattle.gatt_host.specs.Packet.{TakesPacket, packet_stop}
use Rattle.gatt_host.specs.RunRefinement.{ServerRefinesRun}
use Rattle.gatt_host.specs.Telling.{TellsOfPacket}
use Rattle.gatt_host.specs.HostModel.{is_own_fault, HoldsStream, RefinesPacket, SameFault, RefinesRun, RefinesRunWithFault, Takes, HostModel}
use Rattle.gatt_laws.specs.machine.Event.{Event}
use Rattle.gatt_laws.specs.machine.Input.{APacket, Run, after_packet, packet_taken}
use Rattle.gatt_laws.specs.machine.Packets.{Fault, Desync, BadEventCode, InitFailed, Hardware, event_or_bad, packet_event}
use Rattle.le_h4.specs.Deframer.{Deframing}
use Rattle.le_h4.specs.Division.{is_long}
use Rattle.le_h4.specs.Packet.{Packet, AclPacket, EventPacket, ScoPacket}
use Rattle.le_hci.specs.Event.{event_of}
use Rattle.octet_io.specs.Number.{Octets}

-- where all is out, what stands in the run of what is gone stands in that of all that is
stands-all : (run after : Run) (sent : List Octets) (server new : ServerState) (frames then_frames : IncomingFrames) → ServerRefinesRun run sent server frames
    → is_drained server.controller (open_slots server) ≡ true → ServerRefinesRun after run.sent new then_frames → ServerRefinesRun after sent new then_frames
stands-all run after sent server new frames then_frames is drained refines =
    subst (λ (packets : List Octets). ServerRefinesRun after packets new then_frames) (all_sent run sent server frames is drained) refines

same-none : (why : Option Fault) → why ≡ None → SameFault why None
same-none None none = tt
same-none (Some why) none = cc none

pub packet_leads : (packet : Packet) (old new : ServerState) (frames after : IncomingFrames) → is_drained old.controller (open_slots old) ≡ true
    → TakesPacket packet old frames new after → RefinesPacket packet old frames new after None
packet_leads packet old new frames after drained takes run sent none is =
    let led = packet_led run old frames (drained_in run sent old frames is drained) new after packet takes in
    record {
      refines = stands-all run (after_packet run packet) sent old new frames after is drained led.refines;
      same = same-none (after_packet run packet).intake.fault (led.goes ∙ none);
    }

-- and what is told of it is what the run has
pub packet_told : (packet : Packet) (old new : ServerState) (frames after : IncomingFrames) → is_drained old.controller (open_slots old) ≡ true
    → TakesPacket packet old frames new after → TellsOfPacket packet old frames new
packet_told packet old new frames after drained takes run sent is =
    (packet_led run old frames (drained_in run sent old frames is drained) new after packet takes).told

-- or the host stops, and keeps what it has
why-stopped : (run : Run) (sent : List Octets) (server : ServerState) (frames : IncomingFrames) (packet : Packet) (why : Fault) (fault : HostFault)
    → packet_event run.intake.state run.intake.fragments packet ≡ Err why → told_fault why ≡ fault → ServerRefinesRun run sent server frames
    → RefinesRunWithFault (after_packet run packet) sent server frames (Some fault)
why-stopped run sent server frames packet why fault means same is =
    subst (λ (result : Result Event Fault). RefinesRunWithFault (packet_taken run packet result) sent server frames (Some fault)) (sym means)
    (record {
      refines = record { owed = is.owed; all = is.all; sound = is.sound; refines = is.refines; together = is.together };
      same = same;
    })

pub packet_stopped : (packet : Packet) (old new : ServerState) (frames after : IncomingFrames) (fault : HostFault) → is_drained old.controller (open_slots old) ≡ true
    → packet_stop packet old ≡ Some fault → new ≡ old → after ≡ frames → RefinesPacket packet old frames new after (Some fault)
packet_stopped packet old new frames after fault drained stops same same_frames run sent none is =
    let why = packet_stops run old frames packet fault (drained_in run sent old frames is drained) stops in
    subst (λ (server : ServerState). RefinesRunWithFault (after_packet run packet) sent server after (Some fault)) (sym same)
    (subst (λ (then_frames : IncomingFrames). RefinesRunWithFault (after_packet run packet) sent old then_frames (Some fault)) (sym same_frames)
    (why-stopped run sent old frames packet why.0 fault why.1 why.2.same is))

-- a packet that is handed in whole
stream-kept : (run : Run) (packet : Packet) (stream : Deframing) (result : Result Event Fault) → HoldsStream run stream → run.intake.fault ≡ None
    → HoldsStream (packet_taken run packet result) stream
stream-kept run packet stream (Ok event) holds none still_none = holds none
stream-kept run packet stream (Err fault) holds none still_none = cc still_none

pub takes_packet : (packet : Packet) (old new : HostModel) → is_long packet ≡ false → old.fault ≡ None → new.stream ≡ old.stream
    → RefinesPacket packet old.server old.frames new.server new.frames new.fault → Takes (APacket packet) old new
takes_packet packet old new short none stream leads =
    takes_item (APacket packet) old new none (λ run sent no_why is.
    let refines = leads run sent no_why is.refines in
    subst (λ (long : Bool). RefinesRun (if long then run else after_packet run packet) sent new) (sym short) (record {
      refines = refines.refines;
      same = refines.same;
      stream = subst (λ (slot_state : Deframing). HoldsStream (after_packet run packet) slot_state) (sym stream)
          (stream-kept run packet old.stream (packet_event run.intake.state run.intake.fragments packet) is.stream no_why);
    }))

-- one that is too long leaves all as it is, and nothing is told of it
pub passes_long : (packet : Packet) (old new : HostModel) → is_long packet ≡ true → old.fault ≡ None
    → new ≡ record old { server = without_notices old.server } → Takes (APacket packet) old new
passes_long packet old new long none same =
    takes_item (APacket packet) old new none (λ run sent no_why is.
    subst (λ (long : Bool). RefinesRun (if long then run else after_packet run packet) sent new) (sym long)
    (subst (λ (host : HostModel). RefinesRun run sent host) (sym same) (stands_at_in_silence run sent old is)))

-- by the result
pub packet_leads_or_stops : (packet : Packet) (old new : ServerState) (frames after : IncomingFrames) (result : Result Unit HostFault)
    → is_drained old.controller (open_slots old) ≡ true
    → (IsOk result → TakesPacket packet old frames new after) → IfErr result (λ fault. packet_stop packet old ≡ Some fault)
    → OnErr result (new ≡ old) → OnErr result (after ≡ frames) → RefinesPacket packet old frames new after (result_err result)
packet_leads_or_stops packet old new frames after (Ok done) drained takes stops same same_frames = packet_leads packet old new frames after drained (takes refl)
packet_leads_or_stops packet old new frames after (Err fault) drained takes stops same same_frames =
    packet_stopped packet old new frames after fault drained stops same same_frames

-- the host stops for no reason of its own
told-not-own : (why : Fault) → is_own_fault (told_fault why) ≡ false
told-not-own (Desync indicator) = refl
told-not-own (BadEventCode code) = refl
told-not-own (InitFailed fault) = refl
told-not-own (Hardware code) = refl

stop-not-own : (result : Result Event Fault) (fault : HostFault) → stop_of result ≡ Some fault → is_own_fault fault ≡ false
stop-not-own (Ok event) fault is = cc is
stop-not-own (Err why) fault is = sym (ap is_own_fault (some-is is)) ∙ told-not-own why

pub not_own : (packet : Packet) (server : ServerState) (fault : HostFault) → packet_stop packet server ≡ Some fault → is_own_fault fault ≡ false
not_own (AclPacket handle boundary broadcast octets) server fault is = cc is
not_own ScoPacket server fault is = cc is
not_own (EventPacket octets) server fault is = stop-not-own (event_or_bad (context_in server) (event_of octets)) fault is

pub result_not_own : (packet : Packet) (server : ServerState) (result : Result Unit HostFault) → IfErr result (λ fault. packet_stop packet server ≡ Some fault)
    → IfErr result (λ fault. is_own_fault fault ≡ false)
result_not_own packet server (Ok done) stops = tt
result_not_own packet server (Err fault) stops = not_own packet server fault stops
