-- How far octets are taken, and what is told of them, wherever a host stands.
use Rattle.std.proofs.Common.{◌≡◌, ℕ, false, cond, List, [], ◌∷◌, ◌++◌, map, take, Option, Some, None, Result, Ok, Err, refl, sym, ap, subst, ◌∙◌, append-nil}
use Rattle.std.specs.Prelude.{IsNone, if◌then◌else◌, is_some}
use Rattle.std.specs.Option.{option_map_or, option_to_list}
use Rattle.gatt_host.proofs.model.Items.{no_fault}
use Rattle.gatt_host.proofs.model.Octets.{Stopped, stopped_for}
use Rattle.gatt_host.proofs.model.Told.{result_told}
use Rattle.gatt_host.specs.declared.host_fault.HostFault.{HostFault}
use Rattle.gatt_host.specs.Feeding.{IsUpToAPacket, TakesUpToAPacket, octet_items}
use Rattle.gatt_host.specs.ServerState.{ServerState}
use Rattle.gatt_host.specs.Meaning.{IncomingFrames}
use Rattle.gatt_host.specs.Notices.{last_notices}
use Rattle.gatt_host.specs.Packet.{frames_after_first, frames_after_octets}
use Rattle.gatt_host.specs.RunRefinement.{ServerRefinesRun}
use Rattle.gatt_host.specs.Telling.{TellsOfAll, TellsOfPacket, notices_told}
use Rattle.gatt_host.specs.HostModel.{RefinesPacket, SameFault, RefinesRun, RefinesRunWithFault, HostModel, is_own_fault}
use Rattle.gatt_laws.proofs.notices.StreamNotices.{AreKept, all_kept, stopped_silent, tells_of_the_division}
use Rattle.gatt_laws.proofs.runs.Unfinished.{leaves_less_than_a_packet}
use Rattle.gatt_laws.specs.machine.Event.{Event}
use Rattle.gatt_laws.specs.machine.Input.{APacket, Run, Item, after_item, after_packet, run, packet_taken, stopped, unless_stopped}
use Rattle.gatt_laws.specs.machine.ItemEvents.{event_if}
use Rattle.gatt_laws.specs.machine.Notice.{noticed, notices_in, notices_of}
use Rattle.gatt_laws.specs.machine.Packets.{Fault, packet_event}
use Rattle.le_h4.specs.Deframer.{Deframing, marks, still}
use Rattle.le_h4.specs.Division.{Division, before, division, is_long, lost, unfinished}
use Rattle.le_h4.specs.Packet.{Packet}
use Rattle.octet_io.specs.Number.{Octets}

-- whatever follows, these packets come first, and nothing whole is held back
pub record EndsIn (packets : List Packet) (old new : Deframing) (octets : Octets) : Type 0 where
  pub divided : (rest : Octets) → still old (octets ++ rest) ≡ before packets (still new rest)
  pub last : still new [] ≡ unfinished

-- where no packet is marked, none
pub ends_none : (old new : Deframing) (octets : Octets) → new.marked ≡ None
    → ((rest : Octets) → still old (octets ++ rest) ≡ before (marks new) (still new rest)) → still new [] ≡ unfinished → EndsIn [] old new octets
ends_none old new octets none divided last = record {
  divided = λ rest. divided rest ∙ ap (λ (marked : Option Packet). before (option_to_list marked) (still new rest)) none;
  last = last;
}

-- so what is held of what comes is that of these packets
pub frames_ended : (server : ServerState) (frames : IncomingFrames) (packets : List Packet) (old new : Deframing) (octets : Octets) → EndsIn packets old new octets
    → frames_after_first server packets frames ≡ frames_after_octets server old octets frames
frames_ended server frames packets old new octets ends =
    ap (λ (packets : List Packet). frames_after_first server packets frames)
    (sym (ap (λ (d : Division). d.packets) (ap (still old) (sym (append-nil octets)) ∙ ends.divided [] ∙ ap (before packets) ends.last) ∙ append-nil packets))

-- what is told of the packets is told of the octets that they divide into
stream-told : (old new : HostModel) (octets : Octets)
    → ((run : Run) (sent : List Octets) → run.intake.fault ≡ None → RefinesRun run sent old
    → let packets = (division (run.intake.unfinished ++ octets)).packets in AreKept packets → notices_told new ≡ notices_in run (map APacket packets))
    → TellsOfAll (octet_items octets) old new
stream-told old new octets told start input sent is none =
    let at_run : Run = run start input in
    let no_why = no_fault at_run sent old none is in
    told at_run sent no_why is (all_kept (at_run.intake.unfinished ++ octets))
    ∙ sym (tells_of_the_division at_run octets no_why (leaves_less_than_a_packet start input))

module _ (packets : List Packet) (old new : HostModel) (octets : Octets) (ends : EndsIn packets old.stream new.stream octets) where
  divided-into : (run : Run) (sent : List Octets) → run.intake.fault ≡ None → RefinesRun run sent old
      → (division (run.intake.unfinished ++ octets)).packets ≡ packets
  divided-into run sent no_why is =
      ap (λ (d : Division). d.packets)
      (sym (is.stream no_why octets) ∙ ap (still old.stream) (sym (append-nil octets)) ∙ ends.divided [] ∙ ap (before packets) ends.last)
      ∙ append-nil packets

  -- a host that goes on tells of them
  pub octets_told : new.fault ≡ None
      → ((run : Run) (sent : List Octets) → run.intake.fault ≡ None → ServerRefinesRun run sent old.server old.frames → AreKept packets
      → last_notices new.server ≡ notices_in run (map APacket packets))
      → TellsOfAll (octet_items octets) old new
  octets_told going told =
      stream-told old new octets (λ run sent no_why is slot_state.
      let divides = divided-into run sent no_why is in
      ap (λ (fault : Option HostFault). if is_some fault then [] else last_notices new.server) going
      ∙ told run sent no_why is.refines (subst (λ (packets : List Packet). AreKept packets) divides slot_state)
      ∙ ap (λ (packets : List Packet). notices_in run (map APacket packets)) (sym divides))

-- octets that begin no packet tell nothing
pub lost_told : (old new : HostModel) (octets : Octets) (indicator : ℕ) (fault : HostFault) → new.fault ≡ Some fault → still old.stream octets ≡ lost indicator
    → TellsOfAll (octet_items octets) old new
lost_told old new octets indicator fault stopped divides =
    stream-told old new octets (λ run sent no_why is slot_state.
    ap (λ (fault : Option HostFault). if is_some fault then [] else last_notices new.server) stopped
    ∙ ap (λ (d : Division). notices_in run (map APacket d.packets)) (sym divides ∙ is.stream no_why octets))

-- nor does a packet that stops the host, and what follows it
stop-told : (run : Run) (packet : Packet) (packets : List Packet) (why : Fault) → run.intake.fault ≡ None → is_long packet ≡ false
    → (result : Result Event Fault) → packet_event run.intake.state run.intake.fragments packet ≡ result
    → (packet_taken run packet result).intake.fault ≡ Some why → notices_in run (map APacket (packet ∷ packets)) ≡ []
unfolding after_item
stop-told run packet packets why none short (Ok event) same is = cc (none, is)
stop-told run packet packets why none short (Err fault) same is =
    (λ i. option_map_or (noticed run.intake.state) (if is_some (none i) then None else if (short i) then None else event_if (same i)) []
    ++ notices_in (unless_stopped (none i) run (cond (short i) run (packet_taken run packet (same i)))) (map APacket packets))
    ∙ stopped_silent noticed (stopped run fault) fault (map APacket packets) refl

pub stopped_told : (old new : HostModel) (octets rest : Octets) (packet : Packet) (fault : HostFault)
    → ((rest : Octets) → still old.stream (octets ++ rest) ≡ before (packet ∷ []) (still new.stream rest))
    → RefinesPacket packet old.server old.frames new.server new.frames new.fault → new.fault ≡ Some fault → is_own_fault fault ≡ false
    → TellsOfAll (octet_items (octets ++ rest)) old new
stopped_told old new octets rest packet fault divides leads stops other =
    stream-told old new (octets ++ rest) (λ run sent no_why is slot_state.
    let behind : List Packet = (still new.stream rest).packets in
    let divided : (division (run.intake.unfinished ++ (octets ++ rest))).packets ≡ packet ∷ behind =
    ap (λ (d : Division). d.packets) (sym (is.stream no_why (octets ++ rest)) ∙ divides rest) in
    let then_stands : RefinesRunWithFault (after_packet run packet) sent new.server new.frames new.fault = leads run sent no_why is.refines in
    let found : Stopped (after_packet run packet).intake.fault =
    stopped_for (after_packet run packet).intake.fault fault other
    (subst (λ (refines : Option HostFault). SameFault (after_packet run packet).intake.fault refines) stops then_stands.same) in
    ap (λ (fault : Option HostFault). if is_some fault then [] else last_notices new.server) stops
    ∙ sym (stop-told run packet behind found.why no_why (subst (λ (packets : List Packet). AreKept packets) divided slot_state).0
    (packet_event run.intake.state run.intake.fragments packet) refl found.is)
    ∙ ap (λ (packets : List Packet). notices_in run (map APacket packets)) (sym divided))

-- so many octets end one packet, or are all that there are
pub takes_up_to : (packets : List Packet) (old new : HostModel) (all : Octets) (used : ℕ) → EndsIn packets old.stream new.stream (take used all)
    → IsUpToAPacket all used packets → TakesUpToAPacket all used old
takes_up_to packets old new all used ends up_to start input sent is none =
    subst (λ (packets : List Packet). IsUpToAPacket all used packets)
    (sym (divided-into packets old new (take used all) ends (run start input) sent (no_fault (run start input) sent old none is) is)) up_to

-- a packet that is not too long
pub packet_told : (packet : Packet) (old : ServerState) (frames : IncomingFrames) (new : ServerState) → TellsOfPacket packet old frames new
    → (run : Run) (sent : List Octets) → run.intake.fault ≡ None → ServerRefinesRun run sent old frames → AreKept (packet ∷ [])
    → last_notices new ≡ notices_in run (map APacket (packet ∷ []))
packet_told packet old frames new tells run sent none is slot_state =
    let state = run.intake.state in
    let result = packet_event state run.intake.fragments packet in
    tells run sent is ∙ result_told state result
    ∙ (λ i. option_map_or (noticed state) (if is_some (sym none i) then None else if (sym slot_state.0 i) then None else event_if result) [])
    ∙ sym (append-nil (notices_of run (APacket packet)))

pub is_none_marked : {A : Type 0} (marked : Option A) → marked ≡ None → IsNone marked
is_none_marked {A = A} marked none = subst (λ (marked : Option A). IsNone marked) (sym none) refl

-- by the parts of a host on which no fault stands, and the fault that stands then
pub tells_from : (old new : HostModel) (items : List Item) (fault : Option HostFault) → old.fault ≡ None → new.fault ≡ fault
    → TellsOfAll items (record old { fault = None }) (record new { fault = fault }) → TellsOfAll items old new
tells_from old new items fault none same tells =
    subst (λ (host : HostModel). TellsOfAll items host new) (λ i. record old { fault = sym none i })
    (subst (λ (host : HostModel). TellsOfAll items (record old { fault = None }) host) (λ i. record new { fault = sym same i }) tells)

pub up_to_from : (old : HostModel) (all : Octets) (used : ℕ) → old.fault ≡ None → TakesUpToAPacket all used (record old { fault = None })
    → TakesUpToAPacket all used old
up_to_from old all used none up_to =
    subst (λ (host : HostModel). TakesUpToAPacket all used host) (λ i. record old { fault = sym none i }) up_to
