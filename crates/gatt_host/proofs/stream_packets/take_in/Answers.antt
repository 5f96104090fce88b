use Rattle.std.proofs.Common.{◌≡◌, ◌∙◌, ℕ, ap, Result, Err, List, [], ◌∷◌, ◌++◌, Option, None, Some, drop, refl, sym, subst, take, take-append-drop}
use Rattle.std.proofs.lemmas.Result.{err_from_is_err_and}
use Rattle.std.specs.Prelude.{not}
use Rattle.std.specs.Result.{result_err}
use Rattle.std.proofs.lemmas.Bool.{not-true}
use Rattle.gatt_host.proofs.stream_packets.take_in.Goals.{After-packet, then-is_none+in-Ok+else-not-fed, else-is_none}
use Rattle.gatt_host.proofs.model.Octets.{octets_bring_whole, octets_pass, octets_stop_whole}
use Rattle.gatt_host.proofs.model.Silence.{stands_at_in_silence}
use Rattle.gatt_host.proofs.model.StreamTold.{ends_none, frames_ended, is_none_marked, octets_told, packet_told, stopped_told, takes_up_to}
use Rattle.gatt_host.proofs.model.Taking.{lost_leads, lost_silent, none_marked, packet_lent, packet_marked, EndsPacket}
use Rattle.gatt_host.specs.declared.host_fault.HostFault.{HostFault}
use Rattle.gatt_host.specs.Feeding.{items_taken, octet_items}
use Rattle.gatt_host.specs.ServerState.{ServerState}
use Rattle.gatt_host.specs.Notices.{last_notices}
use Rattle.gatt_host.specs.Telling.{TellsOfAll}
use Rattle.gatt_host.specs.HostModel.{Refines, RefinesRun, HostModel}
use Rattle.gatt_laws.specs.machine.Input.{Item, run}
use Rattle.le_h4.specs.Packet.{Packet, packet_of_ref}
use Rattle.octet_io.specs.Number.{Octets}
use Rattle.gatt_host.proofs.stream_packets.take_in.Goals as goal

-- what is known once a packet is whole
abbrev old-at : After-packet → HostModel
old-at c = record { server = c.args.server.now; frames = c.args.frames.now; stream = c.args.stream.now; fault = None }

abbrev new-at : After-packet → Option HostFault → HostModel
new-at c fault = record { server = c.packet.new.server; frames = c.packet.new.frames; stream = c.if-is_none.stream; fault = fault }

abbrev packet-at : After-packet → Packet
packet-at c = packet_of_ref c.lent_or_marked-whole.result.packet

abbrev used-at : After-packet → ℕ
used-at c = c.lent_or_marked-whole.result.used

ends-at : (c : After-packet) → EndsPacket c.args.stream.now c.args.octets.now c.if-is_none.stream (used-at c) (packet-at c)
ends-at c = elim c.if-is_none.branch [
  | then-is_none+in-Ok+else-not-fed w ↦
      packet_marked c.whole_packet-lent.result c.args.stream.now c.if-is_none.stream c.args.octets.now c.lent_or_marked-whole.result
      w.feed.new.self w.in-Ok.fed.used c.if-is_none.used
      (c.is_none.ensures ∙ ap not w.if-is_none.true) w.stream-is w.in-Ok.ensures.divided w.in-Ok.ensures.unfinished
      c.lent_or_marked-whole.ensures.marked c.lent_or_marked-whole.ensures.marked_used w.used-is
  | else-is_none w ↦
      packet_lent c.whole_packet-lent.result c.args.stream.now c.if-is_none.stream c.args.octets.now c.lent_or_marked-whole.result
      (c.is_none.ensures ∙ ap not w.if-is_none.false) w.stream-is c.whole_packet-lent.ensures.divided c.whole_packet-lent.ensures.unfinished
      c.lent_or_marked-whole.ensures.lent c.lent_or_marked-whole.ensures.lent_used
]

pub returns-in-Err-clause-refines : goal.returns-in-Err-clause-refines
returns-in-Err-clause-refines c =
    let old : HostModel = record { server = c.args.server.now; frames = c.args.frames.now; stream = c.args.stream.now; fault = None } in
    subst (λ (fault : HostFault). Refines (octet_items c.args.octets.now) [] old (record old { stream = c.feed.new.self; fault = Some fault }))
    (sym c.lost_fault.ensures)
    (lost_leads old c.args.octets.now c.feed.new.self c.in-Err.fault refl c.in-Err.ensures.desync c.in-Err.ensures.desynced)

pub returns-in-Err-clause-told : goal.returns-in-Err-clause-told
returns-in-Err-clause-told c =
    let old : HostModel = record { server = c.args.server.now; frames = c.args.frames.now; stream = c.args.stream.now; fault = None } in
    lost_silent old (record old { stream = c.feed.new.self; fault = Some c.lost_fault.result }) c.args.octets.now c.in-Err.fault c.lost_fault.result refl
    c.in-Err.ensures.desync

pub returns-then-not-fed-clause-refines : goal.returns-then-not-fed-clause-refines
returns-then-not-fed-clause-refines c = λ start input sent is.
    let old : HostModel = record { server = c.args.server.now; frames = c.args.frames.now; stream = c.args.stream.now; fault = None } in
    let octets : Octets = take c.in-Ok.fed.used c.args.octets.now in
    let items : List Item = octet_items octets in
    let none : c.feed.new.self.marked ≡ None =
    none_marked c.in-Ok.fed.packet c.feed.new.self.marked (not-true c.in-Ok.fed.packet c.if-not-fed.true) c.in-Ok.ensures.marked in
    subst (λ (server : ServerState). RefinesRun (run start (input ++ items)) (sent ++ []) (record old { server = server; stream = c.feed.new.self }))
    (sym c.forget.ensures)
    (stands_at_in_silence (run start (input ++ items)) (sent ++ []) (record old { stream = c.feed.new.self })
    (octets_pass old c.feed.new.self octets refl c.in-Ok.ensures.divided none c.in-Ok.ensures.unfinished start input sent is))

pub returns-then-not-fed-clause-told : goal.returns-then-not-fed-clause-told
returns-then-not-fed-clause-told c =
    let old : HostModel = record { server = c.args.server.now; frames = c.args.frames.now; stream = c.args.stream.now; fault = None } in
    let new : HostModel = record old { server = c.forget.new.self; stream = c.feed.new.self } in
    let none : c.feed.new.self.marked ≡ None =
    none_marked c.in-Ok.fed.packet c.feed.new.self.marked (not-true c.in-Ok.fed.packet c.if-not-fed.true) c.in-Ok.ensures.marked in
    octets_told [] old new (take c.in-Ok.fed.used c.args.octets.now)
    (ends_none c.args.stream.now c.feed.new.self (take c.in-Ok.fed.used c.args.octets.now) none c.in-Ok.ensures.divided c.in-Ok.ensures.unfinished) refl
    (λ run sent no_why is slot_state. ap (λ (server : ServerState). last_notices server) c.forget.ensures)

pub returns-then-not-fed-clause-up_to : goal.returns-then-not-fed-clause-up_to
returns-then-not-fed-clause-up_to c =
    let old : HostModel = record { server = c.args.server.now; frames = c.args.frames.now; stream = c.args.stream.now; fault = None } in
    let new : HostModel = record old { stream = c.feed.new.self } in
    let none : c.feed.new.self.marked ≡ None =
    none_marked c.in-Ok.fed.packet c.feed.new.self.marked (not-true c.in-Ok.fed.packet c.if-not-fed.true) c.in-Ok.ensures.marked in
    takes_up_to [] old new c.args.octets.now c.in-Ok.fed.used
    (ends_none c.args.stream.now c.feed.new.self (take c.in-Ok.fed.used c.args.octets.now) none c.in-Ok.ensures.divided c.in-Ok.ensures.unfinished)
    (c.in-Ok.ensures.used_all (is_none_marked c.feed.new.self.marked none))

pub returns-then-not-fed-clause-frames : goal.returns-then-not-fed-clause-frames
returns-then-not-fed-clause-frames c =
    let none : c.feed.new.self.marked ≡ None =
    none_marked c.in-Ok.fed.packet c.feed.new.self.marked (not-true c.in-Ok.fed.packet c.if-not-fed.true) c.in-Ok.ensures.marked in
    let octets : Octets = take c.in-Ok.fed.used c.args.octets.now in
    frames_ended c.args.server.now c.args.frames.now [] c.args.stream.now c.feed.new.self octets
    (ends_none c.args.stream.now c.feed.new.self octets none c.in-Ok.ensures.divided c.in-Ok.ensures.unfinished)

pub returns-clause-refines : goal.returns-clause-refines
returns-clause-refines c =
    let at = (goal.at.returns-clause-refines c).After-packet in
    let ends = ends-at at in
    octets_bring_whole (old-at at) (new-at at None) (take (used-at at) c.args.octets.now) (packet-at at) refl ends.divided ends.last
    c.in_ok-packet.ensures.refines

pub returns-clause-told : goal.returns-clause-told
returns-clause-told c =
    let at = (goal.at.returns-clause-told c).After-packet in
    let ends = ends-at at in
    octets_told (packet-at at ∷ []) (old-at at) (new-at at None) (take (used-at at) c.args.octets.now)
    (record { divided = ends.divided; last = ends.last }) refl
    (packet_told (packet-at at) c.args.server.now c.args.frames.now c.packet.new.server (c.in_ok-packet.ensures.told refl))

pub returns-clause-up_to : goal.returns-clause-up_to
returns-clause-up_to c =
    let at = (goal.at.returns-clause-up_to c).After-packet in
    let ends = ends-at at in
    takes_up_to (packet-at at ∷ []) (old-at at) (new-at at None) c.args.octets.now (used-at at)
    (record { divided = ends.divided; last = ends.last }) refl

pub returns-clause-frames : goal.returns-clause-frames
returns-clause-frames c =
    let at = (goal.at.returns-clause-frames c).After-packet in
    let ends = ends-at at in
    c.in_ok-packet.ensures.frames
    ∙ frames_ended c.args.server.now c.args.frames.now (packet-at at ∷ []) c.args.stream.now c.if-is_none.stream (take (used-at at) c.args.octets.now)
    (record { divided = ends.divided; last = ends.last })

pub returns-in_err-packet-clause-refines : goal.returns-in_err-packet-clause-refines
returns-in_err-packet-clause-refines c =
    let at = (goal.at.returns-in_err-packet-clause-refines c).After-packet in
    let octets : Octets = c.args.octets.now in
    let fault = c.in_err-packet.field-0.0 in
    let new = new-at at (Some fault) in
    let stopped = err_from_is_err_and c.from_residual.result c.from_residual.ensures.1 in
    subst (λ (result : Result ℕ HostFault). Refines (items_taken octets result) [] (old-at at) (record new { fault = result_err result }))
    (sym (stopped.1 ∙ ap (λ (why : HostFault). Err why) stopped.2))
    (subst (λ (all : Octets). Refines (octet_items all) [] (old-at at) new) (take-append-drop (used-at at) octets)
    (octets_stop_whole (old-at at) new (take (used-at at) octets) (drop (used-at at) octets) (packet-at at) fault refl (ends-at at).divided
    c.in_err-packet.ensures.refines refl c.in_err-packet.ensures.not_own))

pub returns-in_err-packet-clause-told : goal.returns-in_err-packet-clause-told
returns-in_err-packet-clause-told c =
    let at = (goal.at.returns-in_err-packet-clause-told c).After-packet in
    let octets : Octets = c.args.octets.now in
    let fault = c.in_err-packet.field-0.0 in
    let new = new-at at (Some fault) in
    let stopped = err_from_is_err_and c.from_residual.result c.from_residual.ensures.1 in
    subst (λ (result : Result ℕ HostFault). TellsOfAll (items_taken octets result) (old-at at) (record new { fault = result_err result }))
    (sym (stopped.1 ∙ ap (λ (why : HostFault). Err why) stopped.2))
    (subst (λ (all : Octets). TellsOfAll (octet_items all) (old-at at) new) (take-append-drop (used-at at) octets)
    (stopped_told (old-at at) new (take (used-at at) octets) (drop (used-at at) octets) (packet-at at) fault (ends-at at).divided
    c.in_err-packet.ensures.refines refl c.in_err-packet.ensures.not_own))
