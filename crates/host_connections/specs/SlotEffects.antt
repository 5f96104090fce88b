-- The effects of events, except requests, on the connection of a slot.
use Rattle.std.specs.Prelude.{ℕ, Bool, true, false, not, ◌==◌, ◌&&◌, is_some, if◌then◌else◌, List, [], Option, Some, None}
use Rattle.std.specs.Option.{option_map}
use Rattle.att_numbers.specs.Types.{Mtu}
use Rattle.att_attributes.specs.declared.attr.Attr.{Attr}
use Rattle.att_table.specs.ConfigRow.{kept_row}
use Rattle.gatt_laws.specs.machine.Effect.{authentication_failure, remote_user_terminated, lost_encryption, channel_answer}
use Rattle.host_connections.specs.SlotState.{SlotState, slot_backlog}
use Rattle.gatt_subs.specs.Indications.{no_indications, after_end, after_replacement, after_tick}
use Rattle.le_acl.specs.Outgoing.{none_queued, with_completed, with_pdu, without_pdus}
use Rattle.le_hci.specs.declared.peer.Peer.{Peer}
use Rattle.le_security.specs.declared.entry.Key.{Key}
use Rattle.le_security.specs.Link.{Step, no_key, after_step, with_asked}
use Rattle.octet_io.specs.Number.{Octets}
use Rattle.att_pdu.specs.declared.pdu_buf.TheConstants.{MIN_MTU}
use Rattle.le_acl.specs.declared.pdus.TheConstants.{MAX_PDUS}

abbrev pub new_slot_state : ℕ → Peer → Bool → Mtu → ℕ → ℕ → SlotState
new_slot_state handle peer key_known rx_mtu share size = record {
  live = true;
  handle = handle;
  peer = peer;
  key_known = key_known;
  until = 0;
  row = [];
  link = no_key;
  mtu = MIN_MTU;
  rx_mtu = rx_mtu;
  exchanged = false;
  queue = [];
  pending = no_indications;
  outgoing = none_queued share size;
  reply = None;
  reason = None;
}

-- Ending drops what was prepared, what waits and what is queued.
abbrev pub slot_after_ending : ℕ → SlotState → SlotState
slot_after_ending reason slot_state = record slot_state {
  live = false;
  queue = [];
  pending = after_end slot_state.pending;
  outgoing = without_pdus slot_state.outgoing;
  reply = None;
  reason = Some reason;
}

abbrev pub after_authorizing : ℕ → SlotState → SlotState
after_authorizing until slot_state = record slot_state { until = until }

abbrev pub after_key_asked : Option Key → SlotState → SlotState
after_key_asked found slot_state = record slot_state {
  link = with_asked slot_state.link (option_map (λ (key : Key). key.facts) found);
  reply = Some (option_map (λ (key : Key). key.ltk) found);
}

-- A connection whose link loses its key is ended.
abbrev pub after_link_step : Step → SlotState → SlotState
after_link_step step slot_state =
    let link = after_step slot_state.link step in
    let new : SlotState = record slot_state { link = link } in
    if lost_encryption slot_state.link.key link.key
    then slot_after_ending authentication_failure new else new

-- A connection is ended if there is no space for its answer.
abbrev pub has_no_room : Option Octets → SlotState → Bool
has_no_room None slot_state = false
has_no_room (Some answer) slot_state = slot_backlog slot_state == MAX_PDUS

abbrev pub with_channel_answer : ℕ → Option Octets → SlotState → SlotState
with_channel_answer channel None slot_state = slot_state
with_channel_answer channel (Some answer) slot_state =
    if slot_backlog slot_state == MAX_PDUS then slot_after_ending remote_user_terminated slot_state
    else record slot_state { outgoing = with_pdu slot_state.outgoing (channel, answer) }

abbrev pub slot_after_other_channel : ℕ → Octets → SlotState → SlotState
slot_after_other_channel channel payload slot_state =
    with_channel_answer channel (channel_answer channel payload) slot_state

abbrev pub slot_after_packets_completed : ℕ → SlotState → SlotState
slot_after_packets_completed count slot_state =
    record slot_state { outgoing = with_completed slot_state.outgoing count }

abbrev pub after_time : ℕ → SlotState → SlotState
after_time now slot_state = record slot_state { pending = after_tick slot_state.pending now }

abbrev pub after_table : List Attr → List Attr → SlotState → SlotState
after_table old new slot_state =
    let kept' : SlotState = record slot_state { row = kept_row old new slot_state.row } in
    if slot_state.live
    then record kept' { queue = []; pending = after_replacement slot_state.pending } else kept'

abbrev pub after_loss : Bool → SlotState → SlotState
after_loss had_key slot_state =
    if had_key && not (is_some slot_state.link.key)
    then slot_after_ending authentication_failure slot_state else slot_state
