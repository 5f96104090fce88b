-- The state in the fields of a slot: none if it is free (of the code alone).
use Rattle.std.specs.Prelude.{ℕ, Bool, true, false, Option, Some, None}
use Rattle.att_numbers.specs.Types.{Row}
use Rattle.gatt_conn.specs.Connection.{Bearer}
use Rattle.gatt_laws.specs.machine.ConnectionState.{KeyReply}
use Rattle.host_connections.specs.declared.slot.Use.{Use}
use Rattle.host_connections.specs.declared.slot.Use.TheVariants.{Free, Live, Ending}
use Rattle.host_connections.specs.SlotState.{SlotState}
use Rattle.gatt_subs.specs.Indications.{Indications}
use Rattle.le_acl.specs.Sending.{Sending}
use Rattle.le_hci.specs.declared.peer.Peer.{Peer}
use Rattle.le_security.specs.Link.{Linking}

abbrev pub slot_state_from : Bool → ℕ → Peer → Bool → ℕ → Row → Linking → Bearer → Indications
    → Sending → Option KeyReply → Option ℕ → SlotState
slot_state_from live handle peer key_known until row link conn pending sender reply reason =
    record {
      live = live;
      handle = handle;
      peer = peer;
      key_known = key_known;
      until = until;
      row = row;
      link = link;
      mtu = conn.mtu;
      rx_mtu = conn.rx_mtu;
      exchanged = conn.exchanged;
      queue = conn.queue;
      pending = pending;
      outgoing = sender.outgoing;
      reply = reply;
      reason = reason;
    }

abbrev pub slot_state_where : Use → ℕ → Peer → Bool → ℕ → Row → Linking → Bearer → Indications
    → Sending → Option KeyReply → Option ℕ → Option SlotState
slot_state_where Free handle peer key_known until row link conn pending sender reply reason = None
slot_state_where Live handle peer key_known until row link conn pending sender reply reason =
    Some (slot_state_from true handle peer key_known until row link conn pending sender reply
    reason)
slot_state_where Ending handle peer key_known until row link conn pending sender reply reason =
    Some (slot_state_from false handle peer key_known until row link conn pending sender reply
    reason)
