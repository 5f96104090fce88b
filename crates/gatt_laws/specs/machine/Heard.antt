-- The values that a connection is sent unasked at an event (this profile's own, by Core 5.0, Vol 3
-- Part F, 3.4.7).
use Rattle.std.specs.Prelude.{ℕ, ◌+◌, nat_lt, Bool, ◌&&◌, not, if◌then◌else◌, List, [], ◌∷◌, ◌++◌, length, map}
use Rattle.std.specs.Option.{option_to_list}
use Rattle.att_numbers.specs.Types.{Handle, Row, Values}
use Rattle.att_pdu.specs.Response.{Response, sent}
use Rattle.att_attributes.specs.declared.attr.Attr.{Attr}
use Rattle.gatt_laws.specs.machine.ConnectionState.{ConnectionState, is_live, standing_of, row_in_force, connection_mtu, backlog_of, with_pdus}
use Rattle.gatt_laws.specs.machine.SharedState.{SharedState}
use Rattle.gatt_subs.specs.declared.pending.TheConstants.{MAX_BACKLOG}
use Rattle.gatt_subs.specs.Hearing.{wants_indications}
use Rattle.gatt_subs.specs.Indications.{Indications, hears}
use Rattle.gatt_subs.specs.Told.{Hearer, notify_tells, pending_after_notify, indicate_tells, pending_after_indicate}
use Rattle.le_acl.specs.Packets.{Pdu}
use Rattle.le_l2cap.specs.declared.channel.TheConstants.{ATT}

abbrev pub hearer_of : SharedState → Row → ConnectionState → Hearer
hearer_of shared bond connection = record {
  live = is_live connection.mark;
  standing = standing_of shared connection;
  row = row_in_force bond connection;
  mtu = connection_mtu shared connection;
  backlog = backlog_of shared connection;
  pending = connection.pending;
}

-- The responses that a hearer is sent, and its indications afterwards.
pub record Heard : Type 0 where
  pub responses : List Response
  pub pending : Indications

abbrev pub heard_when_notifying : List Attr → Values → Hearer → Handle → Heard
heard_when_notifying attributes values hearer handle = record {
  responses = option_to_list (notify_tells attributes values hearer handle);
  pending = pending_after_notify attributes hearer handle;
}

abbrev pub heard_when_indicating : List Attr → Values → Hearer → ℕ → Heard
heard_when_indicating attributes values hearer now = record {
  responses = option_to_list (indicate_tells attributes values hearer);
  pending = pending_after_indicate attributes hearer now;
}

abbrev pub hearer_after : Hearer → Heard → Hearer
hearer_after hearer heard =
    record hearer { pending = heard.pending; backlog = hearer.backlog + length heard.responses }

abbrev pub after_responses : List Response → Heard → Heard
after_responses first heard = record heard { responses = first ++ heard.responses }

-- Values are notified in their order, then an indication is sent if one may be.
abbrev pub heard_in_turn : List Attr → Values → Hearer → ℕ → List Handle → Heard
heard_in_turn attributes values hearer now [] = heard_when_indicating attributes values hearer now
heard_in_turn attributes values hearer now (handle ∷ handles) =
    let first = heard_when_notifying attributes values hearer handle in
    after_responses first.responses
    (heard_in_turn attributes values (hearer_after hearer first) now handles)

-- A value is skipped if it would be notified, but MAX_BACKLOG PDUs or more are queued. (P-NOTE-9)
abbrev pub is_skipped : List Attr → Hearer → Handle → Bool
is_skipped attributes hearer handle =
    hearer.live && hears hearer.pending attributes hearer.row hearer.standing handle
    && not (wants_indications hearer.row handle) && not (nat_lt hearer.backlog MAX_BACKLOG)

abbrev pub skipped_in_turn : List Attr → Values → Hearer → List Handle → List Handle
skipped_in_turn attributes values hearer [] = []
skipped_in_turn attributes values hearer (handle ∷ handles) =
    (if is_skipped attributes hearer handle then handle ∷ [] else [])
    ++ skipped_in_turn attributes values
    (hearer_after hearer (heard_when_notifying attributes values hearer handle)) handles

abbrev pub att_pdu : Response → Pdu
att_pdu response = (ATT, sent response)

abbrev pub with_heard : ConnectionState → Heard → ConnectionState
with_heard connection heard =
    record (with_pdus connection (map att_pdu heard.responses)) { pending = heard.pending }

unfoldable pub after_hearing : SharedState → Row → List Handle → ConnectionState → ConnectionState
after_hearing shared bond handles connection =
    with_heard connection
    (heard_in_turn shared.table.attributes shared.table.values (hearer_of shared bond connection)
    shared.time handles)
