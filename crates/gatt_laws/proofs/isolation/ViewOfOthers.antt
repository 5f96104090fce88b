-- What a connection sees decides what packets that are completed, a table that is replaced and what others write leave of it.
use Rattle.std.proofs.Common.{◌≡◌, ℕ, Bool, true, false, List, [], ◌∷◌, map, filter, Option, Some, None, Result, Ok, Err, refl, sym, ap, ◌∙◌}
use Rattle.std.specs.Prelude.{is_some, ◌==◌, ◌&&◌, not, if◌then◌else◌}
use Rattle.std.specs.Option.{option_map_or}
use Rattle.att_numbers.specs.Types.{Handle, Row, Values}
use Rattle.att_pdu.specs.Grammar.{request_of, is_due}
use Rattle.att_policy.specs.declared.standing.Standing.{Standing}
use Rattle.att_policy.specs.Refusal.{Refusal}
use Rattle.att_attributes.specs.declared.attr.Attr.{Attr}
use Rattle.att_attributes.specs.declared.attr.Role.{Role}
use Rattle.att_attributes.specs.declared.attr.Role.TheVariants.{Declaration, Value, Configuration, Descriptor}
use Rattle.att_attributes.specs.Attributes.{attribute_at, is_configuration, is_value, is_configuration_at, is_value_at}
use Rattle.att_table.specs.ConfigRow.{kept_row}
use Rattle.att_table.specs.Table.{Contents, value_at}
use Rattle.att_writes.specs.Applied.{Stored, applied_to, stored_in}
use Rattle.gatt_conn.specs.Answer.{Question, Writing, writing_asked, stored_by, handles_by, stored_after_writing, handles_after}
use Rattle.gatt_conn.specs.Connection.{Bearer}
use Rattle.gatt_conn.specs.Transcript.{Dropped}
use Rattle.gatt_laws.proofs.policy.Stores.{store, set_bits, stores_written, sets_written}
use Rattle.gatt_laws.specs.machine.Event.{Ordinal, Own, Connected, Disconnected, KeyAsked, Encrypted, Refreshed, Asks, OtherChannel, Authorized, Ended}
use Rattle.gatt_laws.specs.machine.ConnectionState.{ConnectionState, no_connection, fresh_connection, is_live, is_there, key_of, row_in_force, connection_mtu, bearer_of, after_ending}
use Rattle.gatt_laws.specs.machine.SharedState.{SharedState, Bonds}
use Rattle.gatt_laws.specs.laws.SameView.{Seen, without_commands, seen_of}
use Rattle.gatt_laws.specs.machine.State.{State, at_peer, with_values, own_change, with_packets_completed, after_packets_completed, connection_after_replacement, step}
use Rattle.gatt_laws.specs.machine.Effect.{Effect, effect_on_connection, served, is_full, request_effect, after_other_channel, channel_answer, with_step, lost_encryption, link_effect, values_among, live_effect, effect_of, remote_user_terminated, authentication_failure, handles_written}
use Rattle.gatt_laws.specs.laws.View.{WrittenByOthers, values_there, bits_there, written_in, own_counts}
use Rattle.gatt_subs.specs.Indications.{Indications, may_indicate, from_due, first_handle, rest_of, unconfirmed_since, after_tick, after_replacement}
use Rattle.le_hci.specs.declared.buffers.Buffers.{Buffers}
use Rattle.le_hci.specs.declared.peer.Peer.{Peer}
use Rattle.le_security.proofs.Peers.{equal_peers}
use Rattle.le_security.specs.Entry.{same_peer}
use Rattle.le_security.specs.Link.{Step, Encryption, Refresh}
use Rattle.octet_io.proofs.Choices.{and_true_left}
use Rattle.octet_io.specs.Number.{Octets}
use Rattle.gatt_laws.proofs.isolation.ViewOfOwn.{seen_change, seen_end, with_buffers}

unfoldable pub acknowledged : ConnectionState → List ℕ → ConnectionState
acknowledged connection [] = connection
acknowledged connection (count ∷ counts) = acknowledged (with_packets_completed connection count) counts

pub completed-silent : (ordinal : Ordinal) (entries : List (Ordinal × ℕ)) (connection : ConnectionState)
    → without_commands (after_packets_completed ordinal entries connection) ≡ acknowledged (without_commands connection) (own_counts ordinal entries)
unfolding acknowledged
completed-silent ordinal [] connection = refl
completed-silent ordinal (entry ∷ entries) connection =
    elim (entry.0 == ordinal) as
    (λ (own : Bool). without_commands (after_packets_completed ordinal entries (if own then with_packets_completed connection entry.1 else connection))
    ≡ acknowledged (without_commands connection) (if own then entry.1 ∷ own_counts ordinal entries else own_counts ordinal entries)) [
      | true ↦ completed-silent ordinal entries (with_packets_completed connection entry.1)
      | false ↦ completed-silent ordinal entries connection
    ]

pub replaced-silent : (old new : Contents) (connection : ConnectionState) → without_commands (connection_after_replacement old new connection)
    ≡ connection_after_replacement old new (without_commands connection)
replaced-silent old new connection =
    elim (is_live connection.mark) as (λ (live : Bool).
    without_commands
    (record (if live then record connection { said = Dropped ∷ connection.said; pending = after_replacement connection.pending } else connection)
    { row = kept_row old.attributes new.attributes connection.row })
    ≡ record (if live then record (without_commands connection) { said = Dropped ∷ connection.said; pending = after_replacement connection.pending }
    else without_commands connection) { row = kept_row old.attributes new.attributes connection.row }) [
      | true ↦ refl
      | false ↦ refl
    ]

-- What another connection writes.

-- what is stored, and by which handles
record StoresAt (attributes : List Attr) (old new : Stored) (handles : List Handle) : Type 0 where
  values : new.values ≡ store (values_there attributes new.values handles) old.values
  row : new.row ≡ set_bits (bits_there attributes new.row handles) old.row

applied-stores : (writing : Writing) (table : Contents) (row : Row) (standing : Standing) (result : Result Stored Refusal)
    → applied_to writing.access table row standing writing.entries ≡ result
    → StoresAt table.attributes (stored_in table row) (Rattle.att_writes.specs.Applied.stored_after (stored_in table row) result)
    (Rattle.att_writes.specs.Queue.touched_by writing.entries result)
applied-stores writing table row standing (Ok new) is = record {
  values = stores_written writing.access table.attributes standing writing.entries (stored_in table row) new is;
  row = sets_written writing.access table.attributes standing writing.entries (stored_in table row) new is;
}
applied-stores writing table row standing (Err refusal) is = record { values = refl; row = refl }

written-stores : (table : Contents) (row : Row) (standing : Standing) (writing : Option Writing)
    → StoresAt table.attributes (stored_in table row) (stored_after_writing table row standing writing) (handles_after table row standing writing)
written-stores table row standing None = record { values = refl; row = refl }
written-stores table row standing (Some writing) =
    applied-stores writing table row standing (applied_to writing.access table row standing writing.entries) refl

-- what a turn leaves to others
record WritesAt (shared : SharedState) (bond : Row) (owed : Bool) (connection : ConnectionState) (effect : Effect) (handles : List Handle) : Type 0 where
  stores : effect.values ≡ store (values_there shared.table.attributes effect.values handles) shared.table.values
  sets : effect.bond ≡ (if is_some (key_of connection) then set_bits (bits_there shared.table.attributes effect.bond handles) bond else bond)
  owes : effect.owed ≡ true → owed ≡ true
  raises : effect.to_notify ≡ values_among shared.table.attributes handles

row-in-force : (attributes : List Attr) (bond own new : Row) (handles : List Handle) (keyed : Bool)
    → new ≡ set_bits (bits_there attributes new handles) (if keyed then bond else own)
    → (if keyed then new else bond) ≡ (if keyed then set_bits (bits_there attributes (if keyed then new else bond) handles) bond else bond)
row-in-force attributes bond own new handles true is = is
row-in-force attributes bond own new handles false is = refl

either-way : (keyed : Bool) (row : Row) → row ≡ (if keyed then row else row)
either-way true row = refl
either-way false row = refl

writes-nothing : (shared : SharedState) (bond : Row) (owed : Bool) (connection new : ConnectionState)
    → WritesAt shared bond owed connection (effect_on_connection shared bond owed new) []
writes-nothing shared bond owed connection new = record {
  stores = refl;
  sets = either-way (is_some (key_of connection)) bond;
  owes = λ is. is;
  raises = refl;
}

served-writes : (shared : SharedState) (bond : Row) (owed : Bool) (connection : ConnectionState) (pdu : Octets) (asked : Question)
    → WritesAt shared bond owed connection (served shared bond owed connection pdu asked)
    (handles_by shared.table (row_in_force bond connection) (bearer_of shared connection) asked)
served-writes shared bond owed connection pdu asked =
    let conn : Bearer = bearer_of shared connection in
    let stores = written-stores shared.table (row_in_force bond connection) conn.standing (writing_asked conn.queue asked) in
    record {
      stores = stores.values;
      sets = row-in-force shared.table.attributes bond connection.row (stored_by shared.table (row_in_force bond connection) conn asked).row
          (handles_by shared.table (row_in_force bond connection) conn asked) (is_some (key_of connection)) stores.row;
      owes = λ is.
          and_true_left owed
          (not (Rattle.gatt_conn.specs.Answer.is_confirmation pdu && is_some (key_of connection)
          && option_map_or (Rattle.gatt_subs.specs.Indications.is_told connection.pending) shared.changer false)) is;
      raises = refl;
    }

asked-writes : (shared : SharedState) (bond : Row) (owed : Bool) (connection : ConnectionState) (pdu : Octets) (live full : Bool)
    → let asked : Question = request_of pdu (connection_mtu shared connection) in
    WritesAt shared bond owed connection
    (if live
    then (if full then effect_on_connection shared bond owed (after_ending connection remote_user_terminated) else served shared bond owed connection pdu asked)
    else effect_on_connection shared bond owed connection)
    (if live && not full then handles_by shared.table (row_in_force bond connection) (bearer_of shared connection) asked else [])
asked-writes shared bond owed connection pdu true true = writes-nothing shared bond owed connection (after_ending connection remote_user_terminated)
asked-writes shared bond owed connection pdu true false = served-writes shared bond owed connection pdu (request_of pdu (connection_mtu shared connection))
asked-writes shared bond owed connection pdu false true = writes-nothing shared bond owed connection connection
asked-writes shared bond owed connection pdu false false = writes-nothing shared bond owed connection connection

link-writes : (shared : SharedState) (bond : Row) (owed : Bool) (connection : ConnectionState) (step : Step) (live : Bool)
    → WritesAt shared bond owed connection (if live then link_effect shared bond owed connection step else effect_on_connection shared bond owed connection) []
link-writes shared bond owed connection step true =
    let new : ConnectionState = if lost_encryption (key_of connection) (key_of (with_step connection step))
    then after_ending (with_step connection step) authentication_failure else with_step connection step in
    let nothing = writes-nothing shared bond owed connection new in
    record { stores = nothing.stores; sets = nothing.sets; owes = nothing.owes; raises = nothing.raises }
link-writes shared bond owed connection step false = writes-nothing shared bond owed connection connection

if-writes-nothing : (shared : SharedState) (bond : Row) (owed : Bool) (connection new : ConnectionState) (live : Bool)
    → WritesAt shared bond owed connection (if live then effect_on_connection shared bond owed new else effect_on_connection shared bond owed connection) []
if-writes-nothing shared bond owed connection new true = writes-nothing shared bond owed connection new
if-writes-nothing shared bond owed connection new false = writes-nothing shared bond owed connection connection

turn-writes : (shared : SharedState) (bond : Row) (owed : Bool) (connection : ConnectionState) (own : Own)
    → WritesAt shared bond owed connection (effect_of shared bond owed connection own) (handles_written shared bond connection own)
unfolding live_effect
turn-writes shared bond owed connection (Connected handle peer) =
    writes-nothing shared bond owed connection (if is_there connection.mark then connection else fresh_connection handle peer)
turn-writes shared bond owed connection Disconnected = writes-nothing shared bond owed connection no_connection
turn-writes shared bond owed connection (KeyAsked random_number diversifier) =
    if-writes-nothing shared bond owed connection
    (Rattle.gatt_laws.specs.machine.Effect.with_key_asked connection
    (Rattle.le_security.specs.Keys.key_asked_for shared.keys connection.peer random_number diversifier)) (is_live connection.mark)
turn-writes shared bond owed connection (Encrypted status enabled) =
    link-writes shared bond owed connection (Encryption status enabled) (is_live connection.mark)
turn-writes shared bond owed connection (Refreshed status) = link-writes shared bond owed connection (Refresh status) (is_live connection.mark)
turn-writes shared bond owed connection (Asks pdu) =
    asked-writes shared bond owed connection pdu (is_live connection.mark)
    (is_due (request_of pdu (connection_mtu shared connection)) && is_full shared connection)
turn-writes shared bond owed connection (OtherChannel channel payload) =
    if-writes-nothing shared bond owed connection (after_other_channel shared connection channel (channel_answer channel payload)) (is_live connection.mark)
turn-writes shared bond owed connection (Authorized until) =
    if-writes-nothing shared bond owed connection (record connection { until = until }) (is_live connection.mark)
turn-writes shared bond owed connection Ended =
    if-writes-nothing shared bond owed connection (after_ending connection remote_user_terminated) (is_live connection.mark)

-- only values are notified, and they are among what is seen
unfoldable pub handles_of_values : List (Handle × Octets) → List Handle
handles_of_values written = map (λ (first : Handle × Octets). first.0) written

value-is-none : (attributes : List Attr) (handle : Handle) (found : Option Attr) → attribute_at attributes handle ≡ found
    → is_configuration_at attributes handle ≡ true → is_value_at attributes handle ≡ false
value-is-none attributes handle None is of = ap (λ one. option_map_or (λ (attr : Attr). is_value attr.role) one false) is
value-is-none attributes handle (Some attr) is of =
    let configuration : is_configuration attr.role ≡ true = ap (λ one. option_map_or (λ (attr : Attr). is_configuration attr.role) one false) (sym is) ∙ of in
    ap (λ one. option_map_or (λ (attr : Attr). is_value attr.role) one false) is ∙ not-both attr.role configuration
  where
    not-both : (role : Role) → is_configuration role ≡ true → is_value role ≡ false
    not-both Declaration so = refl
    not-both Value so = cc so
    not-both Configuration so = refl
    not-both Descriptor so = refl

seen-raised-at : (attributes : List Attr) (values : Values) (handle : Handle) (rest : List Handle) (own : Bool) → is_configuration_at attributes handle ≡ own
    → values_among attributes (handles_of_values (values_there attributes values rest)) ≡ values_among attributes rest
    → values_among attributes
    (handles_of_values
    (map (λ at. (at, value_at values at)) (if not own then handle ∷ filter (λ at. not (is_configuration_at attributes at)) rest
    else filter (λ at. not (is_configuration_at attributes at)) rest)))
    ≡ (if is_value_at attributes handle then handle ∷ values_among attributes rest else values_among attributes rest)
unfolding handles_of_values
seen-raised-at attributes values handle rest true is later =
    later ∙ ap (λ (value : Bool). if value then handle ∷ values_among attributes rest else values_among attributes rest)
    (sym (value-is-none attributes handle (attribute_at attributes handle) refl is))
seen-raised-at attributes values handle rest false is later =
    ap (λ (handles : List Handle). if is_value_at attributes handle then handle ∷ handles else handles) later

seen-raised : (attributes : List Attr) (values : Values) (handles : List Handle)
    → values_among attributes (handles_of_values (values_there attributes values handles)) ≡ values_among attributes handles
unfolding handles_of_values
seen-raised attributes values [] = refl
seen-raised attributes values (handle ∷ rest) =
    seen-raised-at attributes values handle rest (is_configuration_at attributes handle) refl (seen-raised attributes values rest)

-- what is seen of it leads to the same
bond-seen : (peer other : Peer) (bonds : Bonds) (new : Row) (bits : List (Handle × ℕ)) (keyed same : Bool) → same_peer peer other ≡ same
    → new ≡ (if keyed then set_bits bits (bonds other) else bonds other)
    → (if same then new else bonds peer) ≡ set_bits (if same && keyed then bits else []) (bonds peer)
unfolding set_bits
bond-seen peer other bonds new bits true true is written = written ∙ ap (λ (of : Peer). set_bits bits (bonds of)) (sym (equal_peers peer other is))
bond-seen peer other bonds new bits false true is written = written ∙ ap bonds (sym (equal_peers peer other is))
bond-seen peer other bonds new bits true false is written = refl
bond-seen peer other bonds new bits false false is written = refl

owed-or-not : (was is : Bool) → (is ≡ true → was ≡ true) → is ≡ (was && not (was && not is))
owed-or-not true true less = refl
owed-or-not true false less = refl
owed-or-not false true less = cc (less refl)
owed-or-not false false less = refl

pub without-ceasing : (was : Bool) → was ≡ (was && true)
without-ceasing true = refl
without-ceasing false = refl

owed-seen : (peer other : Peer) (owed : Peer → Bool) (new same : Bool) → same_peer peer other ≡ same → (new ≡ true → owed other ≡ true)
    → (if same then new else owed peer) ≡ (owed peer && not (same && owed other && not new))
owed-seen peer other owed new true is less =
    owed-or-not (owed other) new less ∙ ap (λ (of : Peer). owed of && not (owed other && not new)) (sym (equal_peers peer other is))
owed-seen peer other owed new false is less = without-ceasing (owed peer)

unfoldable pub write-next : Seen → WrittenByOthers → Seen
write-next old written =
    seen_end (with_values old.shared (store written.values old.shared.table.values)) (set_bits written.bits old.bond) (old.owed && not written.ceases)
    (values_among old.shared.table.attributes (handles_of_values written.values)) old.connection

pub other-seen : (buffers : Option Buffers) (peer : Peer) (ordinal : Ordinal) (state : State) (at : Ordinal) (own : Own) → (ordinal == at) ≡ false
    → seen_change buffers peer ordinal (own_change state at own) ≡ write-next (seen_of buffers peer ordinal state) (written_in state peer at own)
unfolding seen_change write-next
other-seen buffers peer ordinal state at own differs =
    let connection : ConnectionState = state.connections at in
    let bond : Row = state.bonds connection.peer in
    let owed : Bool = state.owed connection.peer in
    let effect : Effect = effect_of state.shared bond owed connection own in
    let handles : List Handle = handles_written state.shared bond connection own in
    let written : WrittenByOthers = written_in state peer at own in
    let writes = turn-writes state.shared bond owed connection own in
    let bonds =
    bond-seen peer connection.peer state.bonds effect.bond (bits_there state.shared.table.attributes effect.bond handles) (is_some (key_of connection))
    (same_peer peer connection.peer) refl writes.sets in
    let owes = owed-seen peer connection.peer state.owed effect.owed (same_peer peer connection.peer) refl writes.owes in
    let raised : effect.to_notify ≡ values_among state.shared.table.attributes (handles_of_values written.values) =
    writes.raises ∙ sym (seen-raised state.shared.table.attributes effect.values handles) in
    ap (λ (same : Bool).
    seen_end (with_buffers (with_values state.shared effect.values) buffers) (at_peer connection.peer effect.bond state.bonds peer)
    (at_peer connection.peer effect.owed state.owed peer)
    (if same then effect.to_notify_here else effect.to_notify) (without_commands (if same then effect.connection else state.connections ordinal))) differs
    ∙ (λ i. seen_end (with_buffers (with_values state.shared (writes.stores i)) buffers) (bonds i) (owes i) (raised i)
    (without_commands (state.connections ordinal)))
