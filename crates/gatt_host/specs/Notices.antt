-- The notices of the last event, by the state after it.
use Rattle.std.specs.Prelude.{◌≡◌, ℕ, List, [], ◌∷◌, ◌++◌, map, if◌then◌else◌, Option}
use Rattle.std.specs.Option.{option_to_list}
use Rattle.att_numbers.specs.Types.{Row}
use Rattle.att_policy.specs.declared.standing.KeyFacts.{KeyFacts}
use Rattle.gatt_host.specs.declared.last_event.LastEvent.{LastEvent}
use Rattle.gatt_host.specs.declared.last_event.LastEvent.TheVariants as last
use Rattle.host_api.specs.declared.notice.Notice.{Notice as Lent}
use Rattle.host_api.specs.declared.notice.Notice.TheVariants as lent
use Rattle.gatt_host.specs.ServerState.{ServerState}
use Rattle.gatt_laws.specs.machine.Notice.{Notice, Connected, Disconnected, Secured, Unsecured, Written, Configured, Confirmed, TimedOut, Ending, Skipped, Received, link_told, octets_of_notice, write_told}
use Rattle.att_table.specs.Table.{Contents}
use Rattle.gatt_laws.specs.machine.Effect.{authentication_failure, lost_encryption, remote_user_terminated}
use Rattle.host_connections.specs.declared.request.Brought.{Brought}
use Rattle.host_connections.specs.declared.skipped.Skipped as noted
use Rattle.host_connections.specs.Slots.{slot_row_at}
use Rattle.octet_io.specs.Number.{Octets}

abbrev pub row_at_place : ServerState → ℕ → Row
row_at_place server place = slot_row_at server.slots server.rows place

-- A served connection's writes and confirmation, and its end if an answer finds no space.
abbrev pub served_told : ServerState → ℕ → ℕ → Brought → List Notice
served_told server place handle brought =
    (map (write_told server.table.attributes (row_at_place server place) handle) server.written
    ++ map (Confirmed handle) (option_to_list brought.confirmed))
    ++ (if brought.ended then Ending handle remote_user_terminated ∷ [] else [])

-- A link that lost its key is ended.
abbrev pub link_change_told : ℕ → Option KeyFacts → Option KeyFacts → List Notice
link_change_told handle before after =
    link_told handle before after
    ++ (if lost_encryption before after then Ending handle authentication_failure ∷ [] else [])

abbrev pub notices_by : ServerState → LastEvent → List Notice
notices_by server last.Quiet = []
notices_by server (last.Connected handle peer) = Connected handle peer ∷ []
notices_by server (last.Disconnected handle) = Disconnected handle ∷ []
notices_by server (last.LinkChanged handle before after) = link_change_told handle before after
notices_by server (last.Served place handle brought) = served_told server place handle brought
notices_by server (last.Ended handle reason) = Ending handle reason ∷ []
notices_by server last.Ticked = map TimedOut server.late

-- The notices of skipped values come last.
abbrev pub skip_told : noted.Skipped → Notice
skip_told skipped = Skipped skipped.handle skipped.attribute

abbrev pub last_notices : ServerState → List Notice
last_notices server = notices_by server server.last ++ map skip_told server.skipped

-- A notice without the octets that it borrows.
abbrev pub notice_of : Lent → Notice
notice_of (lent.Connected handle peer) = Connected handle peer
notice_of (lent.Disconnected handle) = Disconnected handle
notice_of (lent.Secured handle facts) = Secured handle facts
notice_of (lent.Unsecured handle) = Unsecured handle
notice_of (lent.Written handle attribute value) = Written handle attribute
notice_of (lent.Configured handle attribute bits) = Configured handle attribute bits
notice_of (lent.Confirmed handle attribute) = Confirmed handle attribute
notice_of (lent.TimedOut handle) = TimedOut handle
notice_of (lent.Ending handle reason) = Ending handle reason
notice_of (lent.Skipped handle attribute) = Skipped handle attribute

abbrev pub octets_lent : Lent → Octets
octets_lent (lent.Written handle attribute value) = value.now
octets_lent notice = []

abbrev pub received_from : Lent → Received
received_from notice = record { notice = notice_of notice; value = octets_lent notice }

-- The octets of a notice are those of the table.
abbrev pub HasTheValue : Contents → Lent → Type 0
HasTheValue table (lent.Written handle attribute value) =
    value.now ≡ octets_of_notice table (Written handle attribute)
HasTheValue table notice = Unit
