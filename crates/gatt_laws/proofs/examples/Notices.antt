-- What the application is told.
use Rattle.std.specs.Prelude.{◌≡◌, refl, true, false, List, [], ◌∷◌, ◌++◌, replicate}
use Rattle.std.specs.List.{flat_map}
use Rattle.att_pdu.specs.Form.{form_of}
use Rattle.att_policy.specs.declared.standing.KeyFacts.{KeyFacts}
use Rattle.att_reads.specs.Answer.{value_answer}
use Rattle.att_table.specs.Table.{Contents}
use Rattle.att_writes.specs.Applied.{after_entries}
use Rattle.gatt_laws.proofs.examples.Runs.{host, stream, initialised, connected, disconnected}
use Rattle.gatt_laws.proofs.examples.Runs.{key_asked, encryption, encrypted_with, command_complete}
use Rattle.gatt_laws.proofs.examples.Runs.{asks, asks_on, completed, update, end_connection, tick}
use Rattle.gatt_laws.proofs.examples.Tables.{door, bell, porch, new_porch, phone, tablet, owner}
use Rattle.gatt_laws.proofs.examples.Views.{comes, sends}
use Rattle.gatt_laws.specs.machine.Controller.{commands_due}
use Rattle.gatt_laws.specs.machine.Heard.{after_hearing}
use Rattle.gatt_laws.specs.machine.Input.{Item, ATable, run, after_item}
use Rattle.gatt_laws.specs.machine.Notice.{Notice, Connected, Disconnected, Secured, Unsecured, Written}
use Rattle.gatt_laws.specs.machine.Notice.{Configured, Confirmed, TimedOut, Ending, Skipped, event_told, noticed}
use Rattle.gatt_laws.specs.machine.Notice.{notices_in, all_notices}
use Rattle.gatt_laws.specs.machine.Packets.{packet_event}
use Rattle.gatt_laws.specs.machine.State.{step, change_of}
use Rattle.gatt_laws.specs.machine.Effect.{live_effect}
use Rattle.le_acl.specs.Frame.{frame_at}
use Rattle.le_acl.specs.Packets.{pieces}
use Rattle.le_hci.specs.declared.peer.Peer.{Peer}
use Rattle.octet_io.specs.Number.{Octets}

-- what is told of what comes in once a peer has connected, by the handle 0040
abbrev told_of : Contents → Peer → List Item → List Notice
told_of table peer items =
    let before : List Item = stream (initialised 4 ++ connected peer ++ command_complete 0x200A) in
    notices_in (run (host table 2) before) items

-- a controller that is initialised tells nothing; who connects is told, and then a second one
connects : all_notices (host door 2)
    (stream (initialised 4 ++ connected phone ++ command_complete 0x200A ++ comes 0x41 tablet))
    ≡ Connected 0x40 phone ∷ Connected 0x41 tablet ∷ []
unfolding run noticed event_told after_item packet_event step change_of live_effect after_hearing
    commands_due frame_at form_of pieces after_entries value_answer
connects = refl

-- a connection that is ignored is not: its handle is in use
ignored : told_of door phone (stream (comes 0x40 tablet)) ≡ []
unfolding run noticed event_told after_item packet_event step change_of live_effect after_hearing
    commands_due frame_at form_of pieces after_entries value_answer
ignored = refl

-- a Write Request, and a Write Command of a value that stands
writes : told_of door phone
    (stream (asks_on (0x12 ∷ 0x15 ∷ 0x00 ∷ 0x61 ∷ []) ++ asks (0x52 ∷ 0x15 ∷ 0x00 ∷ 0x61 ∷ [])))
    ≡ Written 0x40 21 ∷ Written 0x40 21 ∷ []
unfolding run noticed event_told after_item packet_event step change_of live_effect after_hearing
    commands_due frame_at form_of pieces after_entries value_answer
writes = refl

-- one that is refused, and a read
refused : told_of door phone
    (stream (asks_on (0x12 ∷ 0x0A ∷ 0x00 ∷ 0x01 ∷ []) ++ asks_on (0x0A ∷ 0x03 ∷ 0x00 ∷ []))) ≡ []
unfolding run noticed event_told after_item packet_event step change_of live_effect after_hearing
    commands_due frame_at form_of pieces after_entries value_answer
refused = refl

-- a Write Command of a value that may not be written so
refused_command : told_of door phone (stream (asks (0x52 ∷ 0x0A ∷ 0x00 ∷ 0x01 ∷ []))) ≡ []
unfolding run noticed event_told after_item packet_event step change_of live_effect after_hearing
    commands_due frame_at form_of pieces after_entries value_answer
refused_command = refl

-- it is told who wrote
another_writes : told_of door phone
    (stream (comes 0x41 tablet ++ sends 0x41 (0x52 ∷ 0x15 ∷ 0x00 ∷ 0x61 ∷ [])))
    ≡ Connected 0x41 tablet ∷ Written 0x41 21 ∷ []
unfolding run noticed event_told after_item packet_event step change_of live_effect after_hearing
    commands_due frame_at form_of pieces after_entries value_answer
another_writes = refl

-- the facts of the owner's key, and of the tablet's
owner_facts : KeyFacts
owner_facts = record { size = 16; authenticated = true; secure = false }

tablet_facts : KeyFacts
tablet_facts = record { size = 16; authenticated = false; secure = false }

-- an execution of two values and a configuration, in the order of first entries, each once
executes : told_of door owner (stream (
    encrypted_with 0x02
    ++ asks_on (0x16 ∷ 0x15 ∷ 0x00 ∷ 0x00 ∷ 0x00 ∷ 0x61 ∷ [])
    ++ asks_on (0x16 ∷ 0x0B ∷ 0x00 ∷ 0x00 ∷ 0x00 ∷ 0x01 ∷ 0x00 ∷ [])
    ++ asks_on (0x16 ∷ 0x15 ∷ 0x00 ∷ 0x01 ∷ 0x00 ∷ 0x62 ∷ [])
    ++ asks_on (0x16 ∷ 0x0A ∷ 0x00 ∷ 0x00 ∷ 0x00 ∷ 0x01 ∷ [])
    ++ asks_on (0x18 ∷ 0x01 ∷ [])))
    ≡ Secured 0x40 owner_facts ∷ Written 0x40 21 ∷ Configured 0x40 11 1 ∷ Written 0x40 10 ∷ []
unfolding run noticed event_told after_item packet_event step change_of live_effect after_hearing
    commands_due frame_at form_of pieces after_entries value_answer owner_facts
executes = refl

-- one that is refused, since its second part begins behind the value, and one that drops what is
-- prepared
executes_nothing : told_of door phone (stream (
    asks_on (0x16 ∷ 0x15 ∷ 0x00 ∷ 0x00 ∷ 0x00 ∷ 0x61 ∷ [])
    ++ asks_on (0x16 ∷ 0x15 ∷ 0x00 ∷ 0x05 ∷ 0x00 ∷ 0x62 ∷ [])
    ++ asks_on (0x18 ∷ 0x01 ∷ [])
    ++ asks_on (0x16 ∷ 0x15 ∷ 0x00 ∷ 0x00 ∷ 0x00 ∷ 0x61 ∷ [])
    ++ asks_on (0x18 ∷ 0x00 ∷ [])))
    ≡ []
unfolding run noticed event_told after_item packet_event step change_of live_effect after_hearing
    commands_due frame_at form_of pieces after_entries value_answer
executes_nothing = refl

-- a link has a key, and then none any more, by which the connection is ended; and then it is gone
secures : told_of door tablet (stream (encrypted_with 0x01 ++ encryption 0x00 ++ disconnected))
    ≡ Secured 0x40 tablet_facts ∷ Unsecured 0x40 ∷ Ending 0x40 0x05 ∷ Disconnected 0x40 ∷ []
unfolding run noticed event_told after_item packet_event step change_of live_effect after_hearing
    commands_due frame_at form_of pieces after_entries value_answer tablet_facts
secures = refl

-- its key is refreshed, and worth what it was
refreshed : Octets
refreshed = 0x04 ∷ 0x30 ∷ 0x03 ∷ 0x00 ∷ 0x40 ∷ 0x00 ∷ []

refreshes : told_of door tablet
    (stream (encrypted_with 0x01 ++ key_asked 0x01 ++ command_complete 0x201A ++ refreshed))
    ≡ Secured 0x40 tablet_facts ∷ []
unfolding run noticed event_told after_item packet_event step change_of live_effect after_hearing
    commands_due frame_at form_of pieces after_entries value_answer tablet_facts refreshed
refreshes = refl

-- a connection that goes with its key
goes : told_of door tablet (stream (encrypted_with 0x01 ++ disconnected))
    ≡ Secured 0x40 tablet_facts ∷ Disconnected 0x40 ∷ []
unfolding run noticed event_told after_item packet_event step change_of live_effect after_hearing
    commands_due frame_at form_of pieces after_entries value_answer tablet_facts
goes = refl

-- the application ends a connection, which is told once; what it still sends is ignored, and then
-- it is gone
ends : told_of door phone (end_connection ++ end_connection
    ++ stream (asks (0x12 ∷ 0x15 ∷ 0x00 ∷ 0x61 ∷ []) ++ disconnected) ++ end_connection)
    ≡ Ending 0x40 0x13 ∷ Disconnected 0x40 ∷ []
unfolding run noticed event_told after_item packet_event step change_of live_effect after_hearing
    commands_due frame_at form_of pieces after_entries value_answer
ends = refl

-- a confirmation of an indication, and one of none; what is configured a second time
subscribes : Octets
subscribes = 0x12 ∷ 0x04 ∷ 0x00 ∷ 0x02 ∷ 0x00 ∷ []

confirms_it : Octets
confirms_it = 0x1E ∷ []

indicated : List Item
indicated = stream (asks_on subscribes) ++ update 3 (0x01 ∷ [])

confirms : told_of bell phone
    (indicated ++ stream (asks confirms_it ++ asks confirms_it ++ asks_on subscribes))
    ≡ Configured 0x40 4 2 ∷ Confirmed 0x40 3 ∷ Configured 0x40 4 2 ∷ []
unfolding run noticed event_told after_item packet_event step change_of live_effect after_hearing
    commands_due frame_at form_of pieces after_entries value_answer subscribes confirms_it indicated
confirms = refl

-- a confirmation of one from before the table was replaced, and then of the one that tells so
confirms_late : told_of porch phone (
    stream (asks_on subscribes) ++ ATable new_porch ∷ ATable porch
    ∷ stream (asks confirms_it ++ asks confirms_it))
    ≡ Configured 0x40 4 2 ∷ Confirmed 0x40 3 ∷ []
unfolding run noticed event_told after_item packet_event step change_of live_effect after_hearing
    commands_due frame_at form_of pieces after_entries value_answer subscribes confirms_it
confirms_late = refl

-- an indication that is late
times_out : told_of bell phone
    (indicated ++ tick 29999 ++ tick 30000 ++ tick 60000 ++ stream (asks confirms_it))
    ≡ Configured 0x40 4 2 ∷ TimedOut 0x40 ∷ []
unfolding run noticed event_told after_item packet_event step change_of live_effect after_hearing
    commands_due frame_at form_of pieces after_entries value_answer subscribes confirms_it indicated
times_out = refl

-- sixteen answers wait behind the two that are given: a command is served, and what is to be
-- answered ends the connection
fills : told_of door phone (stream (
    flat_map asks (replicate 18 (0x0A ∷ 0x03 ∷ 0x00 ∷ []))
    ++ asks (0x52 ∷ 0x15 ∷ 0x00 ∷ 0x61 ∷ []) ++ asks (0x12 ∷ 0x15 ∷ 0x00 ∷ 0x62 ∷ [])))
    ≡ Written 0x40 21 ∷ Ending 0x40 0x13 ∷ []
unfolding run noticed event_told after_item packet_event step change_of live_effect after_hearing
    commands_due frame_at form_of pieces after_entries value_answer
fills = refl

-- two packets are given and eight wait: an eleventh value is skipped, and one after a packet is
-- completed is not
notified : Octets
notified = 0x12 ∷ 0x04 ∷ 0x00 ∷ 0x01 ∷ 0x00 ∷ []

skips : told_of bell phone (stream (asks_on notified) ++ flat_map (update 3) (replicate 11 (0x01 ∷ []))
    ++ stream (completed 1) ++ update 3 (0x01 ∷ []))
    ≡ Configured 0x40 4 1 ∷ Skipped 0x40 3 ∷ []
unfolding run noticed event_told after_item packet_event step change_of live_effect after_hearing
    commands_due frame_at form_of pieces after_entries value_answer notified
skips = refl

-- a value waits to be indicated when the client asks for notifications instead: it is skipped all
-- the same
skips_while_it_waits : told_of bell phone (indicated ++ update 3 (0x01 ∷ []) ++ stream (asks_on notified)
    ++ flat_map (update 3) (replicate 10 (0x01 ∷ [])))
    ≡ Configured 0x40 4 2 ∷ Configured 0x40 4 1 ∷ Skipped 0x40 3 ∷ []
unfolding run noticed event_told after_item packet_event step change_of live_effect after_hearing
    commands_due frame_at form_of pieces after_entries value_answer subscribes indicated notified
skips_while_it_waits = refl
