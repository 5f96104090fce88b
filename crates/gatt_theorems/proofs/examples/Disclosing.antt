-- Answers that disclose a value that a client may not read, and the laws of the promise that each breaks.
use Rattle.std.proofs.Common.{◌≡◌, ℕ, ◌+◌, ◌-◌, ◌==◌, ◌/◌, arith, Bool, true, false, if◌then◌else◌, List, [], ◌∷◌, length, map, take, Some, None, refl, sym, ap, ◌∙◌, subst}
use Rattle.std.specs.Prelude.{nat_lt, is_some, Ok}
use Rattle.std.specs.List.{filter}
use Rattle.std.proofs.lemmas.Bool.{eqb-true}
use Rattle.std.specs.Str.{bytes_eq}
use Rattle.att_numbers.specs.AttributeType.{of_16_bits}
use Rattle.att_numbers.specs.Types.{Handle}
use Rattle.att_numbers.specs.declared.opcode.TheConstants.{FIND_BY_TYPE_VALUE_REQUEST, READ_BY_TYPE_REQUEST}
use Rattle.att_pdu.specs.Form.{form_of}
use Rattle.att_pdu.specs.Request.{FindByTypeValueRequest, ReadByTypeRequest}
use Rattle.att_pdu.specs.Response.{ReadByTypeResponse, FindByTypeValueResponse}
use Rattle.att_pdu.specs.Uuid.{uuid_number}
use Rattle.att_attributes.specs.OfType.{handles_of_type}
use Rattle.att_reads.specs.Access.{value_for}
use Rattle.att_reads.specs.Answer.{group_of}
use Rattle.att_reads.specs.List.{candidate_of}
use Rattle.att_reads.specs.Listing.{Candidate, size_of_first, elements_within, first_refusal}
use Rattle.att_reads.specs.Refusals.{unless_refused, range_refusal, not_found}
use Rattle.att_reads.specs.declared.list.Listing.TheVariants.{Values as ListedValues}
use Rattle.att_table.specs.Table.{Contents, with_value}
use Rattle.att_writes.proofs.Lengths.{stored_both}
use Rattle.att_writes.specs.SameBut.{SameBut}
use Rattle.gatt_conn.specs.Answer.{answer_to}
use Rattle.gatt_conn.specs.Connection.{new_connection}
use Rattle.gatt_laws.proofs.examples.Runs.{host}
use Rattle.gatt_laws.proofs.examples.Tables.{door, phone}
use Rattle.gatt_laws.specs.laws.Alike.{Alike, Hides, HidesFrom, MayNotKnow}
use Rattle.gatt_laws.specs.machine.Controller.{command_of_init, commands_due, count_before, without_command}
use Rattle.gatt_laws.specs.machine.Event.{Ordinal, Own, Asks, Of}
use Rattle.gatt_laws.specs.machine.Heard.{after_hearing}
use Rattle.gatt_laws.specs.machine.ConnectionState.{ConnectionState, fresh_connection, is_live, no_connection}
use Rattle.gatt_laws.specs.machine.SharedState.{SharedState, Bonds, fragment_size_of, share_of}
use Rattle.gatt_laws.specs.machine.Start.{state_at}
use Rattle.gatt_laws.specs.machine.State.{State, Change, at_ordinal, connections_finished, finished, with_commands_sent}
use Rattle.gatt_laws.specs.machine.Effect.{live_effect}
use Rattle.gatt_theorems.proofs.examples.Answering.{answering, at_the_end, change_by}
use Rattle.gatt_theorems.proofs.examples.Laws.{GivesTheSameBy, KeepsAlikeBy, AgreesBy, packets_by, step_of}
use Rattle.gatt_theorems.proofs.examples.Refusals.{Answering}
use Rattle.le_acl.specs.History.{packets_allowed}
use Rattle.le_acl.specs.Packets.{Pdu, pieces}
use Rattle.octet_io.specs.Number.{Octets}

-- A list by type that checks the permission of its first attribute only.
abbrev permitted : Candidate → Candidate
permitted candidate = record candidate { refusal = None }

abbrev but_the_first : List Candidate → List Candidate
but_the_first [] = []
but_the_first (first ∷ rest) = first ∷ map permitted rest

lists_what_is_refused : Answering
lists_what_is_refused table row conn (Ok (ReadByTypeRequest first last type)) =
    let values =
    but_the_first (map (candidate_of ListedValues table row conn.standing conn.mtu) (handles_of_type table.attributes (uuid_number type) first last)) in
    Some (unless_refused READ_BY_TYPE_REQUEST
    (range_refusal first last ∷ not_found first values ∷ first_refusal values ∷ [])
    (ReadByTypeResponse (size_of_first values) (elements_within conn.mtu values)))
lists_what_is_refused table row conn question = answer_to table row conn question

-- A search by value that compares values that may not be read.
compares_what_is_refused : Answering
compares_what_is_refused table row conn (Ok (FindByTypeValueRequest first last type value)) =
    let found = filter (λ (handle : Handle). bytes_eq (value_for table row handle) value) (handles_of_type table.attributes (of_16_bits type) first last) in
    Some (unless_refused FIND_BY_TYPE_VALUE_REQUEST
    (range_refusal first last ∷ not_found first found ∷ [])
    (FindByTypeValueResponse (map (group_of table) (take ((conn.mtu - 1) / 4) found))))
compares_what_is_refused table row conn question = answer_to table row conn question

-- the door lock, and one that differs in the value at handle 17, which only an encrypted link may read
abbrev other_door : Contents
other_door = record door { values = with_value door.values 17 (0x09 ∷ []) }

-- a phone without a key at a door lock, with a controller that takes eight packets
abbrev phone_at : Contents → State
phone_at table =
    let state = state_at (host table 1) in
    record state {
      shared = record state.shared { buffers = Some (record { length = 27; packets = 8 }) };
      connections = at_ordinal 0 (fresh_connection 0 phone) (λ ordinal. no_connection);
      slots = Some 0 ∷ [];
    }

abbrev secret : Handle → Bool
secret handle = 17 == handle

abbrev lists : Own
lists = Asks (0x08 ∷ 0x01 ∷ 0x00 ∷ 0xFF ∷ 0xFF ∷ 0xF3 ∷ 0xFF ∷ [])

abbrev compares : Own
compares = Asks (0x06 ∷ 0x01 ∷ 0x00 ∷ 0xFF ∷ 0xFF ∷ 0xF3 ∷ 0xFF ∷ 0x02 ∷ [])

-- the phone may not know that value, and the two door locks are alike to it
may-not-know : (handle : Handle) → secret handle ≡ true → MayNotKnow door.attributes [] (new_connection 247).standing handle
may-not-know handle is =
    subst (MayNotKnow door.attributes [] (new_connection 247).standing) (eqb-true 17 handle is) (record { unread = refl; unheard = refl })

doors_differ : SameBut secret door.values other_door.values
doors_differ =
    stored_both secret door.values door.values 17 (0x02 ∷ []) (0x09 ∷ []) (omega arith)
    (record { count = refl; lengths = λ handle used. refl; shown = λ handle used shown. refl }) refl (λ shown. cc shown)

doors_alike : Alike phone secret (phone_at door) (phone_at other_door)
doors_alike = record {
  shared = refl;
  values = doors_differ;
  bonds = refl;
  owed = refl;
  own = λ ordinal of. refl;
  others = λ ordinal. refl;
  slots = refl;
  next = refl;
  controller = refl;
}

-- what a connection may not know it may not know after the end of an event
hides-if : (shared : SharedState) (bonds : Bonds) (test : Bool) (one other : ConnectionState) → HidesFrom phone secret shared bonds one
    → HidesFrom phone secret shared bonds other → HidesFrom phone secret shared bonds (if test then one else other)
hides-if shared bonds true one other hides hides_too = hides
hides-if shared bonds false one other hides hides_too = hides_too

hides-finished : (shared : SharedState) (bonds : Bonds) (handles : List Handle) (connection : ConnectionState)
    → HidesFrom phone secret shared bonds connection → HidesFrom phone secret shared bonds (finished shared bonds handles connection)
unfolding after_hearing
hides-finished shared bonds handles connection hides =
    let heard = after_hearing shared (bonds connection.peer) handles connection in
    let given = packets_allowed (share_of shared.slots shared.buffers) (fragment_size_of shared.buffers) heard.pdus heard.done in
    hides-if shared bonds (is_live heard.mark) (record heard { given = given }) heard hides hides

hides-sent : (shared : SharedState) (bonds : Bonds) (connection : ConnectionState) → HidesFrom phone secret shared bonds connection
    → HidesFrom phone secret shared bonds (without_command connection)
hides-sent shared bonds connection hides =
    hides-if shared bonds (is_some connection.reason) (record connection { reason = None }) (record connection { reply = None }) hides hides

hides-at-the-end : (change : Change)
    → ((ordinal : Ordinal) → HidesFrom phone secret change.state.shared change.state.bonds (change.state.connections ordinal))
    → Hides phone secret (with_commands_sent (at_the_end change))
hides-at-the-end change hides ordinal =
    let shared = change.state.shared in
    let bonds = change.state.bonds in
    let ended = connections_finished change in
    let controller = change.state.controller in
    let here = hides-finished shared bonds (change.to_notify ordinal) (change.state.connections ordinal) (hides ordinal) in
    hides-if shared bonds
    (nat_lt (length (command_of_init controller) + count_before ordinal ended change.state.slots) controller.credit)
    (without_command (ended ordinal)) (ended ordinal) (hides-sent shared bonds (ended ordinal) here) here

absent-live : false ≡ true → ⊥
absent-live is = cc is

hides : Hides phone secret (phone_at door)
hides ordinal =
    hides-if (phone_at door).shared (phone_at door).bonds (ordinal == 0) (fresh_connection 0 phone) no_connection
    (λ live of handle is. may-not-know handle is) (λ live. absurd (absent-live live))

hides-after : (answers : Answering) (own : Own)
    → (let change : Change = change_by answers (phone_at door) 0 own in
    HidesFrom phone secret change.state.shared change.state.bonds (change.state.connections 0))
    → Hides phone secret (step_of (answering answers) (phone_at door) (Of 0 own))
hides-after answers own hides =
    let change = change_by answers (phone_at door) 0 own in
    hides-at-the-end change (λ ordinal.
    hides-if change.state.shared change.state.bonds (ordinal == 0) (change.state.connections 0) ((phone_at door).connections ordinal) hides
    (hides-if change.state.shared change.state.bonds (ordinal == 0) (fresh_connection 0 phone) no_connection
    (λ live of handle is. may-not-know handle is) (λ live. absurd (absent-live live))))

list_agrees : AgreesBy (answering lists_what_is_refused) phone secret (phone_at door) (phone_at other_door) (Of 0 lists) (Of 0 lists)
unfolding lists_what_is_refused live_effect form_of
list_agrees = record {
  following = secret;
  matched = (refl, refl);
  hides = hides;
  hides_then = hides-after lists_what_is_refused lists (λ live of handle is. may-not-know handle is);
  spared = λ other. refl;
  spared_too = λ other. refl;
}

equality_agrees : AgreesBy (answering compares_what_is_refused) phone secret (phone_at door) (phone_at other_door) (Of 0 compares) (Of 0 compares)
unfolding compares_what_is_refused live_effect form_of
equality_agrees = record {
  following = secret;
  matched = (refl, refl);
  hides = hides;
  hides_then = hides-after compares_what_is_refused compares (λ live of handle is. may-not-know handle is);
  spared = λ other. refl;
  spared_too = λ other. refl;
}

-- the PDUs that are queued for a connection
abbrev queued : ConnectionState → List Octets
queued connection = map (λ (pdu : Pdu). pdu.1) connection.pdus

-- the list contains the value at handle 17
abbrev listed : ℕ → List Octets
listed octet = (0x09 ∷ 0x03 ∷ 0x0F ∷ 0x00 ∷ 0x01 ∷ 0x11 ∷ 0x00 ∷ octet ∷ 0x13 ∷ 0x00 ∷ 0x03 ∷ []) ∷ []

list_at_door : queued ((step_of (answering lists_what_is_refused) (phone_at door) (Of 0 lists)).connections 0) ≡ listed 0x02
unfolding lists_what_is_refused live_effect after_hearing commands_due form_of pieces
list_at_door = refl

list_at_other_door : queued ((step_of (answering lists_what_is_refused) (phone_at other_door) (Of 0 lists)).connections 0) ≡ listed 0x09
unfolding lists_what_is_refused live_effect after_hearing commands_due form_of pieces
list_at_other_door = refl

lists_differ : listed 0x02 ≡ listed 0x09 → ⊥
lists_differ is = cc is

list_breaks_keeps_alike : KeepsAlikeBy (answering lists_what_is_refused) → ⊥
unfolding live_effect after_hearing commands_due form_of
list_breaks_keeps_alike keeps =
    let alike = keeps phone secret (phone_at door) (phone_at other_door) (Of 0 lists) (Of 0 lists) doors_alike list_agrees in
    lists_differ (sym list_at_door ∙ ap queued (alike.own 0 refl) ∙ list_at_other_door)

list_packets_differ : packets_by (answering lists_what_is_refused) 0 (phone_at door) (Of 0 lists)
    ≡ packets_by (answering lists_what_is_refused) 0 (phone_at other_door) (Of 0 lists) → ⊥
unfolding lists_what_is_refused live_effect after_hearing commands_due form_of pieces
list_packets_differ is = cc is

list_breaks_gives_the_same : GivesTheSameBy (answering lists_what_is_refused) → ⊥
list_breaks_gives_the_same gives =
    list_packets_differ (gives phone secret (phone_at door) (phone_at other_door) (Of 0 lists) (Of 0 lists) doors_alike list_agrees 0 (λ there. refl))

-- handle 17 is found by its value in one of them only
abbrev found : List Octets
found = (0x07 ∷ 0x11 ∷ 0x00 ∷ 0x11 ∷ 0x00 ∷ []) ∷ []

abbrev found_nothing : List Octets
found_nothing = (0x01 ∷ 0x06 ∷ 0x01 ∷ 0x00 ∷ 0x0A ∷ []) ∷ []

equality_at_door : queued ((step_of (answering compares_what_is_refused) (phone_at door) (Of 0 compares)).connections 0) ≡ found
unfolding compares_what_is_refused live_effect after_hearing commands_due form_of pieces
equality_at_door = refl

equality_at_other_door : queued ((step_of (answering compares_what_is_refused) (phone_at other_door) (Of 0 compares)).connections 0) ≡ found_nothing
unfolding compares_what_is_refused live_effect after_hearing commands_due form_of pieces
equality_at_other_door = refl

found_differs : found ≡ found_nothing → ⊥
found_differs is = cc is

equality_breaks_keeps_alike : KeepsAlikeBy (answering compares_what_is_refused) → ⊥
unfolding live_effect after_hearing commands_due form_of
equality_breaks_keeps_alike keeps =
    let alike = keeps phone secret (phone_at door) (phone_at other_door) (Of 0 compares) (Of 0 compares) doors_alike equality_agrees in
    found_differs (sym equality_at_door ∙ ap queued (alike.own 0 refl) ∙ equality_at_other_door)

equality_packets_differ : packets_by (answering compares_what_is_refused) 0 (phone_at door) (Of 0 compares)
    ≡ packets_by (answering compares_what_is_refused) 0 (phone_at other_door) (Of 0 compares) → ⊥
unfolding compares_what_is_refused live_effect after_hearing commands_due form_of pieces
equality_packets_differ is = cc is

equality_breaks_gives_the_same : GivesTheSameBy (answering compares_what_is_refused) → ⊥
equality_breaks_gives_the_same gives =
    equality_packets_differ
    (gives phone secret (phone_at door) (phone_at other_door) (Of 0 compares) (Of 0 compares) doors_alike equality_agrees 0 (λ there. refl))
