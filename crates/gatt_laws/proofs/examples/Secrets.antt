-- A value that a phone may not read, and of which it has asked to be notified: another phone, which is authorized, writes a
-- part of it and reads it. Whatever the rest of it is, the first phone is given the same.
use Rattle.std.proofs.Common.{◌≡◌, ℕ, Bool, true, false, ◌&&◌, ◌||◌, List, [], ◌∷◌, ◌++◌, map, Option, Some, None, refl, sym, ap, ◌∙◌, arith}
use Rattle.std.specs.Prelude.{not}
use Rattle.att_numbers.specs.Types.{Handle}
use Rattle.att_attributes.specs.Attributes.{type_at}
use Rattle.att_attributes.specs.Group.{is_service_type}
use Rattle.att_table.specs.Table.{Contents}
use Rattle.att_writes.proofs.Lengths.{stored_both}
use Rattle.gatt_laws.proofs.isolation.NothingCrosses.{HasHandles, crosses_nowhere}
use Rattle.gatt_laws.proofs.examples.Runs.{host, initialised, connected, asks, frame}
use Rattle.gatt_laws.proofs.examples.Tables.{table_of, declaration, value_of, configuration, guard, authorized, no_need, phone, tablet}
use Rattle.gatt_laws.specs.laws.Alike.{is_of}
use Rattle.gatt_laws.specs.machine.Calls.{AuthorizeCall}
use Rattle.gatt_laws.specs.machine.Controller.{commands_due}
use Rattle.gatt_laws.specs.machine.Event.{Event, Of, Completed, Credit, Update, Tick, Replaced, Nothing}
use Rattle.gatt_laws.specs.machine.Heard.{after_hearing}
use Rattle.gatt_laws.specs.machine.Input.{after_items, Item, AnOctet, APacket, ACall, ATable, TheEnd, Run, after_item, run_at_start, run}
use Rattle.gatt_laws.specs.machine.ItemEvents.{event_at}
use Rattle.gatt_laws.specs.laws.NothingCrosses.{is_replaced, IsTableToo, ItemsAgree, hidden_while, Agree, InputsAgree, SparedIf, SparedIn, packets_given_by}
use Rattle.gatt_laws.specs.machine.Packets.{packet_event}
use Rattle.gatt_laws.specs.laws.Possible.{AllTables}
use Rattle.gatt_laws.specs.machine.State.{State, step, change_of, out}
use Rattle.gatt_laws.specs.machine.Effect.{live_effect}
use Rattle.gatt_laws.specs.laws.TwoWorlds.{finds_no_room}
use Rattle.le_acl.specs.Frame.{frame_at}
use Rattle.le_acl.specs.Packets.{pieces}
use Rattle.le_h4.specs.Packet.{First, FirstPacket, NoneYet, NoPacket, first_of}
use Rattle.le_hci.specs.declared.peer.Peer.{Peer}
use Rattle.att_pdu.specs.Form.{form_of}
use Rattle.att_writes.specs.Applied.{after_entries}
use Rattle.att_reads.specs.Answer.{value_answer}
use Rattle.octet_io.proofs.Choices.{and_true_left, and_true_right}
use Rattle.octet_io.specs.Number.{Octets}

-- a value of two octets, the first of which differs, that is read where the client is authorized, and written by all
abbrev safe : ℕ → Contents
safe octet = table_of (
    declaration 1 0x2800 (0xFB ∷ 0xFF ∷ []) 2
    ∷ declaration 2 0x2803 (0x1A ∷ 0x03 ∷ 0x00 ∷ 0xFC ∷ 0xFF ∷ []) 5
    ∷ value_of 3 0xFFFC (octet ∷ 0x00 ∷ []) 2 true (guard 0x1A authorized no_need)
    ∷ configuration 4 no_need
    ∷ [])

abbrev first-packet : First → List Item
first-packet (FirstPacket packet rest) = APacket packet ∷ []
first-packet NoneYet = []
first-packet (NoPacket indicator) = []

abbrev packet : Octets → List Item
packet octets = first-packet (first_of octets)

abbrev stream-of : Octets → List Item
stream-of octets = map AnOctet octets

-- the other phone has the next handle
abbrev other_connected : Octets
other_connected =
    0x04 ∷ 0x3E ∷ 0x13 ∷ 0x01 ∷ 0x00 ∷ 0x41 ∷ 0x00 ∷ 0x01 ∷ 0x01
    ∷ 0x01 ∷ 0x00 ∷ 0x00 ∷ 0x00 ∷ 0x00 ∷ 0xC0 ∷ 0x18 ∷ 0x00 ∷ 0x00 ∷ 0x00 ∷ 0x48 ∷ 0x00 ∷ 0x00 ∷ []

abbrev other_asks : Octets → Octets
other_asks pdu = 0x02 ∷ 0x41 ∷ 0x20 ∷ frame pdu

abbrev played : List Item
played =
    stream-of (initialised 8) ++ packet (connected phone) ++ packet other_connected ++ ACall (AuthorizeCall 0x0041 1000) ∷ []
    ++ packet (asks (0x12 ∷ 0x04 ∷ 0x00 ∷ 0x01 ∷ 0x00 ∷ [])) ++ packet (asks (0x0A ∷ 0x03 ∷ 0x00 ∷ []))
    ++ packet (other_asks (0x16 ∷ 0x03 ∷ 0x00 ∷ 0x01 ∷ 0x00 ∷ 0x41 ∷ [])) ++ packet (other_asks (0x18 ∷ 0x01 ∷ []))
    ++ packet (other_asks (0x0A ∷ 0x03 ∷ 0x00 ∷ []))

-- what they are given: the value goes to the other phone alone
abbrev of_phone : List Octets
of_phone =
    (0x02 ∷ 0x40 ∷ 0x00 ∷ frame (0x13 ∷ [])) ∷ (0x02 ∷ 0x40 ∷ 0x00 ∷ frame (0x01 ∷ 0x0A ∷ 0x03 ∷ 0x00 ∷ 0x08 ∷ [])) ∷ []

given_to_phone : packets_given_by phone 0 (run_at_start (host (safe 0) 2)) played ≡ of_phone
unfolding after_item packet_event step change_of live_effect after_hearing commands_due out frame_at form_of pieces after_entries value_answer
given_to_phone = refl

given_to_other : packets_given_by tablet 1 (run_at_start (host (safe 7) 2)) played
    ≡ (0x02 ∷ 0x41 ∷ 0x00 ∷ frame (0x17 ∷ 0x03 ∷ 0x00 ∷ 0x01 ∷ 0x00 ∷ 0x41 ∷ [])) ∷ (0x02 ∷ 0x41 ∷ 0x00 ∷ frame (0x19 ∷ []))
    ∷ (0x02 ∷ 0x41 ∷ 0x00 ∷ frame (0x0B ∷ 0x07 ∷ 0x41 ∷ [])) ∷ []
unfolding after_item packet_event step change_of live_effect after_hearing commands_due out frame_at form_of pieces after_entries value_answer
given_to_other = refl

-- the first phone may know of it at no moment
secret : hidden_while phone (run_at_start (host (safe 0) 2)) played 3 ≡ true
unfolding after_item packet_event step change_of live_effect after_hearing commands_due out frame_at form_of pieces after_entries value_answer
secret = refl

-- Whether the others are spared can be tested.

is_spared : Peer → State → Option Event → Bool
is_spared peer state (Some (Of ordinal own)) = is_of peer (state.connections ordinal) || not (finds_no_room state.shared (state.connections ordinal) own)
is_spared peer state event = true

are_spared : Peer → Run → List Item → Bool
are_spared peer run [] = true
are_spared peer run (item ∷ items) = is_spared peer run.intake.state (event_at run.intake item) && are_spared peer (after_item run item) items

or-not : (one other : Bool) → (one || not other) ≡ true → one ≡ false → other ≡ false
or-not false false is none = refl
or-not false true is none = cc is
or-not true other is none = cc none

spared-one : (peer : Peer) (state : State) (event : Option Event) → is_spared peer state event ≡ true → SparedIf peer state event
unfolding is_spared
spared-one peer state None is = tt
spared-one peer state (Some (Of ordinal own)) is =
    or-not (is_of peer (state.connections ordinal)) (finds_no_room state.shared (state.connections ordinal) own) is
spared-one peer state (Some (Completed entries)) is = tt
spared-one peer state (Some (Credit allowed opcode status following)) is = tt
spared-one peer state (Some (Update handle value)) is = tt
spared-one peer state (Some (Tick time)) is = tt
spared-one peer state (Some (Replaced table)) is = tt
spared-one peer state (Some Nothing) is = tt

spared-all : (peer : Peer) (run : Run) (items : List Item) → are_spared peer run items ≡ true → SparedIn peer run items
unfolding are_spared
spared-all peer run [] is = tt
spared-all peer run (item ∷ items) is = (
  spared-one peer run.intake.state (event_at run.intake item) (and_true_left (is_spared peer run.intake.state (event_at run.intake item)) _ is),
  spared-all peer (after_item run item) items (and_true_right (is_spared peer run.intake.state (event_at run.intake item)) _ is),
)

-- no table is replaced here
no_table : List Item → Bool
no_table [] = true
no_table (ATable table ∷ items) = false
no_table (item ∷ items) = no_table items

same-input : (peer : Peer) (run : Run) (items : List Item) → no_table items ≡ true → InputsAgree peer run items items
unfolding no_table
same-input peer run [] none = tt
same-input peer run (AnOctet octet ∷ items) none = (refl, same-input peer (after_item run (AnOctet octet)) items none)
same-input peer run (APacket packet ∷ items) none = (refl, same-input peer (after_item run (APacket packet)) items none)
same-input peer run (ACall call ∷ items) none = (refl, same-input peer (after_item run (ACall call)) items none)
same-input peer run (ATable table ∷ items) none = cc none
same-input peer run (TheEnd ∷ items) none = (refl, same-input peer (after_item run TheEnd) items none)

all-tables : (items : List Item) → no_table items ≡ true → AllTables HasHandles items
unfolding no_table
all-tables [] none = tt
all-tables (AnOctet octet ∷ items) none = all-tables items none
all-tables (APacket packet ∷ items) none = all-tables items none
all-tables (ACall call ∷ items) none = all-tables items none
all-tables (ATable table ∷ items) none = cc none
all-tables (TheEnd ∷ items) none = all-tables items none

-- So all premises hold, whatever the first octet is in the other run.

hidden-there : (hidden : Handle → Bool) → hidden 3 ≡ true → (hidden 3 && not false) ≡ false → ⊥
hidden-there hidden is shown = cc (sym (ap (λ (h : Bool). h && not false) is) ∙ shown)

agree : (octet : ℕ) → Agree phone (host (safe 0) 2) (host (safe octet) 2) played played
unfolding no_table
agree octet =
    let hidden : Handle → Bool = hidden_while phone (run_at_start (host (safe 0) 2)) played in
    let values = (safe 0).values in
    record {
      starts = record {
        table = record {
          attributes = refl;
          values = stored_both (λ handle. hidden handle && not (is_service_type (type_at (safe 0).attributes handle))) values values 3 (0x00 ∷ 0x00 ∷ [])
              (octet ∷ 0x00 ∷ []) (omega arith)
              (record { count = refl; lengths = λ handle used. refl; shown = λ handle used shown. refl }) refl
              (λ shown. absurd (hidden-there hidden secret shown));
        };
        rest = refl;
      };
      inputs = same-input phone (run_at_start (host (safe 0) 2)) played refl;
    }

spared : (octet : ℕ) → are_spared phone (run_at_start (host (safe octet) 2)) played ≡ true
unfolding are_spared is_spared after_item packet_event step change_of live_effect after_hearing commands_due out frame_at form_of pieces after_entries
    value_answer
spared octet = refl

-- and the phone is given the same
no_secret_told : (octet : ℕ) → packets_given_by phone 0 (run_at_start (host (safe octet) 2)) played ≡ of_phone
unfolding no_table
no_secret_told octet =
    sym (crosses_nowhere phone (host (safe 0) 2) (host (safe octet) 2) played played (refl, (refl, (refl, (refl, tt)))) (all-tables played refl) (agree octet)
    (spared-all phone (run_at_start (host (safe 0) 2)) played (spared 0)) (spared-all phone (run_at_start (host (safe octet) 2)) played (spared octet)) 0)
    ∙ given_to_phone

-- The same of a table that replaces another.

abbrev fence : ℕ → Contents
fence octet = table_of (
    declaration 1 0x2800 (0x01 ∷ 0x18 ∷ []) 2
    ∷ declaration 2 0x2803 (0x20 ∷ 0x03 ∷ 0x00 ∷ 0x05 ∷ 0x2A ∷ []) 5
    ∷ value_of 3 0x2A05 (0x00 ∷ 0x00 ∷ 0x00 ∷ 0x00 ∷ []) 4 true (guard 0x20 no_need no_need)
    ∷ configuration 4 no_need
    ∷ declaration 5 0x2800 (0xF0 ∷ 0xFF ∷ []) 2
    ∷ declaration 6 0x2803 (0x1A ∷ 0x07 ∷ 0x00 ∷ 0xF1 ∷ 0xFF ∷ []) 5
    ∷ value_of 7 0xFFF1 (octet ∷ 0x00 ∷ []) 2 true (guard 0x1A authorized no_need)
    ∷ configuration 8 no_need
    ∷ [])

abbrev before : List Item
before =
    stream-of (initialised 8) ++ packet (connected phone) ++ packet other_connected ++ ACall (AuthorizeCall 0x0041 1000) ∷ []
    ++ packet (asks (0x12 ∷ 0x08 ∷ 0x00 ∷ 0x01 ∷ 0x00 ∷ []))

abbrev behind : List Item
behind =
    packet (other_asks (0x16 ∷ 0x07 ∷ 0x00 ∷ 0x01 ∷ 0x00 ∷ 0x41 ∷ [])) ++ packet (other_asks (0x18 ∷ 0x01 ∷ []))
    ++ packet (other_asks (0x0A ∷ 0x07 ∷ 0x00 ∷ [])) ++ packet (asks (0x0A ∷ 0x07 ∷ 0x00 ∷ []))

abbrev replaced_by : ℕ → List Item
replaced_by octet = before ++ ATable (fence octet) ∷ behind

abbrev at_fence : Run
at_fence = run_at_start (host (fence 0) 2)

new_to_phone : packets_given_by phone 0 at_fence (replaced_by 1)
    ≡ (0x02 ∷ 0x40 ∷ 0x00 ∷ frame (0x13 ∷ [])) ∷ (0x02 ∷ 0x40 ∷ 0x00 ∷ frame (0x01 ∷ 0x0A ∷ 0x07 ∷ 0x00 ∷ 0x08 ∷ [])) ∷ []
unfolding after_item packet_event step change_of live_effect after_hearing commands_due out frame_at form_of pieces after_entries value_answer
new_to_phone = refl

new_to_other : packets_given_by tablet 1 at_fence (replaced_by 9)
    ≡ (0x02 ∷ 0x41 ∷ 0x00 ∷ frame (0x17 ∷ 0x07 ∷ 0x00 ∷ 0x01 ∷ 0x00 ∷ 0x41 ∷ [])) ∷ (0x02 ∷ 0x41 ∷ 0x00 ∷ frame (0x19 ∷ []))
    ∷ (0x02 ∷ 0x41 ∷ 0x00 ∷ frame (0x0B ∷ 0x09 ∷ 0x41 ∷ [])) ∷ []
unfolding after_item packet_event step change_of live_effect after_hearing commands_due out frame_at form_of pieces after_entries value_answer
new_to_other = refl

abbrev after_replacement : Run
after_replacement = after_item (after_items at_fence before) (ATable (fence 1))

new_secret : hidden_while phone after_replacement behind 7 ≡ true
unfolding after_item packet_event step change_of live_effect after_hearing commands_due out frame_at form_of pieces after_entries value_answer
new_secret = refl

table-stands : is_replaced (after_items at_fence before).intake (ATable (fence 1)) ≡ true
unfolding after_item packet_event step change_of live_effect after_hearing commands_due out frame_at form_of pieces after_entries value_answer
table-stands = refl

new-spared : (octet : ℕ) → are_spared phone at_fence (replaced_by octet) ≡ true
unfolding are_spared is_spared after_item packet_event step change_of live_effect after_hearing commands_due out frame_at form_of pieces after_entries
    value_answer
new-spared octet = refl

-- the same items before others
same-before : (peer : Peer) (run : Run) (items rest others : List Item) → no_table items ≡ true → InputsAgree peer (after_items run items) rest others
    → InputsAgree peer run (items ++ rest) (items ++ others)
unfolding no_table
same-before peer run [] rest others none later = later
same-before peer run (AnOctet octet ∷ items) rest others none later = (refl, same-before peer (after_item run (AnOctet octet)) items rest others none later)
same-before peer run (APacket packet ∷ items) rest others none later = (refl, same-before peer (after_item run (APacket packet)) items rest others none later)
same-before peer run (ACall call ∷ items) rest others none later = (refl, same-before peer (after_item run (ACall call)) items rest others none later)
same-before peer run (ATable table ∷ items) rest others none later = cc none
same-before peer run (TheEnd ∷ items) rest others none later = (refl, same-before peer (after_item run TheEnd) items rest others none later)

tables-before : (items rest : List Item) → no_table items ≡ true → AllTables HasHandles rest → AllTables HasHandles (items ++ rest)
unfolding no_table
tables-before [] rest none tables = tables
tables-before (AnOctet octet ∷ items) rest none tables = tables-before items rest none tables
tables-before (APacket packet ∷ items) rest none tables = tables-before items rest none tables
tables-before (ACall call ∷ items) rest none tables = tables-before items rest none tables
tables-before (ATable table ∷ items) rest none tables = cc none
tables-before (TheEnd ∷ items) rest none tables = tables-before items rest none tables

hidden-then : (hidden : Handle → Bool) → hidden 7 ≡ true → (hidden 7 && not false) ≡ false → ⊥
hidden-then hidden is shown = cc (sym (ap (λ (h : Bool). h && not false) is) ∙ shown)

new-tables-agree : (octet : ℕ) → IsTableToo (hidden_while phone after_replacement behind) (fence 1) (ATable (fence octet))
new-tables-agree octet =
    let hidden : Handle → Bool = hidden_while phone after_replacement behind in
    let values = (fence 1).values in
    record {
      its = fence octet;
      is = refl;
      agree = record {
        attributes = refl;
        values = stored_both (λ handle. hidden handle && not (is_service_type (type_at (fence 1).attributes handle))) values values 7 (0x01 ∷ 0x00 ∷ [])
            (octet ∷ 0x00 ∷ []) (omega arith)
            (record { count = refl; lengths = λ handle used. refl; shown = λ handle used shown. refl }) refl
            (λ shown. absurd (hidden-then hidden new_secret shown));
      };
    }

items-agree : (octet : ℕ) (replaced : Bool) → replaced ≡ true → ItemsAgree (hidden_while phone after_replacement behind) replaced (ATable (fence 1))
    (ATable (fence octet))
items-agree octet true is = new-tables-agree octet
items-agree octet false is = cc is

new-agree : (octet : ℕ) → Agree phone (host (fence 0) 2) (host (fence 0) 2) (replaced_by 1) (replaced_by octet)
unfolding no_table
new-agree octet = record {
  starts = record {
    table = record { attributes = refl; values = record { count = refl; lengths = λ handle used. refl; shown = λ handle used shown. refl } };
    rest = refl;
  };
  inputs = same-before phone at_fence before (ATable (fence 1) ∷ behind) (ATable (fence octet) ∷ behind) refl
      (items-agree octet (is_replaced (after_items at_fence before).intake (ATable (fence 1))) table-stands, same-input phone after_replacement behind refl);
}

no_new_secret_told : (octet : ℕ) → packets_given_by phone 0 at_fence (replaced_by octet)
    ≡ (0x02 ∷ 0x40 ∷ 0x00 ∷ frame (0x13 ∷ [])) ∷ (0x02 ∷ 0x40 ∷ 0x00 ∷ frame (0x01 ∷ 0x0A ∷ 0x07 ∷ 0x00 ∷ 0x08 ∷ [])) ∷ []
unfolding no_table
no_new_secret_told octet =
    let handles : HasHandles (fence 1) = (refl, (refl, (refl, (refl, (refl, (refl, (refl, (refl, tt)))))))) in
    sym (crosses_nowhere phone (host (fence 0) 2) (host (fence 0) 2) (replaced_by 1) (replaced_by octet) handles
    (tables-before before (ATable (fence 1) ∷ behind) refl (handles, all-tables behind refl)) (new-agree octet)
    (spared-all phone at_fence (replaced_by 1) (new-spared 1)) (spared-all phone at_fence (replaced_by octet) (new-spared octet)) 0)
    ∙ new_to_phone
