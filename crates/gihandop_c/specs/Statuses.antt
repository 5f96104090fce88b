-- The status of each function with enough memory: a choice of this library.
use Rattle.std.specs.Prelude.{◌≡◌, ◌↔◌, ℕ, nat_le, nat_lt, Bool, false, ◌&&◌, ◌||◌, is_none, length, if◌then◌else◌, Option, Some, None}
use Rattle.att_attributes.specs.Attributes.{attribute_at}
use Rattle.att_table.specs.Table.{value_at}
use Rattle.gatt_host.specs.declared.host_fault.HostFault.{HostFault}
use Rattle.gatt_host.specs.HostModel.{all_out}
use Rattle.host_connections.specs.Slots.{slots_deadline}
use Rattle.gatt_subs.specs.RowsText.{rows_text}
use Rattle.gihandop_c.specs.declared.opened.Opened.{Opened}
use Rattle.gihandop_c.specs.declared.status.TheConstants.{BAD_SIZE, CLOSED, DONE, NOTHING, OUTPUT_OWED, SHORT_BUFFER}
use Rattle.gihandop_c.specs.declared.connections.TheConstants.{CONNECTION_SIZE}
use Rattle.gihandop_c.specs.declared.notices.TheConstants.{NOTICE_SIZE}
use Rattle.gihandop_c.specs.Boundary.{fault_status}
use Rattle.gihandop_c.specs.Seeing.{connection_at, found_by}
use Rattle.gihandop_c.specs.Telling.{next_notice}
use Rattle.gihandop_c.specs.Values.{values_saved}
use Rattle.gihandop_c.specs.declared.faulty_text.FaultyText.{FaultyText}
use Rattle.octet_io.specs.Number.{Octets}
use Rattle.gihandop_c.specs.declared.stream.TheConstants.{LONGEST_PACKET}

-- The status by the host, or `CLOSED` if none is open.
abbrev pub if_open : (Opened → ℕ) → Option Opened → ℕ
if_open status None = CLOSED
if_open status (Some opened) = status opened

abbrev pub room_status : ℕ → ℕ → ℕ
room_status length room = if nat_lt room length then SHORT_BUFFER else DONE

abbrev pub there_status : {A : Type 0} → Option A → ℕ
there_status None = NOTHING
there_status (Some it) = DONE

-- No input is accepted while a packet is pending.
abbrev pub outcome_status : Option HostFault → ℕ
outcome_status None = DONE
outcome_status (Some fault) = fault_status fault

abbrev pub take_status : Opened → Opened → ℕ
take_status old new = if all_out old.host then outcome_status new.host.fault else OUTPUT_OWED

-- A call returns `OUTPUT_OWED` if and only if a packet is pending.
abbrev pub WaitsForOutput : ℕ → Opened → Type 0
WaitsForOutput status opened = (status ≡ OUTPUT_OWED) ↔ (all_out opened.host ≡ false)

-- The status of the next packet: `NOTHING` comes before `SHORT_BUFFER`.
abbrev pub out_status : ℕ → Opened → ℕ
out_status room opened = if all_out opened.host then NOTHING else room_status LONGEST_PACKET room

-- A small structure is reported before all else.
abbrev pub sized_status : ℕ → ℕ → ℕ → ℕ
sized_status size needed status = if nat_lt size needed then BAD_SIZE else status

abbrev pub notice_status : ℕ → Opened → ℕ
notice_status size opened = sized_status size NOTICE_SIZE (there_status (next_notice size opened))

-- A missing attribute is reported before a short buffer.
abbrev pub value_status : ℕ → ℕ → Opened → ℕ
value_status handle room opened =
    if is_none (attribute_at opened.host.server.table.attributes handle) then NOTHING
    else room_status (length (value_at opened.host.server.table.values handle)) room

abbrev pub find_status : Octets → Octets → ℕ → Opened → ℕ
find_status service characteristic number opened =
    there_status (found_by opened.host.server.table service characteristic number)

abbrev pub connection_status : ℕ → ℕ → Opened → ℕ
connection_status size place opened =
    sized_status size CONNECTION_SIZE (there_status (connection_at size opened place))

abbrev pub deadline_status : Opened → ℕ
deadline_status opened =
    there_status (slots_deadline opened.host.server.time opened.host.server.slots)

abbrev pub rows_text_status : ℕ → Opened → ℕ
rows_text_status room opened = room_status (length (rows_text opened.host.server.rows)) room

abbrev pub values_text_status : ℕ → ℕ → Opened → ℕ
values_text_status all room opened = room_status (length (values_saved all opened)) room

-- A missing fault is reported before a short buffer.
abbrev pub explain_status : Option FaultyText → ℕ → ℕ → ℕ
explain_status None length room = NOTHING
explain_status (Some faulty) length room = room_status length room

-- The statuses that functions return.
abbrev pub is_between : ℕ → ℕ → ℕ → Bool
is_between first last status = nat_le first status && nat_le status last

abbrev pub is_status : ℕ → Bool
is_status status =
    is_between 0 8 status || is_between 21 24 status || is_between 41 47 status
    || is_between 101 111 status || is_between 201 210 status || is_between 301 304 status
    || is_between 401 401 status

abbrev pub text_status : ℕ → ℕ → ℕ → ℕ
text_status status length room = if is_status status then room_status length room else NOTHING
