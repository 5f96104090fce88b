-- The data of a host as C reads them: a choice of this library.
use Rattle.std.specs.Prelude.{ℕ, ◌==◌, false, min, length, if◌then◌else◌, slice_get, Option, Some, None}
use Rattle.std.specs.Int.{w16, w128, from_le_bytes}
use Rattle.std.specs.Option.{option_map}
use Rattle.att_numbers.specs.AttributeType.{of_16_bits}
use Rattle.att_policy.specs.declared.standing.KeyFacts.{KeyFacts}
use Rattle.att_table.specs.Find.{value_found}
use Rattle.att_table.specs.Table.{Contents}
use Rattle.gatt_host.specs.Connections.{connections_in}
use Rattle.host_api.specs.declared.connection.Connection.{Connection}
use Rattle.gihandop_c.specs.declared.connections.ConnectionFields.{ConnectionFields}
use Rattle.gihandop_c.specs.declared.opened.Opened.{Opened}
use Rattle.octet_io.specs.Number.{Octets}

-- A UUID from octets, least significant first: 2 for a 16-bit UUID, or 16 (Core 5.0, Vol 3 Part F,
-- 3.2.1).
abbrev pub uuid_of : Octets → Option ℕ
uuid_of octets =
    if length octets == 2 then Some (of_16_bits (from_le_bytes w16 octets))
    else if length octets == 16 then Some (from_le_bytes w128 octets) else None

abbrev pub found_among : Contents → Option ℕ → Option ℕ → ℕ → Option ℕ
found_among table (Some service) (Some characteristic) number =
    value_found table service characteristic number
found_among table service characteristic number = None

-- The handle of a value by its number, from 1, among those of a characteristic type in services of
-- a type.
abbrev pub found_by : Contents → Octets → Octets → ℕ → Option ℕ
found_by table service characteristic number =
    found_among table (uuid_of service) (uuid_of characteristic) number

abbrev pub without_a_key : ℕ → Connection → ConnectionFields
without_a_key size connection = record {
  size = size;
  handle = connection.handle;
  mtu = connection.mtu;
  address_kind = connection.peer.kind;
  address = connection.peer.address;
  key_size = 0;
  authenticated = false;
  secure = false;
  ending = connection.ending;
  authorized_until = connection.authorized_until;
  ordinal = connection.ordinal;
  heard = connection.heard;
  slot = min connection.slot 255;
}

abbrev pub with_the_key : Option KeyFacts → ConnectionFields → ConnectionFields
with_the_key None fields = fields
with_the_key (Some facts) fields =
    record fields {
      key_size = facts.size;
      authenticated = facts.authenticated;
      secure = facts.secure;
    }

abbrev pub connection_fields : ℕ → Connection → ConnectionFields
connection_fields size connection = with_the_key connection.key (without_a_key size connection)

-- The connection at a place, in the order of slots.
abbrev pub connection_at : ℕ → Opened → ℕ → Option ConnectionFields
connection_at size opened place =
    option_map (connection_fields size) (slice_get (connections_in opened.host) place)
