-- The start of a host (this profile's own).
use Rattle.std.specs.Prelude.{ℕ, false, List, [], Option, None, Bool, true, nat_le, ◌&&◌, slice_index_or}
use Rattle.std.specs.Option.{option_map_or}
use Rattle.arrayvec.specs.ArrayVec.{ArrayVec}
use Rattle.att_numbers.specs.Types.{Mtu}
use Rattle.att_table.specs.Changer.{changer_of}
use Rattle.att_table.specs.Table.{Contents}
use Rattle.gatt_laws.specs.machine.Controller.{Controller}
use Rattle.gatt_laws.specs.machine.ConnectionState.{no_connection}
use Rattle.gatt_laws.specs.machine.SharedState.{SharedState, Bonds, ServiceChangedPending}
use Rattle.gatt_laws.specs.machine.State.{State, with_commands_sent, commands_out}
use Rattle.le_hci.specs.Init.{first_state}
use Rattle.le_security.specs.declared.entry.Entry.{Entry}
use Rattle.octet_io.specs.Number.{Octets}
use Rattle.att_pdu.specs.declared.pdu_buf.TheConstants.{MAX_MTU, MIN_MTU}
use Rattle.host_api.specs.declared.TheConstants.{MAX_SLOTS}

-- `owed` has the peers with a pending Service Changed, `slots` is the largest number of
-- connections, `rx_mtu` the largest PDU that is received; the address is random, or else the public
-- one.
pub record Start : Type 0 where
  pub table : Contents
  pub keys : List Entry
  pub bonds : Bonds
  pub owed : ServiceChangedPending
  pub slots : ℕ
  pub rx_mtu : Mtu
  pub address : Option Octets
  pub advertising : ArrayVec ℕ

-- A static random address has its two most significant bits set (Core 5.0, Vol 6 Part B, 1.3.2.1);
-- the other limits are this profile's own.
abbrev pub is_static : Octets → Bool
is_static address = nat_le 0xC0 (slice_index_or address 5 0)

abbrev pub may_be_opened : ℕ → Mtu → Option Octets → Bool
may_be_opened slots rx_mtu address =
    nat_le 1 slots && nat_le slots MAX_SLOTS && nat_le MIN_MTU rx_mtu && nat_le rx_mtu MAX_MTU
    && option_map_or is_static address true

-- The controller accepts one command before it answers any (Core 5.0, Vol 2 Part E, 4.4).
abbrev pub new_controller : Start → Controller
new_controller start = record {
  credit = 1;
  init = first_state start.address start.advertising;
  awaiting = false;
  advertising = false;
  refused = false;
}

abbrev pub new_shared_state : Start → SharedState
new_shared_state start = record {
  table = start.table;
  changer = changer_of start.table;
  keys = start.keys;
  slots = start.slots;
  rx_mtu = start.rx_mtu;
  time = 0;
  buffers = None;
}

abbrev pub before_first_command : Start → State
before_first_command start = record {
  shared = new_shared_state start;
  bonds = start.bonds;
  owed = start.owed;
  connections = λ ordinal. no_connection;
  slots = [];
  next = 0;
  controller = new_controller start;
}

abbrev pub state_at : Start → State
state_at start = with_commands_sent (before_first_command start)

abbrev pub first_out : Start → List Octets
first_out start = commands_out (before_first_command start)
