-- The opening of a host, which this profile defines.
use Rattle.std.specs.Prelude.{Bool, ◌&&◌, if◌then◌else◌, List, []}
use Rattle.att_table.specs.Changer.{changer_of}
use Rattle.att_table.specs.Table.{Contents}
use Rattle.gatt_host.specs.declared.config.Config.{Config}
use Rattle.gatt_host.specs.declared.last_event.LastEvent.TheVariants as last
use Rattle.gatt_host.specs.ServerState.{ServerState}
use Rattle.gatt_laws.specs.machine.SharedState.{Bonds, ServiceChangedPending}
use Rattle.gatt_laws.specs.machine.Start.{Start, may_be_opened, new_controller}
use Rattle.host_connections.specs.Slots.{SlotStates}
use Rattle.gatt_subs.specs.Fit.{fitted_bond}
use Rattle.gatt_subs.specs.Rows.{Subscriptions}
use Rattle.le_security.specs.declared.entry.Entry.{Entry}
use Rattle.le_security.specs.Keys.{is_known}

abbrev pub is_configured : Config → Bool
is_configured config = may_be_opened config.slots config.rx_mtu config.address

-- The rows that fit the keys and the table are retained.
abbrev pub bonds_fitted : Contents → List Entry → Subscriptions → Bonds
bonds_fitted table keys rows peer = if is_known keys peer then (fitted_bond table rows peer).row
    else []

abbrev pub owed_fitted : Contents → List Entry → Subscriptions → ServiceChangedPending
owed_fitted table keys rows peer = is_known keys peer && (fitted_bond table rows peer).owed

abbrev pub start_of : Contents → List Entry → Subscriptions → Config → Start
start_of table keys rows config = record {
  table = table;
  keys = keys;
  bonds = bonds_fitted table keys rows;
  owed = owed_fitted table keys rows;
  slots = config.slots;
  rx_mtu = config.rx_mtu;
  address = config.address;
  advertising = config.advertising;
}

-- The first state, with rows that fit the keys and the table.
abbrev pub held_at_first : Contents → List Entry → Subscriptions → SlotStates → Config → ServerState
held_at_first table keys rows slots config = record {
  table = table;
  changer = changer_of table;
  keys = keys;
  rows = rows;
  rx_mtu = config.rx_mtu;
  time = 0;
  controller = new_controller (start_of table keys rows config);
  slots = slots;
  last = last.Quiet;
  written = [];
  late = [];
  skipped = [];
}
