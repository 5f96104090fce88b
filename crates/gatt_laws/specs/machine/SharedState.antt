-- The state that all connections share (this profile's own).
use Rattle.std.specs.Prelude.{ℕ, Bool, List, Option, Some, None}
use Rattle.att_numbers.specs.Types.{Handle, Mtu, Row}
use Rattle.att_table.specs.Table.{Contents}
use Rattle.le_acl.specs.Shares.{share, acl_len}
use Rattle.le_hci.specs.declared.buffers.Buffers.{Buffers}
use Rattle.le_hci.specs.declared.peer.Peer.{Peer}
use Rattle.le_security.specs.declared.entry.Entry.{Entry}

-- `changer` is the handle of the table's Service Changed value, `slots` the largest number of
-- connections, and `rx_mtu` the largest PDU that the server receives.
pub record SharedState : Type 0 where
  pub table : Contents
  pub changer : Option Handle
  pub keys : List Entry
  pub slots : ℕ
  pub rx_mtu : Mtu
  pub time : ℕ
  pub buffers : Option Buffers

-- The packets of one connection that the controller may have at once, and the octets of data in
-- each.
abbrev pub share_of : ℕ → Option Buffers → ℕ
share_of slots None = 0
share_of slots (Some buffers) = share slots buffers.packets

abbrev pub fragment_size_of : Option Buffers → ℕ
fragment_size_of None = 0
fragment_size_of (Some buffers) = acl_len buffers.length

abbrev pub Bonds : Type 0
Bonds = Peer → Row

abbrev pub ServiceChangedPending : Type 0
ServiceChangedPending = Peer → Bool
