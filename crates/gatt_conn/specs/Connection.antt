-- The contracts' view of a connection.
use Rattle.std.specs.Prelude.{min, max, Bool, true, false, if◌then◌else◌, List, [], Option, None}
use Rattle.att_numbers.specs.Types.{Mtu}
use Rattle.att_policy.specs.declared.standing.Standing.{Standing}
use Rattle.att_writes.specs.Entry.{Entry}
use Rattle.att_pdu.specs.declared.pdu_buf.TheConstants.{MIN_MTU}

-- A connection: `rx_mtu` is the server's MTU, `exchanged` is set after an exchange.
pub record Bearer : Type 0 where
  pub standing : Standing
  pub mtu : Mtu
  pub rx_mtu : Mtu
  pub exchanged : Bool
  pub queue : List Entry

-- A new connection: unknown peer, no encryption, no authorization, least ATT_MTU (Core 5.0, Vol 3
-- Part G, 5.2.1), empty queue.
abbrev pub new_connection : Mtu → Bearer
new_connection rx_mtu = record {
  standing = record { key = None; key_known = false; until = 0; now = 0 };
  mtu = MIN_MTU;
  rx_mtu = rx_mtu;
  exchanged = false;
  queue = [];
}

-- The ATT_MTU is the lesser MTU of both sides, but no less than `MIN_MTU` (Core 5.0, Vol 3 Part F,
-- 3.4.2.2). (P-ATT-1)
abbrev pub mtu_between : Mtu → Mtu → Mtu
mtu_between client_rx_mtu server_rx_mtu = max MIN_MTU (min client_rx_mtu server_rx_mtu)

-- Only the first exchange sets the ATT_MTU (this profile's own).
abbrev pub after_exchange : Bearer → Mtu → Bearer
after_exchange conn client_rx_mtu =
    if conn.exchanged then conn
    else record conn { mtu = mtu_between client_rx_mtu conn.rx_mtu; exchanged = true }
