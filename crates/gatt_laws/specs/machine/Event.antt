-- The events of a host, each one whole packet or one call (this profile's own).
use Rattle.std.specs.Prelude.{ℕ, List, Option}
use Rattle.att_numbers.specs.Types.{Handle}
use Rattle.att_table.specs.Table.{Contents}
use Rattle.le_hci.specs.declared.init.Init.{Init}
use Rattle.le_hci.specs.declared.peer.Peer.{Peer}
use Rattle.octet_io.specs.Number.{Octets}

-- A connection, by its place in the order of acceptance, which no other ever has.
abbrev pub Ordinal : Type 0
Ordinal = ℕ

-- The events of one connection; `Asks` is a PDU of the Attribute Protocol, and the application
-- causes `Authorized` and `Ended`.
pub data Own : Type 0 where
  Connected : (handle : ℕ) (peer : Peer) → Own
  Disconnected : Own
  KeyAsked : (random_number : Octets) (diversifier : ℕ) → Own
  Encrypted : (status enabled : ℕ) → Own
  Refreshed : (status : ℕ) → Own
  Asks : (pdu : Octets) → Own
  OtherChannel : (channel : ℕ) (payload : Octets) → Own
  Authorized : (until : ℕ) → Own
  Ended : Own

-- The events of a host, by any names of connections. `Credit` answers a command, with the number of
-- commands that the controller now accepts, and with the next state of initialisation if that
-- awaited the answer.
pub data Happening (C : Type 0) : Type 0 where
  Of : (connection : C) (own : Own) → Happening C
  Completed : (entries : List (C × ℕ)) → Happening C
  Credit : (allowed opcode : ℕ) (status : Option ℕ) (following : Option Init) → Happening C
  Update : (handle : Handle) (value : Octets) → Happening C
  Tick : (time : ℕ) → Happening C
  Replaced : (table : Contents) → Happening C
  Nothing : Happening C

abbrev pub Event : Type 0
Event = Happening Ordinal
