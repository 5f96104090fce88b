-- The words of the examples: what the controller sends, and what the host sends.
use Rattle.std.specs.Prelude.{ℕ, ◌+◌, false, List, [], ◌∷◌, ◌++◌, length, map, drop, replicate, None}
use Rattle.att_table.specs.Table.{Contents}
use Rattle.gatt_laws.specs.machine.Calls.{UpdateCall, AuthorizeCall, DisconnectCall, TickCall}
use Rattle.gatt_laws.specs.machine.Input.{Item, AnOctet, ACall, run}
use Rattle.gatt_laws.specs.machine.Start.{Start}
use Rattle.gatt_laws.proofs.examples.Tables.{keys}
use Rattle.le_hci.specs.declared.peer.Peer.{Peer}
use Rattle.octet_io.specs.Number.{Octets, two_octets}

-- a host of a table, with so many slots
abbrev pub host : Contents → ℕ → Start
host table slots = record {
  table = table;
  keys = keys;
  bonds = λ peer. [];
  owed = λ peer. false;
  slots = slots;
  rx_mtu = 247;
  address = None;
  advertising = record { items = 0x02 ∷ 0x01 ∷ 0x06 ∷ [] };
}

abbrev pub stream : Octets → List Item
stream octets = map AnOctet octets

abbrev pub command_complete : ℕ → Octets
command_complete opcode = 0x04 ∷ 0x0E ∷ 0x04 ∷ 0x01 ∷ two_octets opcode ++ 0x00 ∷ []

-- what the controller answers until it advertises: it takes so many packets of 27 octets
abbrev pub initialised : ℕ → Octets
initialised packets =
    command_complete 0x0C03 ++ command_complete 0x0C01 ++ command_complete 0x2001
    ++ 0x04 ∷ 0x0E ∷ 0x07 ∷ 0x01 ∷ 0x02 ∷ 0x20 ∷ 0x00 ∷ 0x1B ∷ 0x00 ∷ packets
    ∷ command_complete 0x2006 ++ command_complete 0x2008 ++ command_complete 0x200A

-- events of the connection 0040: it comes and goes, its key is asked for, it is encrypted, and packets are completed
abbrev pub connected : Peer → Octets
connected peer =
    0x04 ∷ 0x3E ∷ 0x13 ∷ 0x01 ∷ 0x00 ∷ 0x40 ∷ 0x00 ∷ 0x01 ∷ peer.kind ∷ peer.address
    ++ 0x18 ∷ 0x00 ∷ 0x00 ∷ 0x00 ∷ 0x48 ∷ 0x00 ∷ 0x00 ∷ []

abbrev pub disconnected : Octets
disconnected = 0x04 ∷ 0x05 ∷ 0x04 ∷ 0x00 ∷ 0x40 ∷ 0x00 ∷ 0x13 ∷ []

abbrev pub key_asked : ℕ → Octets
key_asked digit = 0x04 ∷ 0x3E ∷ 0x0D ∷ 0x05 ∷ 0x40 ∷ 0x00 ∷ replicate 10 digit

abbrev pub encryption : ℕ → Octets
encryption enabled = 0x04 ∷ 0x08 ∷ 0x04 ∷ 0x00 ∷ 0x40 ∷ 0x00 ∷ enabled ∷ []

abbrev pub completed : ℕ → Octets
completed count = 0x04 ∷ 0x13 ∷ 0x05 ∷ 0x01 ∷ 0x40 ∷ 0x00 ∷ two_octets count

-- a link that is encrypted with the key of its peer
abbrev pub encrypted_with : ℕ → Octets
encrypted_with digit = key_asked digit ++ command_complete 0x201A ++ encryption 0x01

-- a PDU of the Attribute Protocol from the connection, and one to it, each in one packet
abbrev pub frame : Octets → Octets
frame pdu = two_octets (length pdu + 4) ++ two_octets (length pdu) ++ 0x04 ∷ 0x00 ∷ pdu

abbrev pub asks : Octets → Octets
asks pdu = 0x02 ∷ 0x40 ∷ 0x20 ∷ frame pdu

abbrev pub told : Octets → Octets
told pdu = 0x02 ∷ 0x40 ∷ 0x00 ∷ frame pdu

-- and one whose answer is completed at once
abbrev pub asks_on : Octets → Octets
asks_on pdu = asks pdu ++ completed 1

-- calls
abbrev pub update : ℕ → Octets → List Item
update handle value = ACall (UpdateCall handle value) ∷ []

abbrev pub authorize : ℕ → List Item
authorize until = ACall (AuthorizeCall 0x0040 until) ∷ []

abbrev pub end_connection : List Item
end_connection = ACall (DisconnectCall 0x0040) ∷ []

abbrev pub tick : ℕ → List Item
tick time = ACall (TickCall time) ∷ []

-- what goes out after initialisation, where a controller takes so many packets, a peer connects, and then this comes in.
-- Seven commands initialise the controller
abbrev pub sent_to : Contents → ℕ → ℕ → Peer → List Item → List Octets
sent_to table slots packets peer items =
    drop 7 (run (host table slots) (stream (initialised packets ++ connected peer) ++ items)).sent

-- advertising is enabled for a slot that is free
abbrev pub enable : Octets
enable = 0x01 ∷ 0x0A ∷ 0x20 ∷ 0x01 ∷ 0x01 ∷ []

-- the connection is ended for a reason
abbrev pub disconnect : ℕ → Octets
disconnect reason = 0x01 ∷ 0x06 ∷ 0x04 ∷ 0x03 ∷ 0x40 ∷ 0x00 ∷ reason ∷ []
