-- The text of a subscriptions file (this profile's own).
use Rattle.std.specs.Prelude.{◌==◌, if◌then◌else◌, List, [], ◌∷◌, ◌++◌, map, slice_index}
use Rattle.std.specs.Fmt.{decimal}
use Rattle.std.specs.List.{flat_map}
use Rattle.hex.specs.Hex.{encode_lower}
use Rattle.octet_io.specs.Number.{Octets}
use Rattle.att_numbers.specs.Types.{Row}
use Rattle.le_hci.specs.declared.peer.Peer.{Peer}
use Rattle.gatt_subs.specs.declared.bond.Bond.{Bond}
use Rattle.gatt_subs.specs.declared.row_entry.RowEntry.{RowEntry}
use Rattle.gatt_subs.specs.InOrder.{in_order}
use Rattle.gatt_subs.specs.RowEntry.{order_of}
use Rattle.gatt_subs.specs.Rows.{Subscriptions}
use Rattle.gatt_subs.specs.Unfitted.{WrittenRows}

abbrev pub joined_by_colons : Octets → Octets
joined_by_colons [] = []
joined_by_colons (octet ∷ []) = encode_lower (octet ∷ [])
joined_by_colons (octet ∷ next ∷ octets) =
    encode_lower (octet ∷ []) ++ 58 ∷ joined_by_colons (next ∷ octets)

-- An address is written with the last octet on the wire first.
unfoldable pub address_text : Octets → Octets
address_text address = joined_by_colons (map (slice_index address) (5 ∷ 4 ∷ 3 ∷ 2 ∷ 1 ∷ 0 ∷ []))

abbrev pub peer_text : Peer → Octets
peer_text peer = decimal peer.kind ++ 32 ∷ address_text peer.address

-- The line of an entry.
unfoldable pub entry_line : RowEntry → Octets
entry_line entry =
    peer_text entry.peer ++ 32 ∷ decimal entry.handle ++ 32 ∷ decimal entry.bits ++ 10 ∷ []

-- The line of a peer with a pending indication.
unfoldable pub owed_line : Peer → Octets
owed_line peer = 33 ∷ 32 ∷ peer_text peer ++ 10 ∷ []

-- The entries of a row with nonzero bits, in file order.
abbrev pub entries_with : List RowEntry → Peer → Row → List RowEntry
entries_with entries peer [] = entries
entries_with entries peer (entry ∷ row) =
    entries_with
    (if entry.1 == 0 then entries
    else in_order order_of (record { peer = peer; handle = entry.0; bits = entry.1 }) entries) peer
    row

abbrev pub entries_of : Peer → Row → List RowEntry
entries_of peer row = entries_with [] peer row

abbrev pub bond_entries : List Peer → List Bond → List RowEntry
bond_entries [] bonds = []
bond_entries (peer ∷ peers) [] = []
bond_entries (peer ∷ peers) (bond ∷ bonds) = entries_of peer bond.row ++ bond_entries peers bonds

abbrev pub owed_peers : List Peer → List Bond → List Peer
owed_peers [] bonds = []
owed_peers (peer ∷ peers) [] = []
owed_peers (peer ∷ peers) (bond ∷ bonds) =
    if bond.owed then peer ∷ owed_peers peers bonds else owed_peers peers bonds

-- The contents in file order: entries, then peers with a pending indication.
abbrev pub configured : Subscriptions → List RowEntry
configured rows = bond_entries rows.peers rows.bonds ++ rows.unfitted.entries

abbrev pub owed_in : Subscriptions → List Peer
owed_in rows = owed_peers rows.peers rows.bonds ++ rows.unfitted.owed

unfoldable pub rows_text : Subscriptions → Octets
rows_text rows = flat_map entry_line (configured rows) ++ flat_map owed_line (owed_in rows)

abbrev pub text_by_parts : List Peer → List Bond → WrittenRows → Octets
text_by_parts peers bonds unfitted =
    flat_map entry_line (bond_entries peers bonds ++ unfitted.entries)
    ++ flat_map owed_line (owed_peers peers bonds ++ unfitted.owed)
