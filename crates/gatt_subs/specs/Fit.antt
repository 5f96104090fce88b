-- Subscriptions fitted to keys and a table (this profile's own).
use Rattle.std.specs.Prelude.{◌≡◌, Bool, false, ◌&&◌, if◌then◌else◌, List, [], ◌∷◌, length, map, filter, Option, Some, None}
use Rattle.std.specs.Option.{option_map_or}
use Rattle.att_numbers.specs.Types.{Handle, Row}
use Rattle.att_attributes.specs.declared.attr.Attr.{Attr}
use Rattle.att_table.specs.Changer.{changer_of}
use Rattle.att_table.specs.ConfigRow.{with_bits, is_supported}
use Rattle.att_table.specs.Table.{Contents}
use Rattle.le_hci.specs.declared.peer.Peer.{Peer}
use Rattle.le_security.specs.declared.entry.Entry.{Entry}
use Rattle.le_security.specs.Keys.{is_known}
use Rattle.gatt_subs.specs.declared.bond.Bond.{Bond}
use Rattle.gatt_subs.specs.Hearing.{wants_indications}
use Rattle.gatt_subs.specs.InOrder.{in_order}
use Rattle.gatt_subs.specs.RowEntry.{rank_of}
use Rattle.gatt_subs.specs.Rows.{Subscriptions, bond_of, owes, row_read}
use Rattle.gatt_subs.specs.Unfitted.{nothing_written, has_peer}

-- The peers of keys, each once, in file order.
abbrev pub with_peer : List Peer → Peer → List Peer
with_peer peers peer = if has_peer peers peer then peers else in_order rank_of peer peers

abbrev pub peers_with : List Peer → List Entry → List Peer
peers_with peers [] = peers
peers_with peers (key ∷ keys) = peers_with (with_peer peers key.peer) keys

abbrev pub peers_of : List Entry → List Peer
peers_of keys = peers_with [] keys

abbrev pub with_entries : Row → Row → Row
with_entries row [] = row
with_entries row (entry ∷ entries) = with_entries (with_bits row entry.0 entry.1) entries

-- The entries that a table supports, each whole.
abbrev pub row_fitted : List Attr → Row → Row
row_fitted attributes row = with_entries [] (filter (is_supported attributes) row)

-- The row requests Service Changed indications of the table.
abbrev pub wants_changes : Option Handle → Row → Bool
wants_changes changer row =
    option_map_or (wants_indications row) changer false

-- A peer's fitted bond: an indication stays pending only if the row still requests it.
abbrev pub fitted_bond : Contents → Subscriptions → Peer → Bond
fitted_bond table rows peer =
    let row = row_fitted table.attributes (row_read rows peer) in
    record { row = row; owed = owes rows peer && wants_changes (changer_of table) row }

-- One bond for each peer of the keys, and no others.
abbrev pub fitted_rows : List Entry → Contents → Subscriptions → Subscriptions
fitted_rows keys table rows =
    record {
      peers = peers_of keys;
      bonds = map (fitted_bond table rows) (peers_of keys);
      unfitted = nothing_written;
    }

-- Exactly the peers with keys have bonds, the fitted ones.
abbrev pub HasFittedBonds : List Entry → Contents → Subscriptions → Subscriptions → Type 0
HasFittedBonds keys table old new =
    (peer : Peer)
    → bond_of new peer ≡ (if is_known keys peer then Some (fitted_bond table old peer) else None)

-- Fitted subscriptions: one bond for each peer of the keys.
pub record IsListed (keys : List Entry) (rows : Subscriptions) : Type 0 where
  pub peers : rows.peers ≡ peers_of keys
  pub count : length rows.bonds ≡ length rows.peers
  pub unfitted : rows.unfitted ≡ nothing_written

abbrev pub rows_listed : List Entry → (Peer → Bond) → Subscriptions
rows_listed keys bond =
    record { peers = peers_of keys; bonds = map bond (peers_of keys); unfitted = nothing_written }
