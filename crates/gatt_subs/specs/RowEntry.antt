-- The entries of a subscriptions file and their order (this profile's own).
use Rattle.std.specs.Prelude.{ℕ, ◌+◌, ◌*◌, Bool, ◌==◌, ◌&&◌, [], ◌∷◌, ◌++◌}
use Rattle.std.specs.Int.{from_le_bytes, w64}
use Rattle.att_numbers.specs.Types.{Handle}
use Rattle.le_hci.specs.declared.peer.Peer.{Peer}
use Rattle.le_security.specs.Entry.{same_peer}
use Rattle.gatt_subs.specs.declared.row_entry.RowEntry.{RowEntry}

abbrev pub is_at : Peer → Handle → RowEntry → Bool
is_at peer handle entry = same_peer entry.peer peer && (entry.handle == handle)

-- Peers are ordered by address type, then by address as a number, most significant octet last on
-- the wire.
unfoldable pub rank_of : Peer → ℕ
rank_of peer = from_le_bytes w64 (peer.address ++ peer.kind ∷ 0 ∷ [])

-- Entries are ordered by peer, then by handle.
abbrev pub order_of : RowEntry → ℕ
order_of entry = rank_of entry.peer * 65536 + entry.handle
