-- The subscriptions of peers with keys, and the pending Service Changed indications (this profile's
-- own).
use Rattle.std.specs.Prelude.{◌≡◌, ℕ, Bool, false, List, [], length, map, filter, slice_get, slice_set, Option, Result, Ok}
use Rattle.std.specs.List.{position}
use Rattle.std.specs.Option.{option_and_then, option_map, option_map_or, unwrap_or}
use Rattle.octet_io.specs.Number.{Octets}
use Rattle.octet_io.specs.Text.{as_text}
use Rattle.toml_schema.specs.Reading.{◌>>=◌}
use Rattle.att_numbers.specs.Types.{Handle, Row}
use Rattle.att_attributes.specs.declared.attr.Attr.{Attr}
use Rattle.att_table.specs.ConfigRow.{with_bits, kept_row}
use Rattle.le_hci.specs.declared.peer.Peer.{Peer}
use Rattle.le_security.specs.Entry.{same_peer}
use Rattle.gatt_subs.specs.declared.bond.Bond.{Bond}
use Rattle.gatt_subs.specs.declared.row_entry.RowEntry.{RowEntry}
use Rattle.gatt_subs.specs.declared.rows_fault.RowsFault.{RowsFault}
use Rattle.gatt_subs.specs.declared.rows_fault.RowsFault.TheVariants.{BadLine}
use Rattle.gatt_subs.specs.Unfitted.{WrittenRows, has_peer, rows_read}

-- The bonded peers in file order, their bonds, and a file's contents until fitted.
pub record Subscriptions : Type 0 where
  pub peers : List Peer
  pub bonds : List Bond
  pub unfitted : WrittenRows

-- After a file is read, no peer has a bond.
abbrev pub unfitted_rows : WrittenRows → Subscriptions
unfitted_rows written = record { peers = []; bonds = []; unfitted = written }

abbrev pub subscriptions_read : Octets → Result Subscriptions RowsFault
subscriptions_read text = do
  written ← rows_read text
  Ok (unfitted_rows written)

-- The subscriptions of a file with these bytes; without UTF-8 its first line is bad.
unfoldable pub rows_in : Octets → Result Subscriptions RowsFault
rows_in bytes = as_text subscriptions_read (BadLine 1) bytes

abbrev pub peer_place : List Peer → Peer → Option ℕ
peer_place peers peer = position (λ other. same_peer other peer) peers

abbrev pub bond_of : Subscriptions → Peer → Option Bond
bond_of rows peer = option_and_then (slice_get rows.bonds) (peer_place rows.peers peer)

abbrev pub row_of : Subscriptions → Peer → Option Row
row_of rows peer = option_map (λ (bond : Bond). bond.row) (bond_of rows peer)

abbrev pub row_in : List RowEntry → Peer → Row
row_in entries peer =
    map (λ (entry : RowEntry). (entry.handle, entry.bits))
    (filter (λ (entry : RowEntry). same_peer entry.peer peer) entries)

-- A peer's configuration and pending indication: by its bond, or else by the file.
abbrev pub row_read : Subscriptions → Peer → Row
row_read rows peer = unwrap_or (row_of rows peer) (row_in rows.unfitted.entries peer)

abbrev pub owes : Subscriptions → Peer → Bool
owes rows peer =
    unwrap_or (option_map (λ (bond : Bond). bond.owed) (bond_of rows peer))
    (has_peer rows.unfitted.owed peer)

abbrev pub bonds_with : List Bond → ℕ → (Bond → Bond) → List Bond
bonds_with bonds place change =
    option_map_or (λ bond. slice_set bonds place (change bond)) (slice_get bonds place) bonds

-- The peer's bond changed, if it has one.
abbrev pub with_bond : Subscriptions → Peer → (Bond → Bond) → Subscriptions
with_bond rows peer change =
    option_map_or (λ place. record rows { bonds = bonds_with rows.bonds place change })
    (peer_place rows.peers peer) rows

abbrev pub with_row : Row → Bond → Bond
with_row row bond = record bond { row = row }

abbrev pub with_set : Handle → ℕ → Bond → Bond
with_set handle bits bond = record bond { row = with_bits bond.row handle bits }

abbrev pub with_owed : Bool → Bond → Bond
with_owed owed bond = record bond { owed = owed }

-- A change of one peer's bond leaves all others.
pub record ChangesBond (change : Bond → Bond) (peer : Peer) (old new : Subscriptions) : Type 0 where
  pub bond : bond_of new peer ≡ option_map change (bond_of old peer)
  pub others : (other : Peer) → same_peer peer other ≡ false → bond_of new other ≡ bond_of old other
  pub unfitted : new.unfitted ≡ old.unfitted
  pub peers : new.peers ≡ old.peers
  pub count : length new.bonds ≡ length old.bonds

abbrev pub kept_bond : List Attr → List Attr → Bond → Bond
kept_bond old new bond = record bond { row = kept_row old new bond.row }
