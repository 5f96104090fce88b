-- Subscriptions that a file can contain (this profile's own).
use Rattle.std.specs.Prelude.{◌≡◌, ℕ, ◌<◌, ◌≤◌, List, [], ◌∷◌, length, Ok}
use Rattle.std.specs.List.{All}
use Rattle.att_numbers.specs.Types.{Handle}
use Rattle.att_table.specs.ConfigRow.{IsEntry, HasOneEntryEach}
use Rattle.le_hci.specs.declared.peer.Peer.{Peer}
use Rattle.gatt_subs.specs.declared.bond.Bond.{Bond}
use Rattle.gatt_subs.specs.declared.row_entry.RowEntry.{RowEntry}
use Rattle.gatt_subs.specs.declared.unfitted.TheConstants.{MAX_ENTRIES, MAX_OWED}
use Rattle.gatt_subs.specs.RowEntry.{order_of, rank_of}
use Rattle.gatt_subs.specs.Rows.{Subscriptions}
use Rattle.gatt_subs.specs.RowsText.{configured, owed_in, rows_text}
use Rattle.gatt_subs.specs.Unfitted.{WrittenRows, nothing_written, rows_read}
use Rattle.att_numbers.specs.declared.limit.TheConstants.{MAX_CONFIGURATIONS}

-- A peer that a line can contain.
pub record IsNamed (peer : Peer) : Type 0 where
  pub kind : peer.kind ≤ 1
  pub address : length peer.address ≡ 6
  pub octets : All (λ octet. octet < 256) peer.address

-- An entry that a line can contain.
pub record IsConfigured (entry : RowEntry) : Type 0 where
  pub peer : IsNamed entry.peer
  pub from_one : 1 ≤ entry.handle
  pub handle : entry.handle < 65536
  pub some : 1 ≤ entry.bits
  pub bits : entry.bits ≤ 3

-- Each element is less than all later ones.
abbrev pub Climbs : {X : Type 0} → (X → ℕ) → List X → Type 0
Climbs order [] = Unit
Climbs order (x ∷ xs) = All (λ y. order x < order y) xs × Climbs order xs

-- A file's contents: each once, in file order, within the limits.
pub record IsOfAFile (written : WrittenRows) : Type 0 where
  pub entries : All IsConfigured written.entries
  pub owed : All IsNamed written.owed
  pub climbs : Climbs order_of written.entries
  pub owed_climb : Climbs rank_of written.owed
  pub few : length written.entries ≤ MAX_ENTRIES
  pub owed_few : length written.owed ≤ MAX_OWED

-- A bond whose row a file can contain.
pub record IsBondOfAFile (bond : Bond) : Type 0 where
  pub entries : All IsEntry bond.row
  pub handles : All (λ (entry : Handle × ℕ). entry.0 < 65536) bond.row
  pub once : HasOneEntryEach bond.row
  pub few : length bond.row ≤ MAX_CONFIGURATIONS

-- Fitted bonds of peers that lines can contain, each once and in order.
pub record IsFitted (rows : Subscriptions) : Type 0 where
  pub peers : All IsNamed rows.peers
  pub climbs : Climbs rank_of rows.peers
  pub few : length rows.peers ≤ MAX_OWED
  pub bonds : All IsBondOfAFile rows.bonds
  pub unfitted : rows.unfitted ≡ nothing_written

abbrev pub written_by : Subscriptions → WrittenRows
written_by rows = record { entries = configured rows; owed = owed_in rows }

-- The text reads back as the same subscriptions.
abbrev pub ReadsBack : Subscriptions → Type 0
ReadsBack rows = IsOfAFile (written_by rows) → rows_read (rows_text rows) ≡ Ok (written_by rows)

-- Fitted subscriptions can be written.
abbrev pub FittedCanBeWritten : Subscriptions → Type 0
FittedCanBeWritten rows = IsFitted rows → IsOfAFile (written_by rows)
