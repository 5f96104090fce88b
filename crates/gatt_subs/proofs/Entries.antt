-- What was read of a peer at a handle.
use Rattle.std.proofs.Common.{◌≡◌, ℕ, true, false, ◌==◌, ◌&&◌, if◌then◌else◌, List, [], ◌∷◌, map, filter, Option, Some, refl, ap, ◌∙◌}
use Rattle.std.specs.List.{find}
use Rattle.std.specs.Option.{option_map_or}
use Rattle.att_table.specs.ConfigRow.{bits_at}
use Rattle.le_hci.specs.declared.peer.Peer.{Peer}
use Rattle.le_security.specs.Entry.{same_peer}
use Rattle.gatt_subs.specs.declared.row_entry.RowEntry.{RowEntry}
use Rattle.gatt_subs.specs.RowEntry.{is_at}
use Rattle.gatt_subs.specs.Rows.{row_in}

bits_found : (entries : List RowEntry) (peer : Peer) (handle : ℕ)
    → option_map_or (λ (entry : RowEntry). entry.bits) (find (is_at peer handle) entries) 0 ≡ bits_at (row_in entries peer) handle
bits_found [] peer handle = refl
bits_found (entry ∷ entries) peer handle =
    let rest = bits_found entries peer handle in
    let bits : RowEntry → ℕ = λ entry. entry.bits in
    let pair : RowEntry → ℕ × ℕ = λ entry. (entry.handle, entry.bits) in
    let others = filter (λ (other : RowEntry). same_peer other.peer peer) entries in
    elim (same_peer entry.peer peer) as
    (λ same. option_map_or bits (if same && (entry.handle == handle) then Some entry else find (is_at peer handle) entries) 0
    ≡ bits_at (map pair (if same then entry ∷ others else others)) handle) [
      | true ↦ elim (entry.handle == handle) as (λ at. option_map_or bits (if at then Some entry else find (is_at peer handle) entries) 0
          ≡ (if at then entry.bits else bits_at (map pair others) handle)) [
            | true ↦ refl
            | false ↦ rest
          ]
      | false ↦ rest
    ]

pub bits_read : (found : Option RowEntry) (entries : List RowEntry) (peer : Peer) (handle : ℕ) → found ≡ find (is_at peer handle) entries
    → option_map_or (λ (entry : RowEntry). entry.bits) found 0 ≡ bits_at (row_in entries peer) handle
bits_read found entries peer handle is =
    ap (λ (found : Option RowEntry). option_map_or (λ (entry : RowEntry). entry.bits) found 0) is ∙ bits_found entries peer handle
