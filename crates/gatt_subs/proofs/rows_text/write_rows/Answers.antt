use Rattle.std.proofs.Common.{◌++◌, List, subst}
use Rattle.std.specs.Prelude.{OnErr}
use Rattle.std.specs.List.{flat_map}
use Rattle.std.specs.Io.KnownBytes.{Appends}
use Rattle.octet_io.specs.Stream.{WritesFront}
use Rattle.le_hci.specs.declared.peer.Peer.{Peer}
use Rattle.gatt_subs.specs.declared.row_entry.RowEntry.{RowEntry}
use Rattle.gatt_subs.specs.RowsText.{entry_line, owed_line, owed_peers, bond_entries}
use Rattle.gatt_subs.proofs.Writing.{second_breaks_off}
use Rattle.gatt_subs.proofs.rows_text.write_rows.Goals as goal

pub returns-clause-front : goal.returns-clause-front
returns-clause-front g c =
    let peers = c.args.peers.now in
    let bonds = c.args.bonds.now in
    let held = g.W.Sink.contents c.args.sink.now in
    let mid = g.W.Sink.contents c.write_configured.new.sink in
    let holds = g.W.Sink.contents c.write_owed_in.new.sink in
    second_breaks_off c.write_owed_in.result _ _ held mid holds
    (subst (λ (entries : List RowEntry). Appends held mid (flat_map entry_line (bond_entries peers bonds ++ entries))) c.entries.ensures
    c.in_ok-write_configured.ensures.ok)
    (subst (λ (owed : List Peer). OnErr c.write_owed_in.result (WritesFront (flat_map owed_line (owed_peers peers bonds ++ owed)) mid holds)) c.owed.ensures
    c.write_owed_in.ensures.front)
