use Rattle.std.proofs.Common.{◌∙◌, arith}
use Rattle.gatt_subs.specs.RowEntry.{rank_of}
use Rattle.gatt_subs.proofs.InOrder.{inserted_where_found}
use Rattle.gatt_subs.proofs.unfitted.insert_peer.Goals as goal

pub returns-clause-ok : goal.returns-clause-ok
returns-clause-ok c =
    c.in_ok-insert.ensures.items
    ∙ inserted_where_found rank_of c.args.peer _ _ _ _ _ _ c.deref.ensures.value c.rank.ensures c.first_peer_behind.ensures
    (omega (arith, c.len.ensures, c.args.peers.now.ok.0)) c.unwrap_or-place.ensures
