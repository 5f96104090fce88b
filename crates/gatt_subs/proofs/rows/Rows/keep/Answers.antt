use Rattle.gatt_subs.specs.Rows.{kept_bond}
use Rattle.gatt_subs.proofs.Fitted.{kept_each}
use Rattle.gatt_subs.proofs.rows.Rows.keep.Goals as goal

pub returns-clause-each : goal.returns-clause-each
returns-clause-each c = λ peer.
    let held = c.self.inside in
    kept_each (kept_bond c.args.old.now.attributes c.args.new.now.attributes) c.args.self.now held.peers.items held.bonds.items c.keep_rows.new.bonds.items
    held.unfitted peer
    c.self.view_is c.keep_rows.ensures
