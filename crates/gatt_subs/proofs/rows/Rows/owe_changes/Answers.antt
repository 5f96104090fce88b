use Rattle.gatt_subs.specs.Changes.{with_changes_owed}
use Rattle.gatt_subs.proofs.Fitted.{kept_each}
use Rattle.gatt_subs.proofs.rows.Rows.owe_changes.Goals as goal

pub returns-clause-each : goal.returns-clause-each
returns-clause-each c = λ peer.
    let held = c.self.inside in
    kept_each (with_changes_owed c.args.changer) c.args.self.now held.peers.items held.bonds.items c.owe_where_wanted.new.bonds.items held.unfitted peer
    c.self.view_is c.owe_where_wanted.ensures
