use Rattle.gatt_subs.specs.Fit.{fitted_bond}
use Rattle.gatt_subs.proofs.Supported.{mapped_more}
use Rattle.gatt_subs.proofs.rows.Rows.fitted_bonds.Goals as goal

pub loop-peer-preserved : goal.loop-peer-preserved
loop-peer-preserved c =
    mapped_more (fitted_bond c.args.table.now c.args.self.now) c.args.peers.now c.loop-peer.peer-index _ _ _ _ c.loop-peer-test.true
    c.loop-peer.invariant c.fitted_bond.ensures c.in_ok-push.ensures.items
