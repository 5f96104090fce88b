use Rattle.gatt_subs.proofs.Ascending.{fitted_peers_ascend}
use Rattle.gatt_subs.proofs.Fitted.{fitted_bonds_each}
use Rattle.gatt_subs.proofs.rows.Rows.fit.Goals as goal

pub returns-clause-each : goal.returns-clause-each
returns-clause-each c =
    fitted_bonds_each c.replace_bonds.result c.args.keys.now c.args.table.now c.args.self.now c.replace_bonds.new.self c.replace_bonds.ensures.fitted

pub returns-clause-ordered : goal.returns-clause-ordered
returns-clause-ordered c =
    fitted_peers_ascend c.replace_bonds.result c.args.keys.now c.args.table.now c.args.self.now c.replace_bonds.new.self c.replace_bonds.ensures.fitted
