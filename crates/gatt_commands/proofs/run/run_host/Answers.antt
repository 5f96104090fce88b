use Rattle.gatt_commands.specs.Echo.{shown_of}
use Rattle.gatt_commands.proofs.RunEnds.{host_runs}
use Rattle.gatt_commands.proofs.run.run_host.Goals as goal

pub returns-clause-runs : goal.returns-clause-runs
returns-clause-runs g c =
    host_runs (shown_of c.args.shown) c.args.script.now c.args.stage.now c.run_lines-ran.new.stage
    (g.W.Write.contents c.args.writer.now) (g.W.Write.contents c.run_lines-ran.new.writer)
    (g.V.RowsStore.saves c.args.store.now) (g.V.RowsStore.saves c.save_after.new.store)
    c.rows.result.now c.run_lines-ran.result c.save_after.result c.rows.ensures.server
    c.save_after.ensures.fault c.save_after.ensures.unwritten c.run_lines-ran.ensures.runs c.run_lines-ran.ensures.ends c.save_after.ensures.saves
