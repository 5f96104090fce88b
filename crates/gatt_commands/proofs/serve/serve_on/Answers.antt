use Rattle.gatt_commands.proofs.ServeEnds.{is_outcome, saves_rows}
use Rattle.gatt_commands.proofs.serve.serve_on.Goals as goal

pub returns-clause-saved : goal.returns-clause-saved
returns-clause-saved g c = λ _.
    saves_rows c.rows.result.now c.serve_stream-served.new.host.server.rows (g.V.RowsStore.saves c.args.store.now) (g.V.RowsStore.saves c.save_after.new.store)
    c.serve_stream-served.new.host.fault c.serve_stream-served.result c.save_after.result c.rows.ensures.server c.serve_stream-served.ensures.told
    c.save_after.ensures.fault c.save_after.ensures.unwritten c.save_after.ensures.saves

pub returns-clause-outcome : goal.returns-clause-outcome
returns-clause-outcome g c = λ _.
    is_outcome c.serve_stream-served.new.host.fault c.serve_stream-served.result c.save_after.result c.serve_stream-served.ensures.told
    c.save_after.ensures.fault c.save_after.ensures.unwritten
