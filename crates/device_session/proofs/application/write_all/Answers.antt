use Rattle.device_session.proofs.Writes.{deafened_by, written_by}
use Rattle.device_session.proofs.application.write_all.Goals as goal

pub returns-then-write_each : goal.returns-then-write_each
returns-then-write_each c = written_by _ _ _ _ c.write_each.ensures c.offered.ensures

pub returns-else-write_each : goal.returns-else-write_each
returns-else-write_each c = deafened_by _ _ _ _ c.write_each.ensures c.deafen.ensures
