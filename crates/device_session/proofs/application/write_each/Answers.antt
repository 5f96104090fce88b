use Rattle.device_session.proofs.Writes.{sent_more}
use Rattle.device_session.proofs.application.write_each.Goals as goal

pub loop-write-preserved : goal.loop-write-preserved
loop-write-preserved c = sent_more _ _ _ _ c.loop-write.invariant c.write_once.ensures

pub returns-in-All : goal.returns-in-All
returns-in-All c = sent_more _ _ _ _ c.loop-write.invariant c.write_once.ensures

pub returns-in-Failed : goal.returns-in-Failed
returns-in-Failed c = sent_more _ _ _ _ c.loop-write.invariant c.write_once.ensures
