use Rattle.device_session.proofs.Noting.{one_noted}
use Rattle.device_session.proofs.missed.add_handles.Goals as goal

pub loop-handle-preserved : goal.loop-handle-preserved
loop-handle-preserved c = one_noted _ _ _ _ _ 0 c.loop-handle-test.true c.loop-handle.invariant c.in_ok-add_handle.ensures.added
