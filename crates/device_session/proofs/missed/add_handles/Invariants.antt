use Rattle.device_session.proofs.Noting.{IsNotedSoFar}
use Rattle.device_session.proofs.missed.add_handles.Given as goal

abbrev pub invariant-loop-handle : goal.invariant-loop-handle
invariant-loop-handle l = IsNotedSoFar l.more l.fn.handles.items l.handle-index l.handles.items
