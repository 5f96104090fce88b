use Rattle.std.specs.Prelude.{◌≡◌, ℕ, ◌<◌, get_or}
use Rattle.host_connections.specs.Handles.{noted_of}
use Rattle.host_connections.specs.Slots.{slot_state_at}
use Rattle.host_connections.specs.declared.handles.TheConstants.{FREE}
use Rattle.host_connections.proofs.handles.Handles.note_all.Given as goal

abbrev pub invariant-loop-place : goal.invariant-loop-place
invariant-loop-place l = (other : ℕ) → other < l.place → get_or l.self.noted other FREE ≡ noted_of (slot_state_at l.slots other)
