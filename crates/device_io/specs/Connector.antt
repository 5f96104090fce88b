-- The way to the next controller (this profile's own). Times are in milliseconds.
use Rattle.std.specs.Prelude.{Bool, true, false}
use Rattle.device_io.specs.declared.connector.Connector.{Connector}
use Rattle.device_io.specs.declared.connector.Connector.TheVariants.{Listen}
use Rattle.device_io.specs.declared.connector.Reach.{Reach}
use Rattle.device_io.specs.declared.connector.Reach.TheVariants as reach
use Rattle.device_io.specs.declared.missed.Missed.{Missed}

-- The device itself tries to reach a controller. Otherwise it waits until one connects.
abbrev pub is_tried : Connector → Bool
is_tried (Listen listener) = false
is_tried other = true

-- An attempt reaches a controller, begins to make a connection, finds nobody, fails for a reason of
-- the log, or loses the controller that it has reached.
pub data Attempt : Type 0 where
  Reaches : Attempt
  Begins : Attempt
  FindsNobody : Attempt
  Misses : (missed : Missed) → Attempt
  Loses : Attempt

-- The attempt, without the transport that it has reached.
abbrev pub attempt_of : Reach → Attempt
attempt_of (reach.There transport) = Reaches
attempt_of (reach.Begun transport) = Begins
attempt_of reach.Nobody = FindsNobody
attempt_of (reach.Missed missed) = Misses missed
attempt_of reach.Unwatched = Loses
