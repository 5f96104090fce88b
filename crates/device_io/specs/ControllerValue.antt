-- The controller and the way to it, without their sockets (this profile's own).
use Rattle.std.specs.Prelude.{ℕ, Bool, Option}
use Rattle.device_io.specs.declared.side.Side.{Side}

-- The next one is tried at a time, if at all. None is while one is served, or is held off.
pub record Controller : Type 0 where
  pub patience : ℕ
  pub is_tried : Bool
  pub side : Side
  pub next : Option ℕ
  pub is_held : Bool
