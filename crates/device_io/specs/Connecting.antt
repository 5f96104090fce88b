-- A connection that is being made, without its transport (this profile's own).
use Rattle.std.specs.Prelude.{Bool}

-- It is made, or has failed, once it is answered.
pub record Connecting : Type 0 where
  pub is_answered : Bool
