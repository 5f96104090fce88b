-- The reason for rejecting a request (Core 5.0, Vol 3 Part F, 3.4.1.1).
use Rattle.att_numbers.specs.Types.{Handle, Code}

pub record Refusal : Type 0 where
  pub handle : Handle
  pub code : Code
