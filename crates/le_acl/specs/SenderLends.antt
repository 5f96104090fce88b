-- The sender after its buffer was borrowed (code only).
use Rattle.std.specs.Prelude.{ℕ, Result, Some}
use Rattle.std.specs.Borrow.{LendsIfOk, MutBor, Fml, u8, usize, unit}
use Rattle.arrayvec.specs.ArrayVec.{ArrayVec}
use Rattle.arrayvec.specs.contracts.array_vec.ArrayVec.{the_row as array_vec_row}
use Rattle.le_acl.specs.declared.sender.Full.{Full}
use Rattle.le_acl.specs.contracts.sender.Sender.{the_row}
use Rattle.le_acl.specs.Sending.{Sending}

-- The buffer becomes the last value written through the result, if there is one.
abbrev pub LendsRoom : MutBor Sending → Result (MutBor (ArrayVec ℕ)) Full → Fml
LendsRoom sender result =
    LendsIfOk the_row (array_vec_row u8 usize unit) sender result
    (λ written. record sender.now { room = Some written.items }) sender.now
