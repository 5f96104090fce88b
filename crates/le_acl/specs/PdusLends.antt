-- The queue after its next buffer was borrowed (code only).
use Rattle.std.specs.Borrow.{Lends, MutBor, Fml, u8, usize, unit}
use Rattle.std.specs.Prelude.{ℕ}
use Rattle.arrayvec.specs.ArrayVec.{ArrayVec}
use Rattle.arrayvec.specs.contracts.array_vec.ArrayVec.{the_row as array_vec_row}
use Rattle.le_acl.specs.Pdus.{Queued}
use Rattle.le_acl.specs.contracts.pdus.Pdus.{the_row}

-- The buffer becomes the last value written through the result.
abbrev pub LendsQueueRoom : MutBor Queued → MutBor (ArrayVec ℕ) → Fml
LendsQueueRoom queued result =
    Lends the_row (array_vec_row u8 usize unit) queued result
    (λ written. record { pdus = queued.now.pdus; room = written.items })
