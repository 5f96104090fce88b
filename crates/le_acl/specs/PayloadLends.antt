-- The payloads after one was borrowed (code only).
use Rattle.std.specs.Prelude.{ℕ}
use Rattle.std.specs.Borrow.{Lends, MutBor, Fml, u8, usize, unit}
use Rattle.std.specs.Vec.{with_item}
use Rattle.arrayvec.specs.ArrayVec.{ArrayVec}
use Rattle.arrayvec.specs.contracts.array_vec.ArrayVec.{the_row as array_vec_row}
use Rattle.le_acl.specs.declared.pdus.Payloads.{Payloads}
use Rattle.le_acl.specs.contracts.pdus.Payloads.{the_row}

-- The payload at this place becomes the last value written through the result.
abbrev pub LendsPayload : MutBor Payloads → ℕ → MutBor (ArrayVec ℕ) → Fml
LendsPayload payloads index result =
    Lends the_row (array_vec_row u8 usize unit) payloads result
    (λ written. record { items = with_item payloads.now.items index written })
