-- The final value of a pointer whose host is lent (code only).
use Rattle.std.specs.Borrow.{LendsIf, MutBor, Fml}
use Rattle.std.specs.Prelude.{Option, Some}
use Rattle.gihandop_c.specs.contracts.host_pointer.HostPointer.{the_row}
use Rattle.gihandop_c.specs.contracts.opened.Opened.{the_row as opened_row}
use Rattle.gihandop_c.specs.declared.host_pointer.HostPointer.{HostPointer}
use Rattle.gihandop_c.specs.declared.opened.Opened.{Opened}

abbrev pub with_host : HostPointer → Opened → HostPointer
with_host pointer opened = record pointer { host = Some opened }

-- The host has the value last written through the result; without a host, none is open afterwards.
abbrev pub LendsTheHost : MutBor HostPointer → Option (MutBor Opened) → Fml
LendsTheHost pointer result =
    LendsIf the_row opened_row pointer result (with_host pointer.now) pointer.now
