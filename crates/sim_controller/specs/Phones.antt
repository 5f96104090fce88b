-- The clients by number, and their connection handles (this profile's own).
use Rattle.std.specs.Prelude.{ℕ, ◌+◌, ◌-◌, nat_le, nat_lt, ◌&&◌, if◌then◌else◌, Option, Some, None}
use Rattle.sim_controller.specs.declared.handle.TheConstants.{PHONES}

abbrev pub handle_of_phone : ℕ → ℕ
handle_of_phone phone = 0x0040 + phone

abbrev pub phone_with : ℕ → Option ℕ
phone_with handle =
    if nat_le 0x0040 handle && nat_lt handle (0x0040 + PHONES) then Some (handle - 0x0040) else None
