-- The space for waiting values.
use Rattle.std.specs.Prelude.{ℕ, Bool, ◌||◌, nat_lt, List, length}
use Rattle.att_numbers.specs.Types.{Handle}
use Rattle.gatt_subs.specs.Indications.{is_waiting}

-- A value may wait if it already does or fewer than `room` do.
abbrev pub has_room_to_wait : ℕ → List Handle → Handle → Bool
has_room_to_wait room waiting handle = is_waiting waiting handle || nat_lt (length waiting) room
