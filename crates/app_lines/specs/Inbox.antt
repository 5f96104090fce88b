-- The input from the application, line by line (this profile's own).
use Rattle.std.specs.Prelude.{ℕ, nat_le, nat_lt, Bool, ◌+◌, ◌++◌, if◌then◌else◌, length}
use Rattle.std.specs.List.{after_first, before_first, position_or_len}
use Rattle.memchr.specs.Find.{is_byte}
use Rattle.octet_io.specs.Number.{Octets}
use Rattle.app_lines.specs.declared.inbox.Found.{Found}
use Rattle.app_lines.specs.declared.inbox.Found.TheVariants.{Line, Nothing, TooLong}
use Rattle.app_lines.specs.declared.inbox.TheConstants.{LONGEST, ROOM}

abbrev pub is_feed : ℕ → Bool
is_feed = is_byte 10

-- The octets before the first line feed, or all if there is none.
abbrev pub line_in : Octets → Octets
line_in octets = before_first is_feed octets

-- A line ends at the first line feed, and has at most `LONGEST` octets.
abbrev pub found_in : Octets → Found
found_in octets =
    if nat_lt LONGEST (position_or_len is_feed octets) then TooLong
    else if nat_lt (position_or_len is_feed octets) (length octets) then Line
    else Nothing

-- The octets that stay once a line is moved away.
abbrev pub rest_after : Found → Octets → Octets
rest_after Line octets = after_first is_feed octets
rest_after found octets = octets

-- The moved line, or else the one before it.
abbrev pub line_after : Found → Octets → Octets → Octets
line_after Line octets before = line_in octets
line_after found octets before = before

-- Octets with more at their end, if these fit.
abbrev pub joined_if_fits : Octets → Octets → Octets
joined_if_fits octets more =
    if nat_le (length octets + length more) ROOM then octets ++ more else octets
