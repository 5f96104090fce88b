use Rattle.std.proofs.Common.{◌==◌, ◌*◌, ◌≤◌}
use Rattle.std.specs.List.{position_or_len}
use Rattle.att_table.proofs.row_entries.place_in_lanes.Given as goal

-- no handle before those of this turn is the one
abbrev pub invariant-loop-turn : goal.invariant-loop-turn
invariant-loop-turn l = l.turn * 32 ≤ position_or_len (λ own. own == l.handle) l.handles
