use Rattle.std.proofs.Common.{◌≡◌, ◌++◌, drop}
use Rattle.std.specs.List.{flat_map}
use Rattle.device_host.specs.Answers.{entry_line}
use Rattle.device_host.proofs.state_lines.add_row.Given as goal

-- The lines so far and those of the entries that are left are all.
abbrev pub invariant-loop-place : goal.invariant-loop-place
invariant-loop-place l =
    l.text.items ++ flat_map (entry_line l.name) (drop l.place l.fn.row) ≡ l.fn.text.items ++ flat_map (entry_line l.name) l.fn.row
