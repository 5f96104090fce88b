use Rattle.std.proofs.Common.{◌≡◌, ◌++◌, length}
use denote.Text.{Utf8}
use denote.Shadow.{shadow}
use Rattle.device_state.specs.StateText.{table_lines}
use Rattle.device_state.proofs.state_lines.add_table.Given as goal

-- the lines so far and those that are left are all
abbrev pub invariant-loop-piece : goal.invariant-loop-piece
invariant-loop-piece l = record {
  text : shadow (Utf8 l.rest);
  lines : l.text.items ++ table_lines l.rest ≡ l.fn.text.items ++ table_lines l.table_text;
}

abbrev pub decreases-loop-piece : goal.decreases-loop-piece
decreases-loop-piece l = length l.rest
