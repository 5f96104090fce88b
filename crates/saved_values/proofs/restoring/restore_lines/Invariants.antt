use Rattle.std.proofs.Common.{◌≡◌, ◌+◌, ◌≤◌, length}
use denote.Text.{Utf8}
use denote.Shadow.{shadow}
use Rattle.saved_values.specs.Restore.{lines_restored, values_restored}
use Rattle.text_words.specs.Split.{lines_of}
use Rattle.saved_values.proofs.restoring.restore_lines.Given as goal

-- The lines that are left lead to the same table.
abbrev pub invariant-loop-line : goal.invariant-loop-line
invariant-loop-line l = record {
  text : shadow (Utf8 l.rest);
  lines : lines_restored l.number l.table l.left_out (lines_of l.rest) ≡ values_restored l.text l.fn.table;
  counts : l.number + length l.rest ≤ length l.text + 1;
  few : l.left_out + 1 ≤ l.number;
  attributes : l.table.attributes ≡ l.fn.table.attributes;
}

abbrev pub decreases-loop-line : goal.decreases-loop-line
decreases-loop-line l = length l.rest
