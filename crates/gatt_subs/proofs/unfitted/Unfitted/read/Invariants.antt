use Rattle.std.proofs.Common.{◌≡◌, ◌+◌, ◌≤◌, length}
use denote.Text.{Utf8}
use denote.Shadow.{shadow}
use Rattle.gatt_subs.specs.Unfitted.{rows_with_lines, rows_read}
use Rattle.text_words.specs.Split.{lines_of}
use Rattle.gatt_subs.proofs.unfitted.Unfitted.read.Given as goal

-- says that each `&str` the loop changes is text
abbrev pub invariant-loop-line : goal.invariant-loop-line
invariant-loop-line l = record {
  text : shadow (Utf8 l.rest);
  lines : rows_with_lines l.number l.unfitted (lines_of l.rest) ≡ rows_read l.text;
  counts : l.number + length l.rest ≤ length l.text + 1;
}

abbrev pub decreases-loop-line : goal.decreases-loop-line
decreases-loop-line l = length l.rest
