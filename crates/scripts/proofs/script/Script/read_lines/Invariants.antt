use Rattle.std.proofs.Common.{◌≡◌, ◌+◌, ◌≤◌, length}
use denote.Text.{Utf8}
use denote.Shadow.{shadow}
use Rattle.scripts.specs.Script.{script_with_lines, script_of}
use Rattle.text_words.specs.Split.{lines_of}
use Rattle.scripts.proofs.script.Script.read_lines.Given as goal

-- says that each `&str` the loop changes is text
abbrev pub invariant-loop-line : goal.invariant-loop-line
invariant-loop-line l = record {
  text : shadow (Utf8 l.rest);
  lines : script_with_lines l.has_next l.number l.script (lines_of l.rest) ≡ script_of l.has_next l.text;
  counts : l.number + length l.rest ≤ length l.text + 1;
}

abbrev pub decreases-loop-line : goal.decreases-loop-line
decreases-loop-line l = length l.rest
