use Rattle.std.proofs.Common.{◌≡◌, ◌+◌, ◌≤◌, length}
use denote.Text.{Utf8}
use denote.Shadow.{shadow}
use Rattle.device_state.specs.Reading.{state_from, state_of}
use Rattle.text_words.specs.Split.{lines_of}
use Rattle.device_state.proofs.state.State.read_lines.Given as goal

-- says that each `&str` the loop changes is text
abbrev pub invariant-loop-line : goal.invariant-loop-line
invariant-loop-line l = record {
  text : shadow (Utf8 l.rest);
  lines : state_from l.number l.reading (lines_of l.rest) ≡ state_of l.text;
  counts : l.number + length l.rest ≤ length l.text + 1;
}

abbrev pub decreases-loop-line : goal.decreases-loop-line
decreases-loop-line l = length l.rest
